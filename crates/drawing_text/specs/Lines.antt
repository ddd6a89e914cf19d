-- The lines of a text.
use Rattle.std.specs.Prelude.{true, false, List, [], ◌∷◌, ℕ, eqb, get_or}

-- what ends a line
abbrev pub line_feed : ℕ
line_feed = 0x0A

-- a byte in front of the first of some lines
abbrev pub begun : ℕ → List (List ℕ) → List (List ℕ)
begun byte [] = (byte ∷ []) ∷ []
begun byte (line ∷ lines) = (byte ∷ line) ∷ lines

-- A text cut behind each line feed: every line with its own, and a last one without where bytes stand behind the last line feed.
unfoldable pub lines_of : List ℕ → List (List ℕ)
lines_of [] = []
lines_of (byte ∷ bytes) = elim (eqb byte line_feed) [ true ↦ (byte ∷ []) ∷ lines_of bytes | false ↦ begun byte (lines_of bytes) ]

-- the first line; of an empty text, no bytes
abbrev pub first_line : List ℕ → List ℕ
first_line text = get_or (lines_of text) 0 []
