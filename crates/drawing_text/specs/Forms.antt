-- The two forms of a line (02, §1): `parts 5`, and `set 1 4` "with positions separated by one space, each line ending in a line feed". "Numbers
-- are decimal without a leading zero, 0 itself being well formed, and a set line has at least one."
use Rattle.std.specs.Prelude.{Bool, true, false, ◌&&◌, List, [], ◌∷◌, ◌++◌, ℕ, ◌+◌, ◌-◌, ◌*◌, leb, eqb, length}
use Rattle.text.specs.Texts.{ascii, decimal}
use Rattle.drawing_text.specs.Lines.{line_feed}

-- what stands in front of each number
abbrev pub space : ℕ
space = 0x20

-- the keywords
abbrev pub parts_word : List ℕ
parts_word = ascii "parts"

abbrev pub set_word : List ℕ
set_word = ascii "set"

-- ---- how a line is written

-- numbers in decimal, a space in front of each
unfoldable pub spaced : List ℕ → List ℕ
spaced [] = []
spaced (number ∷ numbers) = space ∷ (decimal number ++ spaced numbers)

-- a keyword, numbers, and a line feed
unfoldable pub line_of : List ℕ → List ℕ → List ℕ
line_of word numbers = word ++ (spaced numbers ++ (line_feed ∷ []))

-- a set line for each of some lists of positions
unfoldable pub set_lines : List (List ℕ) → List ℕ
set_lines [] = []
set_lines (positions ∷ more) = line_of set_word positions ++ set_lines more

-- ---- of which form a line is

-- a byte that is a decimal digit
abbrev pub digit : ℕ → Bool
digit byte = leb 48 byte && leb byte 57

-- what the digits in front of some bytes stand for, behind digits that stand for `front`
unfoldable pub value_from : ℕ → List ℕ → ℕ
value_from front [] = front
value_from front (byte ∷ bytes) = elim (digit byte) [ true ↦ value_from (10 * front + (byte - 48)) bytes | false ↦ front ]

-- the numbers on a line: what the digits behind each space stand for
unfoldable pub numbers_in : List ℕ → List ℕ
numbers_in [] = []
numbers_in (byte ∷ bytes) = elim (eqb byte space) [ true ↦ value_from 0 bytes ∷ numbers_in bytes | false ↦ numbers_in bytes ]

-- two byte strings are the same
abbrev pub same_bytes : List ℕ → List ℕ → Bool
same_bytes [] [] = true
same_bytes [] (other ∷ others) = false
same_bytes (byte ∷ bytes) [] = false
same_bytes (byte ∷ bytes) (other ∷ others) = eqb byte other && same_bytes bytes others

-- A line is of a form if it is what is written of its numbers with that keyword: for `parts` one number, for `set` at least one.
unfoldable pub is_parts_line : List ℕ → Bool
is_parts_line line = same_bytes line (line_of parts_word (numbers_in line)) && eqb (length (numbers_in line)) 1

unfoldable pub is_set_line : List ℕ → Bool
is_set_line line = same_bytes line (line_of set_word (numbers_in line)) && leb 1 (length (numbers_in line))
