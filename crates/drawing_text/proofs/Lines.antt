-- Laws of the lines of a text: a text that is not empty begins with its first line, and a line that is written is cut off whole.
-- Assumes nothing.
use mathlib.Core.Path.{◌≡◌, refl, sym, ap, ◌∙◌, subst}
use mathlib.Core.Bool.{Bool, true, false}
use mathlib.Core.List.{List, [], ◌∷◌, ◌++◌, append_assoc}
use Prim.Native.Nat.{ℕ, ◌≤◌}
use native.Mathlib.Omega.{arith}
use borrow.Author.Tests.{eqb-true, eqb-false, ne_eqb}
use lib.Dec.{eqb}
use lib.ListN.{length, get_or}
use Rattle.numbers.proofs.Bools.{false_of}
use Rattle.text.specs.Texts.{decimal}
use Rattle.drawing_text.specs.Lines.{line_feed, begun, lines_of, first_line}
use Rattle.drawing_text.specs.Forms.{parts_word, set_word, spaced, line_of, is_parts_line, is_set_line}
use Rattle.drawing_text.proofs.Numerals.{Without, without_append, digits_without, decimal_digits}
use Rattle.drawing_text.proofs.Forms.{parts_word_without, set_word_without, parts_line_exactly, set_line_exactly}

-- ---- one line

-- the first line, and the bytes behind it
pub record FirstLine (bytes : List ℕ) : Type 0 where
  pub line : List ℕ
  pub behind : List ℕ
  pub same : bytes ≡ line ++ behind
  pub lines : lines_of bytes ≡ line ∷ lines_of behind

lines_feed : (bytes : List ℕ) → lines_of (line_feed ∷ bytes) ≡ (line_feed ∷ []) ∷ lines_of bytes
unfolding lines_of
lines_feed bytes = refl

lines_other : (byte : ℕ) (bytes : List ℕ) → (byte ≡ line_feed → ⊥) → lines_of (byte ∷ bytes) ≡ begun byte (lines_of bytes)
unfolding lines_of
lines_other byte bytes h = rw (ne_eqb byte line_feed h, lines_of)

-- a byte that begins a line by itself, since it is a line feed
feed_line : (byte : ℕ) (bytes : List ℕ) → byte ≡ line_feed → FirstLine (byte ∷ bytes)
feed_line byte bytes e =
    subst (λ (b : ℕ). FirstLine (b ∷ bytes)) (sym e) (record { line = line_feed ∷ []; behind = bytes; same = refl; lines = lines_feed bytes })

-- and one in front of a first line
longer_line : (byte : ℕ) (bytes : List ℕ) → FirstLine bytes → FirstLine (byte ∷ bytes)
longer_line byte bytes f = cases (eqb byte line_feed) refl
  where
    cases : (t : Bool) → eqb byte line_feed ≡ t → FirstLine (byte ∷ bytes)
    cases true h = feed_line byte bytes (eqb-true byte line_feed h)
    cases false h =
        record {
          line = byte ∷ f.line;
          behind = f.behind;
          same = ap (λ (l : List ℕ). byte ∷ l) f.same;
          lines = lines_other byte bytes (eqb-false byte line_feed h) ∙ ap (begun byte) f.lines;
        }

last_line : (byte : ℕ) → FirstLine (byte ∷ [])
unfolding lines_of
last_line byte = cases (eqb byte line_feed) refl
  where
    cases : (t : Bool) → eqb byte line_feed ≡ t → FirstLine (byte ∷ [])
    cases true h = feed_line byte [] (eqb-true byte line_feed h)
    cases false h = record { line = byte ∷ []; behind = []; same = refl; lines = lines_other byte [] (eqb-false byte line_feed h) }

pub first_line_lem : (byte : ℕ) (bytes : List ℕ) → FirstLine (byte ∷ bytes)
first_line_lem byte [] = last_line byte
first_line_lem byte (next ∷ bytes) = longer_line byte (next ∷ bytes) (first_line_lem next bytes)

-- ---- a line that is written

spaced_no_feed : (numbers : List ℕ) → Without line_feed (spaced numbers)
unfolding spaced
spaced_no_feed [] = tt
spaced_no_feed (number ∷ numbers) =
    ((λ e. omega (arith, e)), without_append line_feed (decimal number) (spaced numbers) (digits_without line_feed (omega arith) (decimal number) (decimal_digits number)) (spaced_no_feed numbers))

lines_cut : (front rest : List ℕ) → Without line_feed front → lines_of (front ++ line_feed ∷ rest) ≡ (front ++ (line_feed ∷ [])) ∷ lines_of rest
lines_cut [] rest h = lines_feed rest
lines_cut (byte ∷ front) rest h = lines_other byte (front ++ line_feed ∷ rest) h.0 ∙ ap (begun byte) (lines_cut front rest h.1)

-- how a line stands in front of other bytes
pub line_shown : (word numbers rest : List ℕ) → line_of word numbers ++ rest ≡ word ++ (spaced numbers ++ line_feed ∷ rest)
unfolding line_of
line_shown word numbers rest =
    append_assoc word (spaced numbers ++ (line_feed ∷ [])) rest ∙ ap (λ (l : List ℕ). word ++ l) (append_assoc (spaced numbers) (line_feed ∷ []) rest)

module _ (word : List ℕ) (single : Without line_feed word) (numbers rest : List ℕ) where
  line_cut : lines_of (line_of word numbers ++ rest) ≡ line_of word numbers ∷ lines_of rest
  unfolding line_of
  line_cut =
      ap lines_of (line_shown word numbers rest ∙ sym (append_assoc word (spaced numbers) (line_feed ∷ rest)))
      ∙ lines_cut (word ++ spaced numbers) rest (without_append line_feed word (spaced numbers) single (spaced_no_feed numbers))
      ∙ ap (λ (l : List ℕ). l ∷ lines_of rest) (append_assoc word (spaced numbers) (line_feed ∷ []))

pub parts_line_cut : (numbers rest : List ℕ) → lines_of (line_of parts_word numbers ++ rest) ≡ line_of parts_word numbers ∷ lines_of rest
parts_line_cut numbers rest = line_cut parts_word (parts_word_without line_feed (omega arith)) numbers rest

pub set_line_cut : (numbers rest : List ℕ) → lines_of (line_of set_word numbers ++ rest) ≡ line_of set_word numbers ∷ lines_of rest
set_line_cut numbers rest = line_cut set_word (set_word_without line_feed (omega arith)) numbers rest

-- ---- the first line of some bytes is of a form exactly if a line of that form stands in front of them

first_of_some : (byte : ℕ) (bytes : List ℕ) → (byte ∷ bytes ≡ first_line (byte ∷ bytes) ++ (first_line_lem byte bytes).behind)
first_of_some byte bytes =
    let f = first_line_lem byte bytes in
    f.same ∙ ap (λ (l : List ℕ). l ++ f.behind) (sym (ap (λ (lines : List (List ℕ)). get_or lines 0 []) f.lines))

pub parts_line_first : (n : ℕ) (rest : List ℕ) → first_line (line_of parts_word (n ∷ []) ++ rest) ≡ line_of parts_word (n ∷ [])
parts_line_first n rest = ap (λ (lines : List (List ℕ)). get_or lines 0 []) (parts_line_cut (n ∷ []) rest)

pub set_line_first : (positions rest : List ℕ) → first_line (line_of set_word positions ++ rest) ≡ line_of set_word positions
set_line_first positions rest = ap (λ (lines : List (List ℕ)). get_or lines 0 []) (set_line_cut positions rest)

pub no_parts_line : (bytes : List ℕ) → ((n : ℕ) (more : List ℕ) → bytes ≡ line_of parts_word (n ∷ []) ++ more → ⊥) → is_parts_line (first_line bytes) ≡ false
unfolding is_parts_line lines_of line_of
no_parts_line [] none = refl
no_parts_line (byte ∷ bytes) none =
    false_of (is_parts_line (first_line (byte ∷ bytes))) (λ h.
    let found = (parts_line_exactly (first_line (byte ∷ bytes))).0 h in
    none found.0 (first_line_lem byte bytes).behind (first_of_some byte bytes ∙ ap (λ (l : List ℕ). l ++ (first_line_lem byte bytes).behind) found.1))

pub no_set_line : (bytes : List ℕ) → ((positions more : List ℕ) → 1 ≤ length positions → bytes ≡ line_of set_word positions ++ more → ⊥) → is_set_line (first_line bytes) ≡ false
unfolding is_set_line lines_of line_of
no_set_line [] none = refl
no_set_line (byte ∷ bytes) none =
    false_of (is_set_line (first_line (byte ∷ bytes))) (λ h.
    let found = (set_line_exactly (first_line (byte ∷ bytes))).0 h in
    none found.0 (first_line_lem byte bytes).behind found.1
    (first_of_some byte bytes ∙ ap (λ (l : List ℕ). l ++ (first_line_lem byte bytes).behind) found.2))
