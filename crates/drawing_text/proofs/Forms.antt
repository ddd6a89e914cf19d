-- Laws of the two forms of a line: a line is of a form exactly if it is written with the keyword from some numbers, which then are the numbers
-- on it; and bytes in front of which a line of that form stands show its numbers one by one.
-- Assumes nothing.
use mathlib.Core.Path.{◌≡◌, refl, sym, ap, ap₂, ◌∙◌, subst}
use mathlib.Core.Bool.{true, false, ◌&&◌}
use mathlib.Core.List.{List, [], ◌∷◌, ◌++◌, append_assoc, append-nil}
use mathlib.Core.Logic.{◌↔◌}
use Prim.Native.Nat.{ℕ, ◌≤◌, ◌<◌}
use native.Mathlib.Omega.{arith}
use borrow.Author.Tests.{eqb-true, eq-eqb, ne_eqb, leb-true, le-leb}
use lib.Dec.{eqb, leb}
use lib.ListN.{length}
use Rattle.numbers.proofs.Bools.{and_left, and_right, and_both, clash}
use Rattle.text.specs.Texts.{decimal}
use Rattle.drawing_text.specs.Lines.{line_feed}
use Rattle.drawing_text.specs.Forms.{space, parts_word, set_word, spaced, line_of, value_from, numbers_in, same_bytes, is_parts_line, is_set_line}
use Rattle.drawing_text.proofs.Numerals.{NoDigit, Without, digits_without, value_run, decimal_digits, decimal_value, run_same}

-- ---- equal bytes

pub same_bytes_lem : (a b : List ℕ) → same_bytes a b ≡ true → a ≡ b
same_bytes_lem [] [] h = refl
same_bytes_lem [] (y ∷ b) h = clash {p = false} h refl
same_bytes_lem (x ∷ a) [] h = clash {p = false} h refl
same_bytes_lem (x ∷ a) (y ∷ b) h =
    ap₂ (λ (z : ℕ) (l : List ℕ). z ∷ l) (eqb-true x y (and_left (eqb x y) (same_bytes a b) h)) (same_bytes_lem a b (and_right (eqb x y) (same_bytes a b) h))

pub bytes_same : (a : List ℕ) → same_bytes a a ≡ true
bytes_same [] = refl
bytes_same (x ∷ a) = and_both (eq-eqb x x refl) (bytes_same a)

-- ---- the numbers of a line that is written

numbers_past : (front rest : List ℕ) → Without space front → numbers_in (front ++ rest) ≡ numbers_in rest
unfolding numbers_in
numbers_past [] rest h = refl
numbers_past (byte ∷ front) rest h = rw (ne_eqb byte space h.0, numbers_in) (numbers_past front rest h.1)

numbers_space : (bytes : List ℕ) → numbers_in (space ∷ bytes) ≡ value_from 0 bytes ∷ numbers_in bytes
unfolding numbers_in
numbers_space bytes = refl

-- numbers, each behind a space, and then a line feed: no digit stands in front
pub spaced_no_digit : (numbers : List ℕ) (rest : List ℕ) → NoDigit (spaced numbers ++ line_feed ∷ rest)
unfolding spaced
spaced_no_digit [] rest = refl
spaced_no_digit (number ∷ numbers) rest = refl

numbers_spaced : (numbers rest : List ℕ) → numbers_in (line_feed ∷ rest) ≡ [] → numbers_in (spaced numbers ++ line_feed ∷ rest) ≡ numbers
unfolding spaced
numbers_spaced [] rest none = none
numbers_spaced (number ∷ numbers) rest none =
    let behind : List ℕ = spaced numbers ++ line_feed ∷ rest in
    ap (λ (l : List ℕ). numbers_in (space ∷ l)) (append_assoc (decimal number) (spaced numbers) (line_feed ∷ rest))
    ∙ numbers_space (decimal number ++ behind)
    ∙ ap₂ (λ (n : ℕ) (l : List ℕ). n ∷ l)
    (value_run 0 (decimal number) behind (decimal_digits number) (spaced_no_digit numbers rest) ∙ decimal_value number)
    (numbers_past (decimal number) behind (digits_without space (omega arith) (decimal number) (decimal_digits number)) ∙ numbers_spaced numbers rest none)

module _ (word : List ℕ) (single : Without space word) where
  numbers_written : (numbers : List ℕ) → numbers_in (line_of word numbers) ≡ numbers
  unfolding line_of numbers_in
  numbers_written numbers = numbers_past word (spaced numbers ++ (line_feed ∷ [])) single ∙ numbers_spaced numbers [] refl

  -- a line that is written passes, and so its numbers are those on it
  written_same : (line numbers : List ℕ) → line ≡ line_of word numbers → (same_bytes line (line_of word (numbers_in line)) ≡ true) × (numbers_in line ≡ numbers)
  written_same line numbers e =
      let on : numbers_in line ≡ numbers = ap numbers_in e ∙ numbers_written numbers in
      (subst (λ (l : List ℕ). same_bytes line l ≡ true) (e ∙ ap (line_of word) (sym on)) (bytes_same line), on)

-- neither keyword has a byte below its letters
pub parts_word_without : (other : ℕ) → other < 97 → Without other parts_word
parts_word_without other low =
    ((λ e. omega (arith, low, e)), ((λ e. omega (arith, low, e)), ((λ e. omega (arith, low, e)), ((λ e. omega (arith, low, e)), ((λ e. omega (arith, low, e)), tt)))))

pub set_word_without : (other : ℕ) → other < 97 → Without other set_word
set_word_without other low = ((λ e. omega (arith, low, e)), ((λ e. omega (arith, low, e)), ((λ e. omega (arith, low, e)), tt)))

parts_single : Without space parts_word
parts_single = parts_word_without space (omega arith)

set_single : Without space set_word
set_single = set_word_without space (omega arith)

-- ---- of which form a line is

pub parts_line_numbers : (n : ℕ) → numbers_in (line_of parts_word (n ∷ [])) ≡ n ∷ []
parts_line_numbers n = numbers_written parts_word parts_single (n ∷ [])

pub set_line_numbers : (positions : List ℕ) → numbers_in (line_of set_word positions) ≡ positions
set_line_numbers positions = numbers_written set_word set_single positions

pub parts_line_exactly : (line : List ℕ) → (is_parts_line line ≡ true) ↔ ((n : ℕ) × (line ≡ line_of parts_word (n ∷ [])))
unfolding is_parts_line
parts_line_exactly line = (forward, backward)
  where
    one : (numbers : List ℕ) → length numbers ≡ 1 → line ≡ line_of parts_word numbers → (n : ℕ) × (line ≡ line_of parts_word (n ∷ []))
    one [] h e = absurd (omega (arith, h))
    one (n ∷ []) h e = (n, e)
    one (n ∷ m ∷ more) h e = absurd (omega (arith, h))

    forward : same_bytes line (line_of parts_word (numbers_in line)) && eqb (length (numbers_in line)) 1 ≡ true → (n : ℕ) × (line ≡ line_of parts_word (n ∷ []))
    forward h =
        one (numbers_in line) (eqb-true (length (numbers_in line)) 1 (and_right (same_bytes line (line_of parts_word (numbers_in line))) (eqb (length (numbers_in line)) 1) h))
        (same_bytes_lem line (line_of parts_word (numbers_in line)) (and_left (same_bytes line (line_of parts_word (numbers_in line))) (eqb (length (numbers_in line)) 1) h))

    backward : (n : ℕ) × (line ≡ line_of parts_word (n ∷ [])) → same_bytes line (line_of parts_word (numbers_in line)) && eqb (length (numbers_in line)) 1 ≡ true
    backward f =
        let w = written_same parts_word parts_single line (f.0 ∷ []) f.1 in
        and_both w.0 (eq-eqb (length (numbers_in line)) 1 (ap length w.1))

pub set_line_exactly : (line : List ℕ) → (is_set_line line ≡ true) ↔ ((positions : List ℕ) × (1 ≤ length positions) × (line ≡ line_of set_word positions))
unfolding is_set_line
set_line_exactly line = (forward, backward)
  where
    forward : same_bytes line (line_of set_word (numbers_in line)) && leb 1 (length (numbers_in line)) ≡ true → (positions : List ℕ) × (1 ≤ length positions) × (line ≡ line_of set_word positions)
    forward h = (
      numbers_in line,
      leb-true 1 (length (numbers_in line)) (and_right (same_bytes line (line_of set_word (numbers_in line))) (leb 1 (length (numbers_in line))) h),
      same_bytes_lem line (line_of set_word (numbers_in line)) (and_left (same_bytes line (line_of set_word (numbers_in line))) (leb 1 (length (numbers_in line))) h),
    )

    backward : (positions : List ℕ) × (1 ≤ length positions) × (line ≡ line_of set_word positions) → same_bytes line (line_of set_word (numbers_in line)) && leb 1 (length (numbers_in line)) ≡ true
    backward f =
        let w = written_same set_word set_single line f.0 f.2 in
        and_both w.0 (le-leb 1 (length (numbers_in line)) (subst (λ (l : List ℕ). 1 ≤ length l) (sym w.1) f.1))

-- ---- how the numbers of a line show one by one

-- What stands behind some numbers of a line, each behind a space, in front of which no further digit stands: the line feed, and these are all
-- the numbers of the line; or one more number.
pub data Behind (numbers all rest more : List ℕ) : Type 0 where
  the_end : all ≡ numbers → rest ≡ line_feed ∷ more → Behind numbers all rest more
  another : (number : ℕ) (later : List ℕ) → all ≡ numbers ++ (number ∷ later) → rest ≡ space ∷ decimal number ++ (spaced later ++ line_feed ∷ more)
      → Behind numbers all rest more

pub spaced_behind : (numbers all rest more : List ℕ) → (1 ≤ length numbers → NoDigit rest) → spaced numbers ++ rest ≡ spaced all ++ line_feed ∷ more → Behind numbers all rest more
unfolding spaced
spaced_behind [] [] rest more none e = the_end refl e
spaced_behind [] (number ∷ later) rest more none e =
    another number later refl (e ∙ ap (λ (l : List ℕ). space ∷ l) (append_assoc (decimal number) (spaced later) (line_feed ∷ more)))
spaced_behind (n ∷ numbers) [] rest more none e = let same : space ≡ line_feed = cc in absurd (omega (arith, same))
spaced_behind (n ∷ numbers) (m ∷ all) rest more none e =
    let bytes : decimal n ++ (spaced numbers ++ rest) ≡ decimal m ++ (spaced all ++ line_feed ∷ more) =
    sym (append_assoc (decimal n) (spaced numbers) rest) ∙ tail e ∙ append_assoc (decimal m) (spaced all) (line_feed ∷ more) in
    let run = run_same (decimal n) (decimal m) (spaced numbers ++ rest) (spaced all ++ line_feed ∷ more) (decimal_digits n) (decimal_digits m)
    (next numbers) (spaced_no_digit all more) bytes in
    let same : n ≡ m = sym (decimal_value n) ∙ ap (value_from 0) run.0 ∙ decimal_value m in
    one same (spaced_behind numbers all rest more (λ h. none (omega arith)) run.1)
  where
    tail : {a b : ℕ} {x y : List ℕ} → a ∷ x ≡ b ∷ y → x ≡ y
    tail h = cc

    next : (numbers : List ℕ) → NoDigit (spaced numbers ++ rest)
    next [] = none (omega arith)
    next (k ∷ later) = refl

    one : n ≡ m → Behind numbers all rest more → Behind (n ∷ numbers) (m ∷ all) rest more
    one same (the_end whole end) = the_end (ap₂ (λ (k : ℕ) (l : List ℕ). k ∷ l) (sym same) whole) end
    one same (another number later whole end) = another number later (ap₂ (λ (k : ℕ) (l : List ℕ). k ∷ l) (sym same) whole) end

-- one number more
pub spaced_more : (numbers : List ℕ) (number : ℕ) (rest : List ℕ) → spaced (numbers ++ (number ∷ [])) ++ rest ≡ spaced numbers ++ (space ∷ (decimal number ++ rest))
unfolding spaced
spaced_more [] number rest = ap (λ (l : List ℕ). space ∷ (l ++ rest)) (append-nil (decimal number))
spaced_more (n ∷ numbers) number rest =
    ap (λ (l : List ℕ). space ∷ l)
    (append_assoc (decimal n) (spaced (numbers ++ (number ∷ []))) rest ∙ ap (λ (l : List ℕ). decimal n ++ l) (spaced_more numbers number rest)
    ∙ sym (append_assoc (decimal n) (spaced numbers) (space ∷ (decimal number ++ rest))))
