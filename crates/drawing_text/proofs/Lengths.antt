-- Laws of what is written, piece by piece, and of how many bytes it takes: numbers behind a space, the positions of a set, a line, all lines.
-- No text of a design is longer than 553,419 bytes.
-- Assumes nothing.
use mathlib.Core.Path.{◌≡◌, refl, sym, ap, ap₂, ◌∙◌, subst}
use mathlib.Core.Bool.{Bool, true, false, cond, ◌&&◌}
use mathlib.Core.List.{List, [], ◌∷◌, ◌++◌, append_assoc, append-nil}
use mathlib.Core.Logic.{⊎_elim}
use Prim.Native.Nat.{ℕ, zero, suc, ◌+◌, ◌-◌, ◌*◌, ◌/◌, ◌%◌, ◌^◌, ◌≤◌, ◌<◌}
use native.Mathlib.Nat.{le_refl, add-zero, add-suc, mul-one, mul-zero}
use native.Mathlib.Numerals.{add-one}
use native.Mathlib.Omega.{arith}
use borrow.Author.Tests.{le-leb}
use lib.Dec.{eqb}
use lib.ListN.{length, get_or, take, drop, length-append, take-append-drop}
use lib.Pow.{shr-shr}
use lib.Seq.{take-suc}
use Rattle.numbers.proofs.Bounds.{below_or_above}
use Rattle.text.specs.Texts.{decimal}
use Rattle.text.proofs.Decimals.{decimal_small, decimal_large}
use Rattle.theory_sets.specs.Masks.{has, size, those}
use Rattle.theory_sums.specs.Sums.{indicator, sum_below}
use Rattle.theory_sums.proofs.Sums.{few_tests, sum_below_same}
use Rattle.theory_orders.proofs.Sizes.{size_bits}
use Rattle.record_numbers.specs.Numbering.{most_parts}
use Rattle.record.specs.Records.{Design}
use Rattle.record.specs.RecordBytes.{DesignRules}
use Rattle.drawing_text.specs.Forms.{space, parts_word, set_word, spaced, line_of, set_lines}
use Rattle.drawing_text.specs.Sets.{stands, positions_of}
use Rattle.drawing_text.specs.Writing.{lines_of_sets, drawing_of}

-- ---- numbers, each behind a space

pub spaced_append : (front behind : List ℕ) → spaced (front ++ behind) ≡ spaced front ++ spaced behind
unfolding spaced
spaced_append [] behind = refl
spaced_append (number ∷ front) behind =
    ap (λ (l : List ℕ). space ∷ (decimal number ++ l)) (spaced_append front behind)
    ∙ ap (λ (l : List ℕ). space ∷ l) (sym (append_assoc (decimal number) (spaced front) (spaced behind)))

pub spaced_digit : (number : ℕ) → number < 10 → spaced (number ∷ []) ≡ space ∷ (48 + number) ∷ []
unfolding spaced
spaced_digit number h = ap (λ (l : List ℕ). space ∷ l) (append-nil (decimal number) ∙ decimal_small number h)

pub spaced_ten : (number : ℕ) → 10 ≤ number → number < 20 → spaced (number ∷ []) ≡ space ∷ 49 ∷ (48 + (number - 10)) ∷ []
unfolding spaced
spaced_ten number low high =
    let tenth : number / 10 ≡ 1 = omega arith in
    let last : number % 10 ≡ number - 10 = omega arith in
    ap (λ (l : List ℕ). space ∷ l)
    (append-nil (decimal number) ∙ decimal_large number low
    ∙ ap₂ (λ (l : List ℕ) (d : ℕ). l ++ ((48 + d) ∷ [])) (ap decimal tenth ∙ decimal_small 1 (omega arith)) last)

-- ---- the positions of a set, in their order

-- those below some position
abbrev pub positions_below : ℕ → ℕ → List ℕ
positions_below set position = those (stands set) position

pub positions_none : (set : ℕ) → positions_below set 1 ≡ []
unfolding those
positions_none set = refl

pub positions_all : (set : ℕ) → positions_below set (most_parts + 1) ≡ positions_of set
unfolding positions_of
positions_all set = refl

-- one position more: it is one of the set's, or not
pub positions_next : (set position : ℕ) → 1 ≤ position → positions_below set (position + 1) ≡ positions_below set position ++ cond (has set (position - 1)) (position ∷ []) []
unfolding those
positions_next set position some =
    ap (positions_below set) (add-one position)
    ∙ ap (λ (p : Bool). positions_below set position ++ cond (p && has set (position - 1)) (position ∷ []) []) (le-leb 1 position some)

-- those below a position take no more than all
pub positions_part : (set k m : ℕ) → length (spaced (positions_below set k)) ≤ length (spaced (positions_below set (k + m)))
unfolding those
positions_part set k zero = subst (λ (j : ℕ). length (spaced (positions_below set k)) ≤ length (spaced (positions_below set j))) (sym (add-zero k)) (le_refl _)
positions_part set k (suc m) =
    let more : List ℕ = cond (stands set (k + m)) ((k + m) ∷ []) [] in
    let longer : length (spaced (positions_below set (k + suc m))) ≡ length (spaced (positions_below set (k + m))) + length (spaced more) =
    ap (λ (j : ℕ). length (spaced (positions_below set j))) (add-suc k m) ∙ ap length (spaced_append (positions_below set (k + m)) more)
    ∙ length-append (spaced (positions_below set (k + m))) (spaced more) in
    omega (arith, positions_part set k m)

-- ---- how many bytes they take

-- 1 where the set has the part of that bit
abbrev bit : ℕ → ℕ → ℕ
bit set i = indicator (has set i)

-- one position more
position_length : (set i bytes : ℕ) → length (spaced (suc i ∷ [])) ≡ bytes
    → length (spaced (positions_below set (suc (suc i)))) ≡ length (spaced (positions_below set (suc i))) + bytes * bit set i
unfolding spaced
position_length set i bytes h =
    let back : suc i - 1 ≡ i = omega arith in
    let more : List ℕ = cond (has set i) (suc i ∷ []) [] in
    let next : positions_below set (suc (suc i)) ≡ positions_below set (suc i) ++ more =
    ap (positions_below set) (sym (add-one (suc i))) ∙ positions_next set (suc i) (omega arith)
    ∙ ap (λ (k : ℕ). positions_below set (suc i) ++ cond (has set k) (suc i ∷ []) []) back in
    ap (λ (l : List ℕ). length (spaced l)) next ∙ ap length (spaced_append (positions_below set (suc i)) more)
    ∙ length-append (spaced (positions_below set (suc i))) (spaced more)
    ∙ ap (λ (k : ℕ). length (spaced (positions_below set (suc i))) + k) (cases (has set i))
  where
    cases : (p : Bool) → length (spaced (cond p (suc i ∷ []) [])) ≡ bytes * indicator p
    cases true = h ∙ sym (mul-one bytes)
    cases false = sym (mul-zero bytes)

-- two bytes for a position below 10, and three for one from 10 on
positions_length : (set k : ℕ) → k ≤ most_parts → length (spaced (positions_below set (suc k))) ≡ 2 * sum_below (bit set) k + sum_below (λ i. bit set (9 + i)) (k - 9)
unfolding those spaced sum_below
positions_length set zero h = refl
positions_length set (suc k) h =
    ⊎_elim (λ low.
    let none : suc k - 9 ≡ 0 = omega arith in
    let same : k - 9 ≡ 0 = omega arith in
    omega (
      arith,
      position_length set k 2 (ap length (spaced_digit (suc k) (omega arith))),
      ap (sum_below (λ i. bit set (9 + i))) none,
      ap (sum_below (λ i. bit set (9 + i))) same,
      positions_length set k (omega arith),
    )) (λ high.
    let one : suc k - 9 ≡ suc (k - 9) = omega arith in
    let here : 9 + (k - 9) ≡ k = omega arith in
    omega (
      arith,
      position_length set k 3 (ap length (spaced_ten (suc k) (omega arith) (omega arith))),
      ap (sum_below (λ i. bit set (9 + i))) one,
      ap (bit set) here,
      positions_length set k (omega arith),
    )) (below_or_above k 9)

positions_most : (set : ℕ) → length (spaced (positions_of set)) ≤ 39
unfolding positions_of
positions_most set = omega (arith, positions_length set most_parts (omega arith), few_tests (has set) most_parts, few_tests (λ i. has set (9 + i)) 7)

-- ---- a line

line_length : (word numbers : List ℕ) → length (line_of word numbers) ≡ length word + length (spaced numbers) + 1
unfolding line_of
line_length word numbers = simp length-append (omega arith)

-- the part at position 10 and those above it, as a set of their own
upper_bits : (set i : ℕ) → has (set / 512) i ≡ has set (9 + i)
unfolding has
upper_bits set i = ap (λ (x : ℕ). eqb (x % 2) 1) (shr-shr set 9 i)

-- a set below 2^16: two bytes for each of its parts, and one more for each from position 10 on
pub set_line_length : (set : ℕ) → set < 2 ^ 16 → length (line_of set_word (positions_of set)) ≡ 4 + 2 * size set + size (set / 512)
unfolding positions_of
set_line_length set h =
    let upper : size (set / 512) ≡ sum_below (λ i. bit set (9 + i)) 7 =
    size_bits 7 (set / 512) (omega arith)
    ∙ sum_below_same (bit (set / 512)) (λ i. bit set (9 + i)) 7 (λ i l. ap indicator (upper_bits set i)) in
    omega (arith, line_length set_word (positions_of set), positions_length set most_parts (omega arith), size_bits 16 set h)

set_line_most : (set : ℕ) → length (line_of set_word (positions_of set)) ≤ 43
set_line_most set = omega (arith, line_length set_word (positions_of set), positions_most set)

-- the first line of a machine of up to 19 parts
pub parts_line_digit : (n : ℕ) → n < 10 → length (line_of parts_word (n ∷ [])) ≡ 8
parts_line_digit n h = omega (arith, line_length parts_word (n ∷ []), ap length (spaced_digit n h))

pub parts_line_ten : (n : ℕ) → 10 ≤ n → n < 20 → length (line_of parts_word (n ∷ [])) ≡ 9
parts_line_ten n low high = omega (arith, line_length parts_word (n ∷ []), ap length (spaced_ten n low high))

pub parts_line_most : (n : ℕ) → n < 20 → length (line_of parts_word (n ∷ [])) ≤ 9
parts_line_most n h =
    ⊎_elim (λ low. omega (arith, parts_line_digit n low)) (λ high. omega (arith, parts_line_ten n high h)) (below_or_above n 10)

-- ---- the lines of all sets

set_lines_append : (front behind : List ℕ) → lines_of_sets (front ++ behind) ≡ lines_of_sets front ++ lines_of_sets behind
unfolding set_lines
set_lines_append [] behind = refl
set_lines_append (set ∷ front) behind =
    ap (λ (l : List ℕ). line_of set_word (positions_of set) ++ l) (set_lines_append front behind)
    ∙ sym (append_assoc (line_of set_word (positions_of set)) (lines_of_sets front) (lines_of_sets behind))

-- one set more
pub set_lines_next : (i : ℕ) (sets : List ℕ) → i < length sets → lines_of_sets (take (i + 1) sets) ≡ lines_of_sets (take i sets) ++ line_of set_word (positions_of (get_or sets i 0))
unfolding set_lines
set_lines_next i sets h =
    ap (λ (k : ℕ). lines_of_sets (take k sets)) (add-one i) ∙ ap lines_of_sets (take-suc sets i 0 h) ∙ set_lines_append (take i sets) (get_or sets i 0 ∷ [])
    ∙ ap (λ (l : List ℕ). lines_of_sets (take i sets) ++ l) (append-nil (line_of set_word (positions_of (get_or sets i 0))))

-- the first sets take no more than all
pub set_lines_part : (i : ℕ) (sets : List ℕ) → length (lines_of_sets (take i sets)) ≤ length (lines_of_sets sets)
set_lines_part i sets =
    let whole : lines_of_sets sets ≡ lines_of_sets (take i sets) ++ lines_of_sets (drop i sets) =
    ap lines_of_sets (sym (take-append-drop i sets)) ∙ set_lines_append (take i sets) (drop i sets) in
    omega (arith, simp length-append at (ap length whole))

pub set_lines_most : (sets : List ℕ) → length (lines_of_sets sets) ≤ 43 * length sets
unfolding set_lines
set_lines_most [] = le_refl 0
set_lines_most (set ∷ sets) =
    omega (arith, length-append (line_of set_word (positions_of set)) (lines_of_sets sets), set_line_most set, set_lines_most sets)

-- ---- the text of a design

pub drawing_most : (d : Design) → DesignRules d → length (drawing_of d) ≤ 553419
unfolding drawing_of
drawing_most d rules =
    let n = d.parts.count in
    omega (
      arith,
      length-append (line_of parts_word (n ∷ [])) (lines_of_sets d.sets),
      parts_line_most n (omega (arith, rules.parts.rules.few)),
      set_lines_most d.sets,
      rules.sets.most,
    )
