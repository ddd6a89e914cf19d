-- The coefficients of h by the counts of path sets by type: the counts are those of the definition, every term stays in range, and the signed terms
-- add up to the coefficient. Assumes nothing.
use mathlib.Core.Path.{◌≡◌, refl, sym, ap, ap₂, ◌∙◌}
use mathlib.Core.Bool.{Bool, true, cond, ◌&&◌}
use mathlib.Core.List.{List}
use Prim.Native.Nat.{ℕ, zero, suc, ◌+◌, ◌-◌, ◌*◌, ◌/◌, ◌%◌, ◌^◌, ◌≤◌, ◌<◌}
use native.Mathlib.Nat.{le_of_eq, mul-le-mul, add-zero}
use native.Mathlib.Numerals.{add-one}
use native.Mathlib.Omega.{arith}
use lib.Count.{ones-le}
use lib.Dec.{eqb}
use lib.IntN.{ℤ, pos, negsuc, neg_ℤ, ◌-ℤ◌, ◌*ℤ◌, pow, one, +ℤ_idl, pos-*ℤ-pos}
use lib.ListN.{length, get_or, set, replicate}
use lib.Pow.{pow_mono}
use borrow.Author.Tests.{eqb-true, eq-eqb}
use Rattle.numbers.specs.Counts.{choose}
use Rattle.numbers.specs.Tables.{tabulate, NoneOver}
use Rattle.integers.proofs.Differences.{difference_small}
use Rattle.numbers.proofs.Tables.{filled_none, filled_again, tabulate_at, tabulate_length, tabulate_same}
use Rattle.theory_sums.specs.Sums.{sum_belowℤ, gathered}
use Rattle.theory_sums.proofs.Sums.{sum_below_same}
use Rattle.theory_sums.proofs.Integers.{*ℤ-unit, negℤ-*ℤ, unit-*ℤ, *ℤ-assoc, ring}
use Rattle.theory_sums.proofs.IntegerSums.{sum_belowℤ_same, sum_belowℤ_mul}
use Rattle.theory_sets.specs.Masks.{size, inside, outside}
use Rattle.theory_sets.specs.Tables.{in_table}
use Rattle.numbers.proofs.Bools.{same_test, and_left, and_right}
use Rattle.structure_words.specs.Words.{in_words, words_of}
use Rattle.theory_figures.specs.Figures.{sign, domination}
use Rattle.theory_figures.proofs.Signs.{sign_even, sign_odd}
use Rattle.shares_claim.specs.Polynomials.{row_length}
use Rattle.shares_claim.specs.Reliability.{reliability, reliability_cells}
use Rattle.shares_claim.proofs.Types.{type_count, inside_and_outside, inside_most, outside_most}
use Rattle.numbers.proofs.Counts.{choose_small, up_to_16_given}
use Rattle.shares_claim.proofs.Reliability.{reliability_by_type}
use Rattle.theory_sums.proofs.Gathering.{gathered_none, gathered_list_few, gathered_add, gathered_skip}
use Rattle.shares_group.proofs.Gathering.{gathered_words}
use Rattle.shares_polynomial.specs.Inside.{type_of, type_term, coefficient_of}
use Rattle.shares_claim.proofs.Sums.{row_below, place_below, grid_sum, carried_none, carried_more}

-- ---- counts by type

-- a type is told by its number
type_test : (x y i j : ℕ) → y < 17 → j < 17 → eqb (x * 17 + y) (i * 17 + j) ≡ eqb x i && eqb y j
type_test x y i j low small =
    same_test (eqb (x * 17 + y) (i * 17 + j)) (eqb x i && eqb y j)
    (λ t.
    let same : x * 17 + y ≡ i * 17 + j = eqb-true (x * 17 + y) (i * 17 + j) t in
    ap₂ (λ (p q : Bool). p && q) (eq-eqb x i (omega arith)) (eq-eqb y j (omega arith)))
    (λ t.
    let first : x ≡ i = eqb-true x i (and_left (eqb x i) (eqb y j) t) in
    let second : y ≡ j = eqb-true y j (and_right (eqb x i) (eqb y j) t) in
    eq-eqb (x * 17 + y) (i * 17 + j) (omega arith))

-- a type's number is below 289
module _ (group a : ℕ) (within : group < 65536) (l : a < 65536) where
  pub outside_few : outside group a ≤ 16
  outside_few = omega (arith, outside_most 16 group a within l)

  pub type_few : type_of group a < 289
  type_few = omega (arith, outside_few, inside_most 16 group a within l, ones-le 16 group within)

gathered_type : (n : ℕ) (works : ℕ → Bool) (group : ℕ) → n ≤ 16 → group < 2 ^ n → (i j : ℕ) → j < 17
    → gathered works (type_of group) (λ a. 1) (2 ^ n) (i * 17 + j) ≡ type_count n works group i j
unfolding gathered type_count
gathered_type n works group few within i j low =
    sum_below_same _ _ (2 ^ n) (λ a l.
    ap (λ (t : Bool). cond (works a && t) 1 0)
    (type_test (inside group a) (outside group a) i j
    (let small : outside group a < 17 = omega (arith, outside_most n group a within l) in small) low))

-- the counts that a list holds
module _ (n : ℕ) (table words : List ℕ) (group : ℕ) (few : n ≤ 16) (within : group < 2 ^ n) (loaded : words ≡ words_of (in_table table))
    (counts : List ℕ) (is : counts ≡ tabulate 289 (gathered (in_words words) (type_of group) (λ a. 1) (2 ^ n))) where
  counted : (i j : ℕ) → i ≤ 16 → j ≤ 16 → get_or counts (i * 17 + j) 0 ≡ type_count n (in_table table) group i j
  counted i j h l =
      ap (λ (xs : List ℕ). get_or xs (i * 17 + j) 0) is
      ∙ tabulate_at 289 (gathered (in_words words) (type_of group) (λ a. 1) (2 ^ n)) (i * 17 + j) 0 (omega arith)
      ∙ gathered_words n table words (type_of group) (λ a. 1) few loaded (i * 17 + j)
      ∙ gathered_type n (in_table table) group few within i j (omega arith)

  pub counts_few : NoneOver 65536 counts
  counts_few s = omega (arith, pow_mono few, gathered_list_few (in_words words) (type_of group) (λ a. 1) 289 1 (2 ^ n) s counts is (λ a l. le_of_eq refl))

  coefficient_is : (i j : ℕ) → i ≤ size group → j ≤ n - size group → coefficient_of n (size group) counts i j ≡ reliability n (in_table table) group i j
  unfolding coefficient_of domination
  coefficient_is i j h l =
      sum_belowℤ_same _ _ (suc j) (λ b m.
      ap (λ (u : ℤ). sign (j - b) *ℤ pos (choose (n - size group - b) (j - b)) *ℤ u)
      (sum_belowℤ_same _ _ (suc i) (λ a p.
      ap (λ (x : ℕ). sign (i - a) *ℤ pos (choose (size group - a) (i - a)) *ℤ pos x)
      (counted a b (omega (arith, ones-le n group within)) (omega (arith, ones-le n group within))))))
      ∙ sym (reliability_by_type n (in_table table) group within i j h l)

  -- what the cells are written as
  pub coefficients_are : (m : ℕ) → m ≡ size group
      → reliability_cells n (in_table table) group ≡ tabulate ((m + 1) * row_length n m) (λ c. coefficient_of n m counts (c / row_length n m) (c % row_length n m))
  unfolding reliability_cells
  coefficients_are m sized =
      sym (ap (λ (m : ℕ). tabulate ((m + 1) * row_length n m) (λ c. coefficient_of n m counts (c / row_length n m) (c % row_length n m))) sized
      ∙ tabulate_same ((size group + 1) * row_length n (size group)) _ _ (λ c l.
      let row = row_below c (size group + 1) (row_length n (size group)) (omega arith) l in
      let place = place_below c (row_length n (size group)) (omega arith) in
      coefficient_is (c / row_length n (size group)) (c % row_length n (size group)) (omega arith) (omega arith)))

pub size_few : (n group : ℕ) → group < 2 ^ n → size group ≤ n
size_few n group within = ones-le n group within

pub inside_less : (group a : ℕ) → group < 65536 → a < 65536 → inside group a ≤ size a
inside_less group a within l = omega (arith, inside_and_outside 16 group a within l)

pub types_none : (test : ℕ → Bool) (class amount : ℕ → ℕ) → replicate 289 0 ≡ tabulate 289 (gathered test class amount 0)
unfolding tabulate
types_none test class amount = gathered_none test class amount 289

-- what a path set leaves of the counts of the sets below it
pub type_more : (words : List ℕ) (group a : ℕ) → group < 65536 → a < 65536 → in_words words a ≡ true
    → tabulate 289 (gathered (in_words words) (type_of group) (λ b. 1) (a + 1))
    ≡ set (tabulate 289 (gathered (in_words words) (type_of group) (λ b. 1) a)) (type_of group a)
    ((get_or (tabulate 289 (gathered (in_words words) (type_of group) (λ b. 1) a)) (type_of group a) 0 + 1) % 2 ^ 64)
type_more words group a within l path =
    sym (gathered_add (in_words words) (type_of group) (λ b. 1) 289 a 1 (λ b h. le_of_eq refl) (omega (arith, l)) _ _ (type_of group a) 1 refl path
    (type_few group a within l) refl refl refl)

-- the factors of a term
pub binomials_few : (n k m j : ℕ) → n ≤ 16 → m ≤ 16 → choose n k * choose m j ≤ 2 ^ 32
binomials_few n k m j few low = mul-le-mul (choose_small n k few) (choose_small m j low)

pub counted_few : (counts : List ℕ) (t x : ℕ) → NoneOver 65536 counts → x ≤ 2 ^ 32 → x * get_or counts t 0 ≤ 2 ^ 48
counted_few counts t x few low = mul-le-mul low (few t)

-- there are at most 17 × 17 cells
pub cells_few : (n m : ℕ) → n ≤ 16 → m ≤ n → (m + 1) * row_length n m ≤ 289
cells_few n m most h =
    let rows : m + 1 ≤ 17 = omega arith in
    let row : row_length n m ≤ 17 = omega arith in
    mul-le-mul rows row

pub cells_length : (n : ℕ) (works : ℕ → Bool) (group : ℕ) → length (reliability_cells n works group) ≡ (size group + 1) * row_length n (size group)
unfolding reliability_cells
cells_length n works group = tabulate_length ((size group + 1) * row_length n (size group)) _

-- ---- the terms of a coefficient

pub type_term_few : (n m : ℕ) (counts : List ℕ) (i j b a : ℕ) → n ≤ 16 → m ≤ n → NoneOver 65536 counts → type_term n m counts i j b a ≤ 2 ^ 48
unfolding type_term
type_term_few n m counts i j b a most within few =
    mul-le-mul (mul-le-mul (choose_small (m - a) (i - a) (omega arith)) (choose_small (n - m - b) (j - b) (omega arith))) (few (a * 17 + b))

-- there are at most 17 × 17 terms
pub terms_few : (n m i j : ℕ) → n ≤ 16 → m ≤ n → i ≤ m → j ≤ n - m → (j + 1) * (i + 1) ≤ 289
terms_few n m i j most h k l =
    let rows : j + 1 ≤ 17 = omega arith in
    let row : i + 1 ≤ 17 = omega arith in
    mul-le-mul rows row

-- ---- signs

sign_add : (x y : ℕ) → sign x *ℤ sign y ≡ sign (x + y)
unfolding pow one
sign_add x zero = *ℤ-unit (sign x) ∙ ap sign (let none : x ≡ x + 0 = omega arith in none)
sign_add x (suc y) =
    sym (*ℤ-assoc (sign x) (sign y) (negsuc 0)) ∙ ap (λ (u : ℤ). u *ℤ negsuc 0) (sign_add x y) ∙ ap sign (let more : suc (x + y) ≡ x + suc y = omega arith in more)

-- a coefficient as one sum over the types, row by row
pub signed_term : ℕ → ℕ → List ℕ → ℕ → ℕ → ℕ → ℕ → ℤ
signed_term n m counts i j b a =
    sign (j - b) *ℤ pos (choose (n - m - b) (j - b)) *ℤ (sign (i - a) *ℤ pos (choose (m - a) (i - a)) *ℤ pos (get_or counts (a * 17 + b) 0))

module _ (n m : ℕ) (counts : List ℕ) (i j : ℕ) where
  pub coefficient_terms : coefficient_of n m counts i j
      ≡ sum_belowℤ (λ t. signed_term n m counts i j (t / (i + 1)) (t % (i + 1))) ((j + 1) * (i + 1))
  unfolding coefficient_of domination signed_term
  coefficient_terms =
      sum_belowℤ_same _ (λ b. sum_belowℤ (signed_term n m counts i j b) (i + 1)) (suc j) (λ b l.
      sym (sum_belowℤ_mul (sign (j - b) *ℤ pos (choose (n - m - b) (j - b)))
      (λ a. sign (i - a) *ℤ pos (choose (m - a) (i - a)) *ℤ pos (get_or counts (a * 17 + b) 0)) (suc i))
      ∙ ap (sum_belowℤ (signed_term n m counts i j b)) (sym (add-one i)))
      ∙ ap (sum_belowℤ (λ b. sum_belowℤ (signed_term n m counts i j b) (i + 1))) (sym (add-one j))
      ∙ grid_sum (signed_term n m counts i j) (j + 1) (i + 1) (omega arith)

  turned : (s p t q r : ℤ) → s *ℤ p *ℤ (t *ℤ q *ℤ r) ≡ t *ℤ s *ℤ (q *ℤ p *ℤ r)
  turned s p t q r = simp ring

  term_sign : (b a : ℕ) → signed_term n m counts i j b a ≡ sign (i - a + (j - b)) *ℤ pos (type_term n m counts i j b a)
  unfolding signed_term type_term
  term_sign b a =
      turned (sign (j - b)) (pos (choose (n - m - b) (j - b))) (sign (i - a)) (pos (choose (m - a) (i - a))) (pos (get_or counts (a * 17 + b) 0))
      ∙ ap₂ (λ (u v : ℤ). u *ℤ v) (sign_add (i - a) (j - b))
      (ap (λ (u : ℤ). u *ℤ pos (get_or counts (a * 17 + b) 0)) (pos-*ℤ-pos (choose (m - a) (i - a)) (choose (n - m - b) (j - b)))
      ∙ pos-*ℤ-pos (choose (m - a) (i - a) * choose (n - m - b) (j - b)) (get_or counts (a * 17 + b) 0))

  -- the sum of the terms so far with one term more
  module _ (t added taken x : ℕ)
      (before : pos added -ℤ pos taken ≡ sum_belowℤ (λ t. signed_term n m counts i j (t / (i + 1)) (t % (i + 1))) t)
      (is : x ≡ type_term n m counts i j (t / (i + 1)) (t % (i + 1))) where
    pub terms_added : (i - t % (i + 1) + (j - t / (i + 1))) % 2 ≡ 0
        → sum_belowℤ (λ t. signed_term n m counts i j (t / (i + 1)) (t % (i + 1))) (t + 1) ≡ pos (added + x) -ℤ pos taken
    terms_added even =
        let b : ℕ = t / (i + 1) in
        let a : ℕ = t % (i + 1) in
        sym (ap (λ (z : ℕ). pos (added + x) -ℤ pos z) (sym (add-zero taken))
        ∙ carried_more _ t added taken x 0 before
        (term_sign b a ∙ ap₂ (λ (u : ℤ) (y : ℕ). u *ℤ pos y) (sign_even (i - a + (j - b)) even) (sym is) ∙ unit-*ℤ (pos x) ∙ simp ring))

    pub terms_taken : ((i - t % (i + 1) + (j - t / (i + 1))) % 2 ≡ 0 → ⊥)
        → sum_belowℤ (λ t. signed_term n m counts i j (t / (i + 1)) (t % (i + 1))) (t + 1) ≡ pos added -ℤ pos (taken + x)
    terms_taken odd =
        let b : ℕ = t / (i + 1) in
        let a : ℕ = t % (i + 1) in
        sym (ap (λ (z : ℕ). pos z -ℤ pos (taken + x)) (sym (add-zero added))
        ∙ carried_more _ t added taken 0 x before
        (term_sign b a ∙ ap₂ (λ (u : ℤ) (y : ℕ). u *ℤ pos y) (sign_odd (i - a + (j - b)) (omega (arith, odd))) (sym is) ∙ negℤ-*ℤ (pos 1) (pos x)
        ∙ ap neg_ℤ (unit-*ℤ (pos x)) ∙ sym (+ℤ_idl (neg_ℤ (pos x)))))

-- ---- what search is told

-- of a set that is counted
pub ruleset counting = (type_few, type_more, gathered_skip, inside_less)

-- of a cell that is written
pub ruleset writing = (filled_none, filled_again, cells_few, row_below, place_below)

-- of a term that is added
pub ruleset adding = (carried_none, terms_few, type_term_few, row_below, place_below, difference_small, coefficient_terms, terms_added, terms_taken)

-- of the factors of a term
pub ruleset factors = (up_to_16_given, choose_small, binomials_few, counted_few)
