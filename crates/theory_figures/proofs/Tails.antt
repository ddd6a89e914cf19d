-- Laws of the tail and the signature: the tail is 003's eq. 5 times n!, each entry of the signature is the count of failure orders for all parts,
-- so the tail falls from n! to 0, the signature totals n!, and the proportions of path sets never fall, which is also said by one part more and one
-- part less. Assumes nothing.
use mathlib.Core.Path.{◌≡◌, refl, sym, ap, ap₂, ◌∙◌}
use mathlib.Core.Bool.{Bool, true, false, cond, ◌&&◌}
use Prim.Native.Nat.{ℕ, zero, suc, ◌+◌, ◌-◌, ◌*◌, ◌^◌, ◌≤◌, ◌<◌}
use native.Mathlib.Nat.{le_trans, le_of_eq, le_step, lt-suc_self, zero-add, add-zero, mul_comm, sub-zero, sub_self, sub-add_cancel, mul-le-mul_right}
use native.Mathlib.Numerals.{add-one}
use native.Mathlib.Omega.{arith}
use lib.Count.{ones-ones}
use lib.Dec.{eqb}
use lib.IntN.{ℤ, pos, ◌-ℤ◌, pos-+ℤ-pos, +ℤ-neg_ℤ_cancel}
use lib.Pow.{ones_lt}
use borrow.Author.Tests.{eqb-true}
use Rattle.numbers.specs.Counts.{factorial, choose}
use Rattle.numbers.proofs.Counts.{factorial_pos, factor_same, factor_le, factorial_suc, choose_factorials, choose_pos, choose_next}
use Rattle.theory_sums.specs.Sums.{sum_below, sum_sets, sum_belowℤ}
use Rattle.theory_sums.proofs.Sums.{sum_below_same, sum_below_zero, sum_below_mul}
use Rattle.theory_sums.proofs.IntegerSums.{sum_belowℤ_same}
use Rattle.theory_sets.specs.Masks.{size, meet}
use Rattle.theory_sets.specs.Structures.{Semicoherent}
use Rattle.numbers.proofs.Bools.{and_right, clash, false_of}
use Rattle.theory_orders.specs.Counting.{count}
use Rattle.theory_orders.specs.Formulas.{path_count, added, taken}
use Rattle.theory_orders.proofs.Counting.{count_and_taken}
use Rattle.theory_orders.proofs.Pairs.{pairs}
use Rattle.theory_orders.proofs.Totals.{counts_total}
use Rattle.theory_figures.specs.Figures.{tail, signature}
use Rattle.theory_sums.proofs.IntegerSums.{sum_below_pos}
use Rattle.theory_figures.proofs.Sizes.{size_none, size_meet_all}

-- ---- the tail by proportions

-- T(k) × C(n,k) = n! × φ(n-k), for whatever φ
pub tail_proportion : (n : ℕ) (φ : ℕ → ℕ) (k : ℕ) → k ≤ n → tail n φ k * choose n k ≡ factorial n * φ (n - k)
unfolding tail
tail_proportion n φ k h =
    turned (φ (n - k)) (factorial (n - k)) (factorial k) (choose n k)
    ∙ ap (λ (u : ℕ). u * φ (n - k)) (choose_factorials n (n - k) k (sub-add_cancel h))
  where
    turned : (x p q c : ℕ) → x * p * q * c ≡ c * (p * q) * x
    turned x p q c = omega arith

-- ---- the sums of 001's eq. 1 for all parts

-- the path sets of one size all have the same weight
class_sum : (n : ℕ) (works : ℕ → Bool) (s : ℕ) (w : ℕ → ℕ)
    → sum_sets n (λ a. works a && eqb (size a) s) (λ a. w (size a)) ≡ path_count n works s * w s
unfolding path_count
class_sum n works s w =
    sum_below_same _ (λ a. w s * cond (works a && eqb (size a) s) 1 0) (2 ^ n) (λ a h. same (works a) (size a))
    ∙ sum_below_mul (w s) (λ a. cond (works a && eqb (size a) s) 1 0) (2 ^ n) ∙ mul_comm (w s) (path_count n works s)
  where
    weight : (t : Bool) (x : ℕ) → (t ≡ true → x ≡ s) → cond t (w x) 0 ≡ w s * cond t 1 0
    weight true x h = ap w (h refl) ∙ omega arith
    weight false x h = omega arith

    same : (t : Bool) (x : ℕ) → cond (t && eqb x s) (w x) 0 ≡ w s * cond (t && eqb x s) 1 0
    same t x = weight (t && eqb x s) x (λ h. eqb-true x s (and_right t (eqb x s) h))

module _ (n : ℕ) (works : ℕ → Bool) where
  -- the sum over the path sets with s parts of the group of all parts
  all_parts : (s : ℕ) (w : ℕ → ℕ) → sum_sets n (λ a. works a && eqb (size (meet a (2 ^ n - 1))) s) (λ a. w (size a)) ≡ path_count n works s * w s
  all_parts s w =
      sum_below_same _ (λ a. cond (works a && eqb (size a) s) (w (size a)) 0) (2 ^ n) (λ a h.
      ap (λ (x : ℕ). cond (works a && eqb x s) (w (size a)) 0) (size_meet_all n a h))
      ∙ class_sum n works s w

  added_all : (k : ℕ) → k < n → added n works (2 ^ n - 1) (suc k) ≡ tail n (path_count n works) k
  unfolding added tail
  added_all k l =
      let next : size (2 ^ n - 1) - suc k + 1 ≡ n - k = omega (arith, ones-ones n) in
      let less : n - k - 1 ≡ n - suc k = omega arith in
      let row : n - k ≡ suc (n - suc k) = omega arith in
      let back : n - (n - k) ≡ k = omega arith in
      rw next (all_parts (n - k) (λ s. (n - k) * factorial (s - 1) * factorial (n - s)))
      ∙ ap₂ (λ (x y : ℕ). path_count n works (n - k) * ((n - k) * factorial x * factorial y)) less back
      ∙ joined (path_count n works (n - k)) (n - k) (factorial (n - suc k)) (factorial k)
      ∙ ap (λ (u : ℕ). path_count n works (n - k) * u * factorial k) (ap (λ (u : ℕ). u * factorial (n - suc k)) row ∙ sym (ap factorial row ∙ factorial_suc (n - suc k)))
    where
      joined : (x s p q : ℕ) → x * (s * p * q) ≡ x * (s * p) * q
      joined x s p q = omega arith

  taken_all : (k : ℕ) → k < n → taken n works (2 ^ n - 1) (suc k) ≡ tail n (path_count n works) (suc k)
  unfolding taken tail
  taken_all k l =
      let left : size (2 ^ n - 1) - suc k ≡ n - suc k = omega (arith, ones-ones n) in
      let back : n - (n - suc k) - 1 ≡ k = omega arith in
      rw left (all_parts (n - suc k) (λ s. suc k * factorial s * factorial (n - s - 1)))
      ∙ ap (λ (y : ℕ). path_count n works (n - suc k) * (suc k * factorial (n - suc k) * factorial y)) back
      ∙ joined (path_count n works (n - suc k)) (suc k) (factorial (n - suc k)) (factorial k)
      ∙ ap (λ (u : ℕ). path_count n works (n - suc k) * factorial (n - suc k) * u) (sym (factorial_suc k))
    where
      joined : (x s p q : ℕ) → x * (s * p * q) ≡ x * p * (s * q)
      joined x s p q = omega arith

-- what falls by f at each step has fallen by the sum of f
telescope : (f g : ℕ → ℕ) (k : ℕ) → ((i : ℕ) → i < k → f i + g (suc i) ≡ g i) → sum_below f k + g k ≡ g 0
unfolding sum_below
telescope f g zero h = zero-add (g 0)
telescope f g (suc k) h = omega (arith, h k (lt-suc_self k), telescope f g k (λ i l. h i (le_step l)))

-- ---- a proportion by one part more and one part less

-- a part may come in no more cases than one may leave: then the proportion of sets does not fall
pub steps_rise : (n : ℕ) (φ : ℕ → ℕ) (j : ℕ) → j < n → (n - j) * φ j ≤ (j + 1) * φ (j + 1) → φ j * choose n (j + 1) ≤ φ (j + 1) * choose n j
steps_rise n φ j l step =
    factor_le _ _ (j + 1) (omega arith)
    (le_trans (le_of_eq (left (φ j) (choose n (j + 1)) (j + 1) ∙ ap (λ (u : ℕ). φ j * u) (choose_next n j l) ∙ middle (φ j) (choose n j) (n - j)))
    (le_trans (mul-le-mul_right (choose n j) step) (le_of_eq (right (φ (j + 1)) (choose n j) (j + 1)))))
  where
    left : (x c s : ℕ) → x * c * s ≡ x * (c * s)
    left x c s = omega arith

    middle : (x c r : ℕ) → x * (c * r) ≡ r * x * c
    middle x c r = omega arith

    right : (y c s : ℕ) → s * y * c ≡ y * c * s
    right y c s = omega arith

-- and the other way round
pub rise_steps : (n : ℕ) (φ : ℕ → ℕ) (j : ℕ) → j < n → φ j * choose n (j + 1) ≤ φ (j + 1) * choose n j → (n - j) * φ j ≤ (j + 1) * φ (j + 1)
rise_steps n φ j l rises =
    factor_le _ _ (choose n j) (choose_pos n j (omega arith))
    (le_trans (le_of_eq (left (φ j) (choose n j) (n - j) ∙ ap (λ (u : ℕ). φ j * u) (sym (choose_next n j l)) ∙ middle (φ j) (choose n (j + 1)) (j + 1)))
    (le_trans (mul-le-mul_right (j + 1) rises) (le_of_eq (right (φ (j + 1)) (choose n j) (j + 1)))))
  where
    left : (x c r : ℕ) → r * x * c ≡ x * (c * r)
    left x c r = omega arith

    middle : (x d s : ℕ) → x * (d * s) ≡ x * d * s
    middle x d s = omega arith

    right : (y c s : ℕ) → y * c * s ≡ s * y * c
    right y c s = omega arith

-- ---- a semicoherent structure

module _ (n : ℕ) (works : ℕ → Bool) (coherent : Semicoherent n works) where
  -- T(k) and the orders that stop with entry k + 1 make T(k-1)
  pub tail_step : (k : ℕ) → k < n → count n works (2 ^ n - 1) (suc k) + tail n (path_count n works) (suc k) ≡ tail n (path_count n works) k
  tail_step k l =
      ap (λ (u : ℕ). count n works (2 ^ n - 1) (suc k) + u) (sym (taken_all n works k l))
      ∙ count_and_taken n works coherent (2 ^ n - 1) (ones_lt n) (suc k) (omega (arith, ones-ones n)) ∙ added_all n works k l

  -- each entry of the signature is a count
  pub signature_is_count : (k : ℕ) → 1 ≤ k → k ≤ n → signature n (path_count n works) k ≡ pos (count n works (2 ^ n - 1) k)
  unfolding signature
  signature_is_count k some most =
      let next : k ≡ suc (k - 1) = omega arith in
      let step : count n works (2 ^ n - 1) k + tail n (path_count n works) k ≡ tail n (path_count n works) (k - 1)
      = ap (λ (x : ℕ). count n works (2 ^ n - 1) x + tail n (path_count n works) x) next ∙ tail_step (k - 1) (omega arith) in
      ap (λ (u : ℕ). pos u -ℤ pos (tail n (path_count n works) k)) (sym step)
      ∙ ap (λ (u : ℤ). u -ℤ pos (tail n (path_count n works) k)) (sym (pos-+ℤ-pos (count n works (2 ^ n - 1) k) (tail n (path_count n works) k)))
      ∙ +ℤ-neg_ℤ_cancel (pos (count n works (2 ^ n - 1) k)) (pos (tail n (path_count n works) k))

  -- the signature totals n!
  pub signature_total : sum_belowℤ (λ k. signature n (path_count n works) (suc k)) n ≡ pos (factorial n)
  signature_total =
      sum_belowℤ_same _ (λ k. pos (count n works (2 ^ n - 1) (k + 1))) n (λ k l.
      ap (signature n (path_count n works)) (sym (add-one k)) ∙ signature_is_count (k + 1) (omega arith) (omega arith))
      ∙ sym (sum_below_pos (λ k. count n works (2 ^ n - 1) (k + 1)) n) ∙ ap pos (counts_total n works coherent)

  pub path_count_empty : path_count n works 0 ≡ 0
  unfolding path_count
  path_count_empty =
      sum_below_same _ (λ a. 0) (2 ^ n) (λ a h. ap (λ (t : Bool). cond t 1 0) (false_of (works a && eqb (size a) 0) (λ t.
      let none : a ≡ 0 = size_none a (eqb-true (size a) 0 (and_right (works a) (eqb (size a) 0) t)) in
      clash (rw none at t) (ap (λ (b : Bool). b && eqb (size 0) 0) coherent.empty))))
      ∙ sum_below_zero (2 ^ n)

  pub tail_last : tail n (path_count n works) n ≡ 0
  unfolding tail
  tail_last =
      ap (λ (x : ℕ). path_count n works x * factorial x * factorial n) (sub_self n)
      ∙ ap (λ (u : ℕ). u * factorial 0 * factorial n) path_count_empty ∙ omega arith

  pub tail_first : tail n (path_count n works) 0 ≡ factorial n
  tail_first =
      sym (telescope (λ k. count n works (2 ^ n - 1) (k + 1)) (tail n (path_count n works)) n (λ k l.
      ap (λ (x : ℕ). count n works (2 ^ n - 1) x + tail n (path_count n works) (suc k)) (add-one k) ∙ tail_step k l))
      ∙ ap₂ (λ (u v : ℕ). u + v) (counts_total n works coherent) tail_last ∙ add-zero (factorial n)

  pub path_count_full : path_count n works n ≡ 1
  unfolding tail factorial
  path_count_full =
      factor_same (path_count n works n) 1 (factorial n) (factorial_pos n)
      (sym (ap (λ (x : ℕ). path_count n works x * factorial x * 1) (sub-zero n) ∙ omega arith) ∙ tail_first ∙ omega arith)

  -- the proportion φ(j)/C(n,j) never falls
  pub proportions_rise : (j : ℕ) → j < n → path_count n works j * choose n (j + 1) ≤ path_count n works (j + 1) * choose n j
  proportions_rise j l = steps_rise n (path_count n works) j l (pairs n works coherent j)
