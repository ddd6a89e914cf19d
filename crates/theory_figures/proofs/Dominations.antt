-- Laws of the domination: it is the coefficient of x^k in the reliability polynomial (000, eq. 7), the path counts come back from it, and it is
-- the sum of d(A) over the sets of size k (000, eq. 8). Assumes nothing.
use mathlib.Core.Path.{◌≡◌, sym, ap, ap₂, ◌∙◌}
use mathlib.Core.Bool.{Bool, true, false, cond, not, ◌&&◌, and-true, and-false}
use Prim.Native.Nat.{ℕ, zero, suc, ◌+◌, ◌-◌, ◌^◌, ◌≤◌, ◌<◌}
use native.Mathlib.Nat.{sub_self, not-suc-le-zero, lt_of_lt_of_le, lt-suc_self, add-sub_of_le, le_of_suc-le-suc}
use native.Mathlib.Omega.{arith}
use lib.Dec.{eqb}
use lib.IntN.{ℤ, pos, neg_ℤ, ◌+ℤ◌, ◌*ℤ◌, *ℤ_comm, *ℤ-zero, zero-*ℤ}
use Rattle.numbers.specs.Counts.{choose}
use Rattle.numbers.proofs.Counts.{choose_above, choose_mirror}
use Rattle.theory_sums.specs.Sums.{indicator, sum_below, sum_belowℤ}
use Rattle.theory_sums.proofs.Sums.{sum_below_same, sum_below_zero}
use Rattle.theory_sums.proofs.Integers.{*ℤ-unit, unit-*ℤ, ring}
use Rattle.theory_sums.proofs.IntegerSums.{sum_belowℤ_same, sum_belowℤ_mul, sum_belowℤ_exchange}
use Rattle.theory_sums.proofs.Differences.{difference, monomial, expansion, monomial_same, monomial_other, sum_expansion}
use Rattle.theory_sums.proofs.Binomials.{difference_below, difference_monomial, difference_choose}
use Rattle.theory_sets.specs.Masks.{has, size, holds}
use Rattle.theory_orders.specs.Formulas.{path_count}
use Rattle.theory_orders.proofs.Orders.{eqb_comm}
use Rattle.theory_orders.proofs.Sizes.{size_bits, size_rest}
use Rattle.theory_figures.specs.Figures.{sign, domination, set_domination}
use Rattle.theory_sums.proofs.IntegerSums.{sum_belowℤ_beyond, sum_belowℤ_only}
use Rattle.theory_figures.proofs.Sizes.{sum_by_sizeℤ}
use Rattle.theory_figures.proofs.Supersets.{above, above_same, opposite, having, lacking, sum_above}

-- ---- the reliability polynomial

-- the coefficient of x^k in a sum of u(a) x^a (1-x)^(n-a), by binomials with signs
pub expansion_terms : (n : ℕ) (u : ℕ → ℤ) (k : ℕ) → k ≤ n
    → sum_belowℤ (λ a. sign (k - a) *ℤ pos (choose (n - a) (k - a)) *ℤ u a) (suc k) ≡ expansion n u k
unfolding expansion
expansion_terms n u k h =
    sum_belowℤ_same _ (λ a. u a *ℤ difference (n - a) (monomial k) a) (suc k) (λ a l.
    let there : a + (k - a) ≡ k = add-sub_of_le (le_of_suc-le-suc l) in
    *ℤ_comm (sign (k - a) *ℤ pos (choose (n - a) (k - a))) (u a)
    ∙ ap (λ (x : ℤ). u a *ℤ x) (sym (difference_monomial (n - a) a (k - a)) ∙ ap (λ (x : ℕ). difference (n - a) (monomial x) a) there))
    ∙ sum_belowℤ_beyond (λ a. u a *ℤ difference (n - a) (monomial k) a) (suc k) (suc n) (omega arith) (λ a l m.
    ap (λ (x : ℤ). u a *ℤ x) (difference_below (n - a) k a l) ∙ *ℤ-zero (u a))

module _ (n : ℕ) (φ : ℕ → ℕ) where
  -- d(k) is the coefficient of x^k in the sum over a of φ(a) x^a (1-x)^(n-a)
  pub domination_coefficient : (k : ℕ) → k ≤ n → domination n φ k ≡ expansion n (λ a. pos (φ a)) k
  unfolding domination
  domination_coefficient k h = expansion_terms n (λ a. pos (φ a)) k h

  -- φ(k) is the sum of C(n-j, k-j) × d(j) (000, eq. 10)
  pub path_count_back : (k : ℕ) → k ≤ n → sum_belowℤ (λ j. pos (choose (n - j) (k - j)) *ℤ domination n φ j) (suc k) ≡ pos (φ k)
  path_count_back k h =
      sum_belowℤ_same _ (λ j. pos (choose (n - j) (n - k)) *ℤ expansion n (λ a. pos (φ a)) j) (suc k) (λ j l.
      ap₂ (λ (x : ℕ) (u : ℤ). pos x *ℤ u) (choose_mirror (n - j) (k - j) (n - k) (omega arith)) (domination_coefficient j (omega arith)))
      ∙ sum_belowℤ_beyond (λ j. pos (choose (n - j) (n - k)) *ℤ expansion n (λ a. pos (φ a)) j) (suc k) (suc n) (omega arith) (λ j l m.
      ap (λ (x : ℕ). pos x *ℤ expansion n (λ a. pos (φ a)) j) (choose_above (n - j) (n - k) (omega arith))
      ∙ zero-*ℤ (expansion n (λ a. pos (φ a)) j))
      ∙ sum_expansion n (λ i. pos (choose (n - i) (n - k))) (λ a. pos (φ a))
      ∙ sum_belowℤ_same _ (λ a. pos (φ a) *ℤ monomial (n - k) (n - a)) (suc n) (λ a l.
      ap (λ (u : ℤ). pos (φ a) *ℤ u) (difference_choose n (n - k) a (n - a) (add-sub_of_le (le_of_suc-le-suc l))))
      ∙ sum_belowℤ_only (λ a. pos (φ a) *ℤ monomial (n - k) (n - a)) k (suc n) (omega arith) (λ a l other.
      ap (λ (u : ℤ). pos (φ a) *ℤ u) (monomial_other (n - k) (n - a) (λ e. other (omega arith))) ∙ *ℤ-zero (pos (φ a)))
      ∙ ap (λ (u : ℤ). pos (φ k) *ℤ u) (monomial_same (n - k)) ∙ *ℤ-unit (pos (φ k))

  -- whatever the path counts come back from is the domination
  pub domination_only : (d : ℕ → ℤ) → ((k : ℕ) → k ≤ n → sum_belowℤ (λ j. pos (choose (n - j) (k - j)) *ℤ d j) (suc k) ≡ pos (φ k))
      → (k : ℕ) → k ≤ n → d k ≡ domination n φ k
  unfolding choose sum_belowℤ
  domination_only d back k h = below (suc k) k (lt-suc_self k) h
    where
      plain : (e : ℕ → ℤ) (k : ℕ) → pos (choose (n - k) (k - k)) *ℤ e k ≡ e k
      plain e k = ap (λ (x : ℕ). pos (choose (n - k) x) *ℤ e k) (sub_self k) ∙ unit-*ℤ (e k)

      left : (a x : ℤ) → neg_ℤ a +ℤ (a +ℤ x) ≡ x
      left a x = simp ring

      earlier : (ℕ → ℤ) → ℕ → ℤ
      earlier e k = sum_belowℤ (λ j. pos (choose (n - j) (k - j)) *ℤ e j) k

      below : (m k : ℕ) → k < m → k ≤ n → d k ≡ domination n φ k
      below zero k l h = absurd (not-suc-le-zero l)
      below (suc m) k l h = last (λ j i. below m j (lt_of_lt_of_le i (le_of_suc-le-suc l)) (omega arith))
        where
          last : ((j : ℕ) → j < k → d j ≡ domination n φ j) → d k ≡ domination n φ k
          last same =
              sym (left (earlier d k) (d k))
              ∙ ap₂ (λ (u v : ℤ). neg_ℤ u +ℤ v)
              (sum_belowℤ_same _ _ k (λ j i. ap (λ (u : ℤ). pos (choose (n - j) (k - j)) *ℤ u) (same j i)))
              (ap (λ (u : ℤ). earlier d k +ℤ u) (sym (plain d k)) ∙ back k h ∙ sym (path_count_back k h)
              ∙ ap (λ (u : ℤ). earlier (domination n φ) k +ℤ u) (plain (domination n φ) k))
              ∙ left (earlier (domination n φ) k) (domination n φ k)

-- ---- the sets that hold a set

-- the alternating sum over the sets that hold b, of a function of the size: all parts pass the test
sum_above_size : (n : ℕ) (F : ℕ → ℤ) (b : ℕ) → b < 2 ^ n → sum_belowℤ (above (λ a. F (size a)) b) (2 ^ n) ≡ difference (n - size b) F (size b)
unfolding difference
sum_above_size n F b h =
    above_same n (λ a. F (size a)) (λ a. F (having all n a) *ℤ pos 1) b (λ a l. ap F (sym (having_all a l)) ∙ sym (*ℤ-unit (F (having all n a))))
    ∙ sum_above n all F (λ x. pos 1) b h
    ∙ ap (λ (x : ℕ). difference (lacking all n b) F (having all n b) *ℤ difference x (λ x. pos 1) (having (opposite all) n b)) lacking_none
    ∙ *ℤ-unit (difference (lacking all n b) F (having all n b))
    ∙ ap₂ (λ (x y : ℕ). difference x F y) lacking_all (having_all b h)
  where
    all : ℕ → Bool
    all i = true

    having_all : (a : ℕ) → a < 2 ^ n → having all n a ≡ size a
    having_all a l = sum_below_same _ (λ i. indicator (has a i)) n (λ i m. ap indicator (and-true (has a i))) ∙ sym (size_bits n a l)

    lacking_all : lacking all n b ≡ n - size b
    lacking_all =
        let lacks : lacking all n b ≡ sum_below (λ i. indicator (not (has b i))) n
        = sum_below_same _ _ n (λ i m. ap indicator (and-true (not (has b i)))) in
        omega (arith, size_rest n b h)

    lacking_none : lacking (opposite all) n b ≡ 0
    lacking_none = sum_below_same _ (λ i. 0) n (λ i m. ap indicator (and-false (not (has b i)))) ∙ sum_below_zero n

-- ---- sums of d(A)

-- a weight over the sets A, times d(A): each path set gives the alternating sum of the weight over the sets that hold it
pub sum_dominations : (n : ℕ) (works : ℕ → Bool) (weight : ℕ → ℤ)
    → sum_belowℤ (λ a. weight a *ℤ set_domination n works a) (2 ^ n)
    ≡ sum_belowℤ (λ b. pos (indicator (works b)) *ℤ sum_belowℤ (above weight b) (2 ^ n)) (2 ^ n)
unfolding set_domination above
sum_dominations n works weight =
    sum_belowℤ_same _ (λ a. sum_belowℤ (λ b. pos (indicator (works b)) *ℤ above weight b a) (2 ^ n)) (2 ^ n) (λ a l.
    sym (sum_belowℤ_mul (weight a) (λ b. pos (indicator (holds a b && works b)) *ℤ sign (size a - size b)) (2 ^ n))
    ∙ sum_belowℤ_same _ _ (2 ^ n) (λ b m. term (works b) (holds a b) (weight a) (sign (size a - size b))))
    ∙ sum_belowℤ_exchange (λ a b. pos (indicator (works b)) *ℤ above weight b a) (2 ^ n) (2 ^ n)
    ∙ sum_belowℤ_same _ _ (2 ^ n) (λ b m. sum_belowℤ_mul (pos (indicator (works b))) (above weight b) (2 ^ n))
  where
    term : (w p : Bool) (x s : ℤ) → x *ℤ (pos (indicator (p && w)) *ℤ s) ≡ pos (indicator w) *ℤ cond p (x *ℤ s) (pos 0)
    term true true x s = simp ring
    term true false x s = simp ring
    term false true x s = simp ring
    term false false x s = simp ring

-- d(k) is the sum of d(A) over the sets A of size k
pub domination_of_sets : (n : ℕ) (works : ℕ → Bool) (k : ℕ) → k ≤ n
    → domination n (path_count n works) k ≡ sum_belowℤ (λ a. cond (eqb (size a) k) (set_domination n works a) (pos 0)) (2 ^ n)
unfolding expansion monomial
domination_of_sets n works k h =
    domination_coefficient n (path_count n works) k h
    ∙ sym (sum_by_sizeℤ n works (λ s. difference (n - s) (monomial k) s))
    ∙ sum_belowℤ_same _ _ (2 ^ n) (λ b l. ap (λ (u : ℤ). pos (indicator (works b)) *ℤ u) (sym (sum_above_size n (monomial k) b l)))
    ∙ sym (sum_dominations n works (λ a. monomial k (size a)))
    ∙ sum_belowℤ_same _ _ (2 ^ n) (λ a l.
    chosen (eqb k (size a)) (set_domination n works a)
    ∙ ap (λ (t : Bool). cond t (set_domination n works a) (pos 0)) (eqb_comm k (size a)))
  where
    chosen : (c : Bool) (x : ℤ) → cond c (pos 1) (pos 0) *ℤ x ≡ cond c x (pos 0)
    chosen true x = simp ring
    chosen false x = simp ring
