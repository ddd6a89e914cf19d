-- What the steps of 001, Algorithm 2, come to: c_(k-1) by the powers of x (001, eq. 9), and the differences that its weights and the integrals
-- give, which leave the two kinds of terms of 001's eq. 1. Assumes nothing.
use mathlib.Core.Path.{◌≡◌, sym, ap, ap₂, ◌∙◌}
use Prim.Native.Nat.{ℕ, zero, suc, ◌+◌, ◌-◌, ◌≤◌}
use native.Mathlib.Nat.{add-suc}
use native.Mathlib.Numerals.{add-one, sub-one}
use native.Mathlib.Omega.{arith}
use lib.IntN.{ℤ, pos, ◌+ℤ◌, ◌-ℤ◌, ◌*ℤ◌, +ℤ_idl, zero-*ℤ, pos-+ℤ-pos}
use Rattle.numbers.specs.Counts.{choose}
use Rattle.theory_sums.specs.Sums.{sum_belowℤ}
use Rattle.theory_sums.proofs.Integers.{ring}
use Rattle.theory_sums.proofs.IntegerSums.{sum_belowℤ_same, sum_belowℤ_first, sum_belowℤ_reversed}
use Rattle.theory_sums.proofs.Differences.{difference, monomial, difference_factor}
use Rattle.theory_sums.proofs.Binomials.{difference_choose, difference_falls}
use Rattle.shares_claim.specs.Polynomials.{derivative, reflected, shifted, coefficient, integral}
use Rattle.shares_claim.proofs.Integrals.{integral_falls}

-- ---- the part in x

-- the weight of x^i in c_(k-1): i × C(m-i,k-1)
abbrev pub chosen : ℕ → ℕ → ℕ → ℤ
chosen m k i = pos i *ℤ pos (choose (m - i) (k - 1))

module _ (m : ℕ) (some : 1 ≤ m) (h : ℕ → ℕ → ℤ) (k j : ℕ) where
  -- 001, eq. 9
  pub coefficient_powers : coefficient m h k j ≡ sum_belowℤ (λ i. pos (choose (m - 1 - i) (k - 1)) *ℤ (pos (i + 1) *ℤ h (i + 1) j)) m
  unfolding coefficient shifted reflected derivative
  coefficient_powers =
      let whole : suc (m - 1) ≡ m = omega arith in
      sum_belowℤ_same _ (λ i. pos (choose (m - 1 - (m - 1 - i)) (k - 1)) *ℤ (pos (m - 1 - i + 1) *ℤ h (m - 1 - i + 1) j)) (suc (m - 1)) (λ i l.
      let back : i ≡ m - 1 - (m - 1 - i) = omega arith in
      ap (λ (x : ℕ). pos (choose x (k - 1)) *ℤ (pos (m - 1 - i + 1) *ℤ h (m - 1 - i + 1) j)) back)
      ∙ sum_belowℤ_reversed (λ i. pos (choose (m - 1 - i) (k - 1)) *ℤ (pos (i + 1) *ℤ h (i + 1) j)) (m - 1)
      ∙ ap (sum_belowℤ (λ i. pos (choose (m - 1 - i) (k - 1)) *ℤ (pos (i + 1) *ℤ h (i + 1) j))) whole

  pub coefficient_weights : coefficient m h k j ≡ sum_belowℤ (λ i. chosen m k i *ℤ h i j) (suc m)
  coefficient_weights =
      coefficient_powers
      ∙ sum_belowℤ_same _ (λ i. chosen m k (suc i) *ℤ h (suc i) j) m (λ i l.
      let left : m - 1 - i ≡ m - suc i = omega arith in
      ap₂ (λ (x y : ℕ). pos (choose x (k - 1)) *ℤ (pos y *ℤ h y j)) left (add-one i)
      ∙ turned (pos (choose (m - suc i) (k - 1))) (pos (suc i)) (h (suc i) j))
      ∙ sym (sum_belowℤ_first (λ i. chosen m k i *ℤ h i j) m ∙ ap (λ (u : ℤ). u +ℤ sum_belowℤ (λ i. chosen m k (suc i) *ℤ h (suc i) j) m) none
      ∙ +ℤ_idl _)
    where
      turned : (c i x : ℤ) → c *ℤ (i *ℤ x) ≡ i *ℤ c *ℤ x
      turned c i x = simp ring

      none : chosen m k 0 *ℤ h 0 j ≡ pos 0
      none = ap (λ (u : ℤ). u *ℤ h 0 j) (zero-*ℤ (pos (choose (m - 0) (k - 1)))) ∙ zero-*ℤ (h 0 j)

-- by as many steps as a set with a parts of the group lacks: a for one that lacks k - 1 of them, and minus their number for one that lacks k
pub chosen_difference : (m k a lacks : ℕ) → a + lacks ≡ m
    → difference lacks (chosen m k) a ≡ pos a *ℤ monomial (k - 1) lacks -ℤ pos lacks *ℤ monomial (k - 1) (lacks - 1)
unfolding difference
chosen_difference m k a zero e =
    ap (λ (u : ℤ). pos a *ℤ u) (difference_choose m (k - 1) a zero e) ∙ unchanged (pos a *ℤ monomial (k - 1) 0) (monomial (k - 1) (0 - 1))
  where
    unchanged : (x y : ℤ) → x ≡ x -ℤ pos 0 *ℤ y
    unchanged x y = simp ring
chosen_difference m k a (suc lacks) e =
    difference_factor lacks (λ i. pos (choose (m - i) (k - 1))) a
    ∙ ap₂ (λ (u v : ℤ). pos a *ℤ u -ℤ pos (suc lacks) *ℤ v) (difference_choose m (k - 1) a (suc lacks) e)
    (difference_choose m (k - 1) (suc a) lacks (omega arith) ∙ ap (monomial (k - 1)) (sym (sub-one (suc lacks))))

-- ---- the part in z

-- by as many steps as a set with b parts outside the group lacks there
pub integral_difference : (n m k b : ℕ) → 1 ≤ k → k ≤ m → m ≤ n → b ≤ n - m
    → difference (n - m - b) (λ j. pos (integral n (m - k + j) (k - 1))) b ≡ pos (integral n (m - k + b) (n - m - b + (k - 1)))
integral_difference n m k b some most within few =
    difference_falls (λ p q. pos (integral n (m - k + p) q)) (n - 1 - (m - k)) (λ p q l.
    ap pos (integral_falls n (m - k + p) q (omega arith)) ∙ sym (pos-+ℤ-pos (integral n (suc (m - k + p)) q) (integral n (m - k + p) (suc q)))
    ∙ ap (λ (x : ℕ). pos (integral n x q) +ℤ pos (integral n (m - k + p) (suc q))) (sym (add-suc (m - k) p)))
    (n - m - b) b (k - 1) (omega arith)
