-- The share with n!/L put off to the end: L is divided by k C(m+j,k) without a rest, and so is n! by L, for n up to 16. Assumes nothing.
use mathlib.Core.Path.{◌≡◌, refl, sym, ap, ap₂, ◌∙◌}
use mathlib.Core.Bool.{Bool, false, not}
use Prim.Native.Nat.{ℕ, zero, suc, ◌+◌, ◌-◌, ◌*◌, ◌/◌, ◌≤◌, ◌<◌}
use native.Mathlib.Nat.{mul-zero, zero-lt-suc}
use native.Mathlib.Omega.{arith}
use lib.Dec.{eqb}
use lib.IntN.{ℤ, pos, ◌*ℤ◌, *ℤ_comm, pos-*ℤ-pos}
use borrow.Author.Tests.{eqb-true}
use Rattle.numbers.specs.Counts.{factorial, choose}
use Rattle.numbers.proofs.Counts.{factorial_pos, factor_same}
use Rattle.theory_sums.proofs.Integers.{ring}
use Rattle.theory_sums.proofs.IntegerSums.{sum_belowℤ_same, sum_belowℤ_mul}
use Rattle.theory_sets.specs.Masks.{any}
use Rattle.numbers.proofs.Bools.{not_not}
use Rattle.theory_sets.proofs.Ranges.{any_none}
use Rattle.shares_claim.specs.Polynomials.{integral, share_from}
use Rattle.shares_claim.specs.Inside.{common, power_weight}
use Rattle.shares_claim.proofs.Integrals.{integral_choose}
use Rattle.shares_claim.proofs.Algorithm.{coefficient_powers}
use Rattle.theory_sums.specs.Sums.{sum_belowℤ}

-- the coefficient of z^j in c_(k-1)(z), by the powers of x (001, eq. 9): the term of x^i in the derivative, and their sum
abbrev pub power_term : ℕ → (ℕ → ℕ → ℤ) → ℕ → ℕ → ℕ → ℤ
power_term m h k j i = pos (choose (m - 1 - i) (k - 1)) *ℤ (pos (i + 1) *ℤ h (i + 1) j)

unfoldable pub power_sum : ℕ → (ℕ → ℕ → ℤ) → ℕ → ℕ → ℤ
power_sum m h k j = sum_belowℤ (power_term m h k j) m

-- what n!/L times is the share
unfoldable pub regrouped : ℕ → ℕ → (ℕ → ℕ → ℤ) → ℕ → ℤ
regrouped n m h k = sum_belowℤ (λ j. power_sum m h k j *ℤ pos (power_weight n m k j)) (suc (n - m))

-- ---- by computing

-- x divides y
divides : ℕ → ℕ → Bool
divides x y = eqb (y / x * x) y

divides_exact : (x y : ℕ) → not (divides x y) ≡ false → y / x * x ≡ y
unfolding divides
divides_exact x y h = eqb-true (y / x * x) y (sym (not_not (divides x y)) ∙ ap not h)

factorials_divided : any (λ n. not (divides (common n) (factorial n))) 17 ≡ false
unfolding any divides common factorial
factorials_divided = refl

-- k C(N,k) divides L for each N up to n
common_divided : any (λ n. any (λ i. any (λ k. not (divides (suc k * choose i (suc k)) (common n))) i) (suc n)) 17 ≡ false
unfolding any divides common choose
common_divided = refl

-- ---- the weights

common_whole : (n : ℕ) → n ≤ 16 → factorial n / common n * common n ≡ factorial n
common_whole n h =
    divides_exact (common n) (factorial n) (any_none (λ n. not (divides (common n) (factorial n))) 17 n factorials_divided (omega arith))

pub power_weight_whole : (n m k j : ℕ) → n ≤ 16 → 1 ≤ k → k ≤ m → m + j ≤ n → power_weight n m k j * (k * choose (m + j) k) ≡ common n
unfolding power_weight
power_weight_whole n m k j few some most within =
    let row : suc (k - 1) ≡ k = omega arith in
    ap (λ (x : ℕ). common n / (x * choose (m + j) x) * (x * choose (m + j) x)) (sym row)
    ∙ divides_exact (suc (k - 1) * choose (m + j) (suc (k - 1))) (common n)
    (any_none (λ k. not (divides (suc k * choose (m + j) (suc k)) (common n))) (m + j) (k - 1)
    (any_none (λ i. any (λ k. not (divides (suc k * choose i (suc k)) (common n))) i) (suc n) (m + j)
    (any_none (λ n. any (λ i. any (λ k. not (divides (suc k * choose i (suc k)) (common n))) i) (suc n)) 17 n common_divided (omega arith))
    (omega arith))
    (omega arith))

-- n! times the integral of t^(m-k+j) (1-t)^(k-1) is the weight of z^j, times n!/L
integral_regrouped : (n m k j : ℕ) → n ≤ 16 → 1 ≤ k → k ≤ m → m + j ≤ n
    → integral n (m - k + j) (k - 1) ≡ power_weight n m k j * (factorial n / common n)
integral_regrouped n m k j few some most within =
    factor_same _ _ (k * choose (m + j) k) (factor_pos (integral n (m - k + j) (k - 1)) (k * choose (m + j) k) (rw whole (factorial_pos n)))
    (whole ∙ sym (common_whole n few) ∙ ap (λ (u : ℕ). factorial n / common n * u) (sym (power_weight_whole n m k j few some most within))
    ∙ turned (factorial n / common n) (power_weight n m k j) (k * choose (m + j) k))
  where
    whole : integral n (m - k + j) (k - 1) * (k * choose (m + j) k) ≡ factorial n
    whole =
        let row : k ≡ suc (k - 1) = omega arith in
        let parts : m + j ≡ m - k + j + (k - 1) + 1 = omega arith in
        ap₂ (λ (x y : ℕ). integral n (m - k + j) (k - 1) * (x * choose y x)) row parts ∙ integral_choose n (m - k + j) (k - 1) (omega arith)

    factor_pos : (x y : ℕ) → 0 < x * y → 0 < y
    factor_pos x zero h = absurd (omega (arith, mul-zero x))
    factor_pos x (suc y) h = zero-lt-suc y

    turned : (r w c : ℕ) → r * (w * c) ≡ w * r * c
    turned r w c = omega arith

-- ---- the share

pub share_regrouped : (n m : ℕ) (h : ℕ → ℕ → ℤ) (k : ℕ) → n ≤ 16 → 1 ≤ k → k ≤ m → m ≤ n
    → share_from n m h k ≡ regrouped n m h k *ℤ pos (factorial n / common n)
unfolding share_from regrouped power_sum
share_regrouped n m h k few some most within =
    sum_belowℤ_same _ (λ j. pos (factorial n / common n) *ℤ (power_sum m h k j *ℤ pos (power_weight n m k j))) (suc (n - m)) (λ j l.
    ap₂ (λ (u : ℤ) (x : ℕ). u *ℤ pos x) (coefficient_powers m (omega arith) h k j) (integral_regrouped n m k j few some most (omega arith))
    ∙ ap (λ (u : ℤ). power_sum m h k j *ℤ u) (sym (pos-*ℤ-pos (power_weight n m k j) (factorial n / common n)))
    ∙ turned (power_sum m h k j) (pos (power_weight n m k j)) (pos (factorial n / common n)))
    ∙ sum_belowℤ_mul (pos (factorial n / common n)) (λ j. power_sum m h k j *ℤ pos (power_weight n m k j)) (suc (n - m))
    ∙ *ℤ_comm (pos (factorial n / common n)) (regrouped n m h k)
  where
    turned : (s w r : ℤ) → s *ℤ (w *ℤ r) ≡ r *ℤ (s *ℤ w)
    turned s w r = simp ring
