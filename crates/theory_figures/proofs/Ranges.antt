-- The numbers that a figure is worked out from stay in range: binomials, and products of factorials and counts. Assumes nothing.
use mathlib.Core.Path.{◌≡◌, refl}
use mathlib.Core.Bool.{Bool, false}
use mathlib.Core.Logic.{◌⊎◌, inl, inr}
use Prim.Native.Nat.{ℕ, zero, suc, ◌-◌, ◌*◌, ◌≤◌, ◌<◌}
use native.Mathlib.Nat.{le_trans, le_of_eq, mul-le-mul, mul_assoc}
use native.Mathlib.Omega.{arith}
use lib.Dec.{ltb}
use borrow.Author.Tests.{ltb-false}
use Rattle.numbers.specs.Counts.{factorial, choose}
use Rattle.numbers.proofs.Counts.{factorial_pos, factorials_few, choose_above, choose_rises}
use Rattle.theory_sets.specs.Masks.{any}
use Rattle.numbers.proofs.Bounds.{below_or_above}
use Rattle.theory_sets.proofs.Ranges.{any_none}
use Rattle.theory_figures.specs.Figures.{tail}

-- ---- binomials

large : ℕ → Bool
large j = ltb 12870 (choose 16 j)

none_large : any large 17 ≡ false
unfolding any large choose
none_large = refl

-- C(16,8)
pub choose_few : (n j : ℕ) → n ≤ 16 → choose n j ≤ 12870
unfolding large
choose_few n j h = cases (below_or_above j 17)
  where
    cases : (j < 17) ⊎ (17 ≤ j) → choose n j ≤ 12870
    cases (inl l) = le_trans (choose_rises n 16 j h) (ltb-false 12870 (choose 16 j) (any_none large 17 j none_large l))
    cases (inr l) = le_trans (le_of_eq (choose_above n j (omega arith))) (omega arith)

-- ---- a count times two factorials

pub product_few : (x p q c d : ℕ) → x ≤ c → p * q ≤ d → 0 < q → (x * p ≤ c * d) × (x * p * q ≤ c * d)
product_few x p q c d few small some = (
  mul-le-mul few (le_trans (once p q some) small),
  le_trans (le_of_eq (mul_assoc x p q)) (mul-le-mul few small),
)
  where
    once : (x y : ℕ) → 0 < y → x ≤ x * y
    once x (suc y) h = omega arith
    once x zero h = absurd (omega arith)

-- 65,536 × 16!
pub tail_few : (n : ℕ) (φ : ℕ → ℕ) (k : ℕ) → n ≤ 16 → k ≤ n → φ (n - k) ≤ 65536 → tail n φ k ≤ 65536 * 20922789888000
unfolding tail factorial
tail_few n φ k few h small =
    (product_few (φ (n - k)) (factorial (n - k)) (factorial k) 65536 20922789888000 small
    (factorials_few (n - k) k 16 (omega arith)) (factorial_pos k)).1
