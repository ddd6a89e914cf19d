-- A number and a bound. Assumes nothing.
use mathlib.Core.Logic.{◌⊎◌, inl, inr, ⊎_elim}
use Prim.Native.Nat.{ℕ, zero, suc, ◌≤◌, ◌<◌, zero-le, suc-le-suc}
use native.Mathlib.Nat.{zero-lt-suc}

-- a number is below a bound, or not
pub below_or_above : (i k : ℕ) → (i < k) ⊎ (k ≤ i)
below_or_above i zero = inr zero-le
below_or_above zero (suc k) = inl (zero-lt-suc k)
below_or_above (suc i) (suc k) = ⊎_elim (λ h. inl (suc-le-suc h)) (λ h. inr (suc-le-suc h)) (below_or_above i k)
