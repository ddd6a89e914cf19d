-- How a share is worked out from h without leaving 64 bits: n!/L is put off to the end, where L is lcm(1..n).
-- A reader of the promises may pass this file over.
use Rattle.std.specs.Prelude.{[], ◌∷◌, ℕ, ◌+◌, ◌-◌, ◌*◌, ◌/◌, ◌^◌, ◌≤◌, ℤ, nat_abs, get_or}
use Rattle.numbers.specs.Counts.{choose}

-- lcm(1..n), for n up to 16
unfoldable pub common : ℕ → ℕ
common n =
    get_or (1 ∷ 1 ∷ 2 ∷ 6 ∷ 12 ∷ 60 ∷ 60 ∷ 420 ∷ 840 ∷ 2520 ∷ 2520 ∷ 27720 ∷ 27720 ∷ 360360 ∷ 360360 ∷ 360360 ∷ 720720 ∷ []) n 1

-- the weight of z^j: L divided by k C(m+j,k)
unfoldable pub power_weight : ℕ → ℕ → ℕ → ℕ → ℕ
power_weight n m k j = common n / (k * choose (m + j) k)

-- no coefficient is over what h's can be
abbrev pub Bounded : ℕ → ℕ → (ℕ → ℕ → ℤ) → Type 0
Bounded n m h = (i j : ℕ) → i ≤ m → j ≤ n - m → nat_abs (h i j) ≤ choose m i * choose (n - m) j * 2 ^ (i + j)
