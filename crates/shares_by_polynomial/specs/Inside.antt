-- What the private functions do: a reader of the promises may pass this file over.
use Rattle.std.specs.Prelude.{List, ◌≡◌, ℕ, suc, ◌+◌, ◌-◌, ◌*◌, ◌≤◌, ℤ, pos, negsuc, nat_abs}
use Rattle.numbers.specs.Counts.{factorial, choose}
use Rattle.shares_claim.specs.Polynomials.{share_from, in_cells}
use Rattle.shares_claim.specs.Inside.{power_weight}

-- how far a number is above 0, and how far below
unfoldable pub above : ℤ → ℕ
above (pos x) = x
above (negsuc x) = 0

unfoldable pub below : ℤ → ℕ
below (pos x) = 0
below (negsuc x) = suc x

-- what the coefficient of x^(i+1) z^j counts for in the share for k, without n!/L
unfoldable pub cell_weight : ℕ → ℕ → ℕ → ℕ → ℕ → ℕ
cell_weight n m k i j = choose (m - 1 - i) (k - 1) * (i + 1) * power_weight n m k j

-- a number in 0..n!
abbrev pub InRange : ℕ → ℤ → Type 0
InRange n z = (z ≡ pos (nat_abs z)) × (nat_abs z ≤ factorial n)

-- the share for k by the coefficients that stand in cells
abbrev pub share_of_cells : ℕ → ℕ → List ℤ → ℕ → ℤ
share_of_cells n m cells k = share_from n m (in_cells n m cells) k
