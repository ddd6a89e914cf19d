-- The shares of a group M of m parts, k = 1..m, set by set (01, "Figures"; 001, eq. 1).
-- A group is a mask, and m its size.
use Rattle.std.specs.Prelude.{Bool, List, ℕ, suc, ℤ, pos, ◌-ℤ◌}
use Rattle.numbers.specs.Tables.{tabulate}
use Rattle.theory_sets.specs.Masks.{size}
use Rattle.theory_orders.specs.Formulas.{added, taken}

-- the share for k: the two sums of 001, eq. 1, times n!, one minus the other
unfoldable pub share_of : ℕ → (ℕ → Bool) → ℕ → ℕ → ℤ
share_of n works group k = pos (added n works group k) -ℤ pos (taken n works group k)

unfoldable pub shares_by_sets : ℕ → (ℕ → Bool) → ℕ → List ℤ
shares_by_sets n works group = tabulate (size group) (λ k. share_of n works group (suc k))
