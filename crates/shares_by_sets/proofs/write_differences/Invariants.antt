-- `shares_by_sets::write_differences` meets its contract: the shares are filled from the front, and the rest is as it was.
-- Assumes nothing.
use mathlib.Core.Path.{◌≡◌}
use mathlib.Core.List.{List}
use Prim.Native.Nat.{ℕ, ◌+◌, ◌-◌}
use lib.IntN.{ℤ, pos, ◌-ℤ◌}
use lib.ListN.{get_or}
use Rattle.numbers.proofs.Tables.{filled}
use Rattle.theory_sets.specs.Masks.{size}
use Rattle.shares_by_sets.proofs.write_differences.Given as goal

-- the share in cell k
abbrev pub share : ℕ → List ℕ → List ℕ → ℕ → ℤ
share m added taken k = pos (get_or added (m - k) 0) -ℤ pos (get_or taken (m - (k + 1)) 0)

abbrev pub invariant-loop-k : goal.invariant-loop-k
invariant-loop-k l = l.share-items ≡ filled (share (size l.group) l.sums.added l.sums.taken) l.initial.share-items l.k
