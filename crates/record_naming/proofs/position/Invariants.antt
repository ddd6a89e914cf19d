-- `record_naming::position` meets its contract. The loop's invariant: the position found among the numbers left, counted from the first, is the
-- one found among all.
-- Assumes nothing.
use mathlib.Core.Path.{◌≡◌}
use Prim.Native.Nat.{suc, ◌-◌, ◌≤◌}
use lib.ListN.{length, drop}
use Rattle.record_naming.specs.Naming.{position_from, position_of}
use Rattle.record_naming.proofs.position.Given as goal

abbrev pub invariant-loop-i : goal.invariant-loop-i
invariant-loop-i l = (l.i ≤ length l.numbers) × (position_from (suc l.i) l.number (drop l.i l.numbers) ≡ position_of l.numbers l.number)

abbrev pub decreases-loop-i : goal.decreases-loop-i
decreases-loop-i l = length l.numbers - l.i
