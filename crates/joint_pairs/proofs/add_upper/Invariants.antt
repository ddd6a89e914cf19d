-- `joint_pairs::add_upper` meets its contract: the lower half is filled from the front, and the upper half stays as it was.
-- Assumes nothing.
use mathlib.Core.Path.{◌≡◌}
use lib.ListN.{take}
use Rattle.numbers.proofs.Tables.{filled}
use Rattle.joint_pairs.proofs.Sweeping.{half_sum}
use Rattle.joint_pairs.proofs.add_upper.Given as goal

abbrev pub invariant-loop-r : goal.invariant-loop-r
invariant-loop-r l = l.lower ≡ filled (half_sum l.half l.fn.cells) (take l.half l.fn.cells) l.r
