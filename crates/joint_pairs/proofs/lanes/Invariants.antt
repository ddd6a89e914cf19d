-- `joint_pairs::lanes` meets its contract: each size's mark is stored at its own index.
-- Assumes nothing.
use mathlib.Core.Path.{◌≡◌}
use Rattle.numbers.proofs.Tables.{filled}
use Rattle.joint_pairs.specs.Inside.{lane_of}
use Rattle.joint_pairs.proofs.lanes.Given as goal

abbrev pub invariant-loop-s : goal.invariant-loop-s
invariant-loop-s l = l.cell-items ≡ filled (lane_of l.third) l.initial.cell-items l.s
