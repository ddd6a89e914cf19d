-- `joint_pairs::sweep_part` meets its contract: block after block its lower half gets what its upper half has.
-- Assumes nothing.
use mathlib.Core.Path.{◌≡◌}
use Prim.Native.Nat.{◌*◌}
use Rattle.numbers.proofs.Tables.{filled}
use Rattle.joint_pairs.specs.Inside.{cell_of, swept_over}
use Rattle.joint_pairs.proofs.sweep_part.Given as goal

abbrev pub invariant-loop-block : goal.invariant-loop-block
invariant-loop-block l = l.cells ≡ filled (swept_over l.part (cell_of l.initial.cells)) l.initial.cells (2 * l.half * l.block)
