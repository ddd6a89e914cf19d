-- `joint_pairs::sweep` meets its contract: part after part each set gets what the set with that part has.
-- Assumes nothing.
use mathlib.Core.Path.{◌≡◌}
use Prim.Native.Nat.{◌^◌}
use Rattle.numbers.specs.Tables.{tabulate}
use Rattle.joint_pairs.specs.Inside.{cell_of, swept}
use Rattle.joint_pairs.proofs.sweep.Given as goal

abbrev pub invariant-loop-part : goal.invariant-loop-part
invariant-loop-part l = l.cells ≡ tabulate (2 ^ l.n) (swept l.part (cell_of l.initial.cells))
