-- `figures::part_importances` meets its contract: the local cells are filled from the front, each by its part's row and the row of all path sets.
-- Assumes nothing.
use Rattle.std.proofs.Common.{◌≡◌}
use Rattle.numbers.proofs.Tables.{filled}
use Rattle.figures.specs.Inside.{importance_by}
use Rattle.figures.proofs.part_importances.Given as goal

abbrev pub invariant-loop-i : goal.invariant-loop-i
invariant-loop-i l = l.cell-items ≡ filled (importance_by l.n l.rows) l.initial.cell-items l.i
