-- `report_figures::put_cells` meets its contract: so many lines are put, and each is put from its parts.
-- Assumes nothing.
use Prim.Native.Nat.{◌+◌}
use Rattle.report_figures.specs.FiguresText.{cell_line}
use Rattle.report_figures.proofs.Blocks.{Before}
use Rattle.report_figures.proofs.put_cells.Given as goal

abbrev pub invariant-loop-i : goal.invariant-loop-i
invariant-loop-i o l = Before l.initial.text l.at (cell_line l.word l.cells) (l.i + 1) l.text l.next
