-- `report_figures::put_counts` meets its contract: so many lines are put, and each is put from its parts.
-- Assumes nothing.
use Prim.Native.Nat.{◌+◌}
use Rattle.report_figures.specs.FiguresText.{count_line}
use Rattle.report_figures.proofs.Blocks.{Before}
use Rattle.report_figures.proofs.put_counts.Given as goal

abbrev pub invariant-loop-i : goal.invariant-loop-i
invariant-loop-i l = Before l.initial.text l.at (count_line l.fn.list l.counts) (l.i + 1) l.text l.next
