-- `blocks::stopped_row` meets its contract: each count is stored at its own index.
-- Assumes nothing.
use mathlib.Core.Path.{◌≡◌}
use Rattle.numbers.proofs.Tables.{filled}
use Rattle.blocks.specs.Inside.{stopped_of}
use Rattle.blocks.proofs.stopped_row.Given as goal

abbrev pub invariant-loop-j : goal.invariant-loop-j
invariant-loop-j l = l.cell-items ≡ filled (stopped_of l.size l.running) l.initial.cell-items l.j
