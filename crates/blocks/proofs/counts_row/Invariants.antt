-- `blocks::counts_row` meets its contract: the row is filled from the front, and beyond the vector it stays 0.
-- Assumes nothing.
use mathlib.Core.Path.{◌≡◌}
use lib.ListN.{replicate}
use Rattle.numbers.proofs.Tables.{filled}
use Rattle.blocks.specs.Inside.{count_at}
use Rattle.blocks.proofs.counts_row.Given as goal

abbrev pub invariant-loop-j : goal.invariant-loop-j
invariant-loop-j l = l.row ≡ filled (count_at l.vector) (replicate 17 0) l.j
