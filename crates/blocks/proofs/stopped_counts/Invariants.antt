-- `blocks::stopped_counts` meets its contract: row after row gets the sets on which its block is stopped.
-- Assumes nothing.
use mathlib.Core.Path.{◌≡◌}
use lib.ListN.{length, replicate}
use Rattle.numbers.proofs.Tables.{filled}
use Rattle.blocks.specs.Inside.{row_in, stopped_at}
use Rattle.blocks.proofs.stopped_counts.Given as goal

abbrev pub invariant-loop-b : goal.invariant-loop-b
invariant-loop-b l = l.rows ≡ filled (row_in (length l.sizes) (stopped_at l.sizes l.running)) (replicate 16 (replicate 17 0)) l.b
