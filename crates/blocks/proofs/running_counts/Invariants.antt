-- `blocks::running_counts` meets its contract: row after row gets the path counts of its block, whose vector starts where the one before ends.
-- Assumes nothing.
use mathlib.Core.Path.{◌≡◌}
use lib.ListN.{length, replicate}
use Rattle.numbers.proofs.Tables.{filled}
use Rattle.blocks_checks.specs.Given.{start_of, block_counts}
use Rattle.blocks.specs.Inside.{row_in}
use Rattle.blocks.proofs.running_counts.Given as goal

abbrev pub invariant-loop-b : goal.invariant-loop-b
invariant-loop-b l = (l.start ≡ start_of l.sizes l.b) × (l.rows ≡ filled (row_in (length l.sizes) (block_counts l.sizes l.vectors)) (replicate 16 (replicate 17 0)) l.b)
