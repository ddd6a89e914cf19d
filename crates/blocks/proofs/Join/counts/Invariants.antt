-- `blocks::Join::counts` meets its contract: the row is filled up to all parts, and beyond them the counts are the zeros that stand there.
-- Assumes nothing.
use mathlib.Core.Path.{◌≡◌}
use Rattle.numbers.proofs.Tables.{filled}
use Rattle.blocks.specs.Inside.{joined_count}
use Rattle.blocks.proofs.Join.counts.Given as goal

abbrev pub invariant-loop-k : goal.invariant-loop-k
invariant-loop-k l = l.cell-items ≡ filled (joined_count l.self.running.now l.self.stopped.now l.self.with l.self.without) l.initial.cell-items l.k
