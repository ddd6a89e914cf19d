-- `vector_conversion::write` meets its contract: the cells are filled from the front, and the rest is as it was.
-- Assumes nothing.
use Rattle.std.proofs.Common.{◌≡◌}
use Rattle.numbers.proofs.Tables.{filled}
use Rattle.vector_conversion.specs.Vectors.{figure}
use Rattle.vector_conversion.specs.Inside.{cells_of}
use Rattle.vector_conversion.proofs.write.Given as goal

abbrev pub invariant-loop-k : goal.invariant-loop-k
invariant-loop-k l = l.cell-items ≡ filled (figure l.kind l.n (cells_of l.counts)) l.initial.cell-items l.k
