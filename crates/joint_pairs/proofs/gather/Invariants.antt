-- `joint_pairs::gather` meets its contract: the cell of each set that works is added where its size stands.
-- Assumes nothing.
use mathlib.Core.Path.{◌≡◌}
use Rattle.numbers.specs.Tables.{tabulate}
use Rattle.structure_words.specs.Words.{in_words}
use Rattle.joint_pairs.specs.Inside.{cells_by_size}
use Rattle.joint_pairs.proofs.gather.Given as goal

abbrev pub invariant-loop-b : goal.invariant-loop-b
invariant-loop-b l = l.sums ≡ tabulate 17 (cells_by_size (in_words l.words) l.cells l.b)
