-- `figures_counts::counts_by_size` meets its contract: each word adds its sets to the counts of their sizes.
-- Assumes nothing.
use Rattle.std.proofs.Common.{◌≡◌, length}
use Rattle.numbers.specs.Tables.{tabulate}
use Rattle.structure_words.specs.Words.{in_words}
use Rattle.figures_counts.proofs.Words.{sizes}
use Rattle.figures_counts.proofs.counts_by_size.Given as goal

abbrev pub invariant-loop-at : goal.invariant-loop-at
invariant-loop-at l = l.counts ≡ tabulate 17 (sizes (in_words l.words) (length l.yielded))
