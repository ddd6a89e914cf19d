-- `figures_counts::add_word` meets its contract: the sets of each size within the word are counted and added where that size stands.
-- Assumes nothing.
use Rattle.std.proofs.Common.{◌≡◌}
use Rattle.figures_counts.proofs.Words.{added}
use Rattle.figures_counts.proofs.add_word.Given as goal

abbrev pub invariant-loop-k : goal.invariant-loop-k
invariant-loop-k l = l.count-items ≡ added l.word l.initial.count-items l.k
