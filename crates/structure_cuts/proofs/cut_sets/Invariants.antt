-- `structure_cuts::cut_sets` meets its contract: one word after the other.
-- Assumes nothing.
use Rattle.std.proofs.Common.{◌≡◌}
use Rattle.numbers.proofs.Tables.{filled}
use Rattle.structure_words.specs.Words.{in_words, word_of}
use Rattle.structure_cuts.specs.Inside.{cuts_within}
use Rattle.structure_cuts.proofs.cut_sets.Given as goal

abbrev pub invariant-loop-at : goal.invariant-loop-at
invariant-loop-at l = l.word-items ≡ filled (word_of (cuts_within l.n (in_words l.words))) l.initial.word-items l.at
