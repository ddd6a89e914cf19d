-- `structure_patterns::at_least` meets its contract: one word after the other.
-- Assumes nothing.
use Rattle.std.proofs.Common.{◌≡◌, ◌&&◌, ◌^◌, ltb}
use Rattle.numbers.proofs.Tables.{filled}
use Rattle.theory_patterns.specs.Patterns.{at_least}
use Rattle.structure_words.specs.Words.{word_of}
use Rattle.structure_patterns.proofs.at_least.Given as goal

abbrev pub invariant-loop-at : goal.invariant-loop-at
invariant-loop-at l = l.word-items ≡ filled (word_of (λ a. ltb a (2 ^ l.n) && at_least l.k a)) l.initial.word-items l.at
