-- `structure_closure::spread_over` meets its contract: the words so far have the sets that work, and those that work without the part.
use Rattle.std.proofs.Common.{◌≡◌, ◌||◌}
use Rattle.numbers.proofs.Tables.{filled}
use Rattle.structure_words.specs.Words.{in_words, word_of}
use Rattle.structure_closure.specs.Closure.{without}
use Rattle.structure_closure.proofs.spread_over.Given as goal

abbrev pub invariant-loop-at : goal.invariant-loop-at
invariant-loop-at l =
    l.word-items ≡ filled (word_of (λ a. in_words l.words a || without l.part (in_words l.words) a)) l.initial.word-items l.at
