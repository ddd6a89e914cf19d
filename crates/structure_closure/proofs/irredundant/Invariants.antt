-- `structure_closure::irredundant` meets its contract: the words so far lack the sets that work without a single part.
use Rattle.std.proofs.Common.{◌≡◌, min}
use Rattle.numbers.proofs.Tables.{filled}
use Rattle.structure_words.specs.Words.{in_words, word_of}
use Rattle.structure_closure.specs.Closure.{irredundant}
use Rattle.structure_closure.proofs.irredundant.Given as goal

abbrev pub invariant-loop-at : goal.invariant-loop-at
invariant-loop-at l = l.word-items ≡ filled (word_of (irredundant (min l.parts 16) (in_words l.words))) l.initial.word-items l.at
