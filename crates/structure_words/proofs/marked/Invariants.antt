-- `structure_words::marked` meets its contract: so far each set of the first of the list has its bit.
use Rattle.std.proofs.Common.{◌≡◌}
use Rattle.structure_words.specs.Words.{words_of}
use Rattle.structure_words.proofs.Words.{among_first}
use Rattle.structure_words.proofs.marked.Given as goal

abbrev pub invariant-loop-set : goal.invariant-loop-set
invariant-loop-set l = l.marks ≡ words_of (among_first l.list l.set-index)
