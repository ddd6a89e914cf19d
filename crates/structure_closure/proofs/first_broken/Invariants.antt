-- `structure_closure::first_broken` meets its contract: no set of the words so far is broken.
use Rattle.std.proofs.Common.{◌*◌, min}
use Rattle.theory_sets.specs.Structures.{broken}
use Rattle.structure_words.specs.Words.{in_words}
use Rattle.structure_closure.proofs.Walks.{NoneBelow}
use Rattle.structure_closure.proofs.first_broken.Given as goal

abbrev pub invariant-loop-at : goal.invariant-loop-at
invariant-loop-at l = NoneBelow (broken (min l.parts 16) (in_words l.words)) (64 * l.at)
