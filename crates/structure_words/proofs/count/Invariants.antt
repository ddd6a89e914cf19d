-- `structure_words::count` meets its contract: so far the sets of the first words are counted.
use Rattle.std.proofs.Common.{◌≡◌, ◌*◌, length}
use Rattle.theory_sets.specs.Masks.{those}
use Rattle.structure_words.specs.Words.{in_words}
use Rattle.structure_words.proofs.count.Given as goal

abbrev pub invariant-loop-word : goal.invariant-loop-word
invariant-loop-word l = l.sum ≡ length (those (in_words l.words) (64 * length l.yielded))
