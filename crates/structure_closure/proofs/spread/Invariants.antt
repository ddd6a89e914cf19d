-- `structure_closure::spread` meets its contract: so far the sets are carried over the parts before this one.
use Rattle.std.proofs.Common.{◌≡◌}
use Rattle.structure_words.specs.Words.{in_words, words_of}
use Rattle.structure_closure.specs.Closure.{spread}
use Rattle.structure_closure.proofs.spread.Given as goal

abbrev pub invariant-loop-part : goal.invariant-loop-part
invariant-loop-part l = l.next ≡ words_of (spread l.part (in_words l.words))
