-- `structure_closure::spare` meets its contract: so far the sets that work without one of the parts before this one are joined.
use Rattle.std.proofs.Common.{◌≡◌}
use Rattle.structure_words.specs.Words.{in_words, word_of}
use Rattle.structure_closure.specs.Closure.{spare}
use Rattle.structure_closure.proofs.spare.Given as goal

abbrev pub invariant-loop-part : goal.invariant-loop-part
invariant-loop-part l = l.some ≡ word_of (spare l.part (in_words l.words)) l.at
