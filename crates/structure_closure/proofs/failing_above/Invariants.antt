-- `structure_closure::failing_above` meets its contract: so far the sets that do not work with one of the parts before this one are joined.
use Rattle.std.proofs.Common.{◌≡◌}
use Rattle.structure_words.specs.Words.{in_words, word_of}
use Rattle.structure_closure.specs.Inside.{failing_above}
use Rattle.structure_closure.proofs.failing_above.Given as goal

abbrev pub invariant-loop-part : goal.invariant-loop-part
invariant-loop-part l = l.some ≡ word_of (failing_above l.part (in_words l.words)) l.at
