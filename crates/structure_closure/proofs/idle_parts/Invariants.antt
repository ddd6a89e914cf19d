-- `structure_closure::idle_parts` meets its contract: so far the mask has those of the parts before this one that are idle.
use Rattle.std.proofs.Common.{◌≡◌}
use Rattle.theory_sets.specs.Tables.{packed}
use Rattle.theory_sets.specs.Idle.{idle}
use Rattle.structure_words.specs.Words.{in_words}
use Rattle.structure_closure.proofs.idle_parts.Given as goal

abbrev pub invariant-loop-part : goal.invariant-loop-part
invariant-loop-part l = l.mask ≡ packed l.part (idle 16 (in_words l.words))
