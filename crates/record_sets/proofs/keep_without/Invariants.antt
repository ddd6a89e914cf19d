-- `record_sets::keep_without` meets its contract: each set that has no part of the group is stored, squeezed, behind those before it.
-- Assumes nothing.
use lib.ListN.{take}
use Rattle.answer.proofs.Outcomes.{InFront}
use Rattle.record_lines.specs.Changes.{sets_without}
use Rattle.record_sets.proofs.keep_without.Given as goal

abbrev pub invariant-loop-set : goal.invariant-loop-set
invariant-loop-set l = InFront l.initial.kept (sets_without l.group (take l.set-index l.sets)) l.kept l.next
