-- `codec::read_number` meets its contract. The loop's invariant: it walks along the number's bytes (`Walked`), all with bit 7 set so far; the
-- three ways out are the three ways in which a walk ends. The measure is the groups left. Nine groups are 63 bits, so no sum wraps.
-- Assumes nothing.
use Rattle.codec.proofs.Walk.{Walked}
use Rattle.codec.proofs.read_number.Given as goal

-- `codec::read_number` meets its contract. The loop's invariant: it walks along the number's bytes (`Walked`), all with bit 7 set so far; the
-- three ways out are the three ways in which a walk ends. The measure is the groups left. Nine groups are 63 bits, so no sum wraps.
-- Assumes nothing.
abbrev pub invariant-loop-left : goal.invariant-loop-left
invariant-loop-left l = Walked l.bytes l.at l.initial.left l.left l.value l.weight l.least l.next

abbrev pub decreases-loop-left : goal.decreases-loop-left
decreases-loop-left l = l.left
