-- `drawing_reading::read_set_lines` meets its contract. The loop's invariant: the sets of the lines passed stand in front of the array, and the
-- lines left decide as all of them do (`LinesWalk`). The measure is what is left of the text.
-- Assumes nothing.
use Prim.Native.Nat.{◌-◌}
use lib.ListN.{length}
use Rattle.drawing_reading.proofs.SetLines.{LinesWalk}
use Rattle.drawing_reading.proofs.read_set_lines.Given as goal

abbrev pub invariant-loop-next : goal.invariant-loop-next
invariant-loop-next l = LinesWalk l.text l.start l.n l.sets l.count l.next

abbrev pub decreases-loop-next : goal.decreases-loop-next
decreases-loop-next l = length l.text - l.next
