-- `drawing_reading::read_set_line` meets its contract. The loop's invariant: the keyword and the numbers passed stand in front (`Shown`), and
-- what was gathered is gathered of them. The measure is what is left of the text. Each way out is one in which such a walk ends.
-- Assumes nothing.
use mathlib.Core.List.{List}
use Prim.Native.Nat.{ℕ, ◌-◌}
use lib.ListN.{length}
use Rattle.drawing_text.specs.Forms.{set_word}
use Rattle.drawing_reading.specs.declared.Gathered.{Gathered}
use Rattle.drawing_reading.proofs.Positions.{Gathers}
use Rattle.drawing_reading.proofs.Shown.{Shown}
use Rattle.drawing_reading.proofs.read_set_line.Given as goal

-- how far the line is read
pub record SetWalk (text : List ℕ) (start n next : ℕ) (gathered : Gathered) : Type 0 where
  pub positions : List ℕ
  pub shown : Shown set_word text start next positions
  pub gathers : Gathers n positions gathered

abbrev pub invariant-loop-next : goal.invariant-loop-next
invariant-loop-next l = SetWalk l.text l.start l.n l.next l.gathered

abbrev pub decreases-loop-next : goal.decreases-loop-next
decreases-loop-next l = length l.text - l.next
