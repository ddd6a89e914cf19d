-- `drawing_writing::put_positions` meets its contract: the bits are walked from the lowest, and each position that the set has is put behind those
-- below it.
-- Assumes nothing.
use mathlib.Core.Path.{◌≡◌}
use Prim.Native.Nat.{◌+◌, ◌-◌, ◌≤◌}
use Rattle.answer.specs.Outcome.{outcome}
use Rattle.answer.specs.Placed.{placed}
use Rattle.drawing_text.specs.Forms.{spaced}
use Rattle.drawing_text.proofs.Lengths.{positions_below}
use Rattle.drawing_writing.proofs.put_positions.Given as goal

abbrev pub invariant-loop-i : goal.invariant-loop-i
invariant-loop-i l = (l.i ≤ 16) × (outcome l.next l.text ≡ placed l.initial.text l.at (spaced (positions_below l.set (l.i + 1))))

abbrev pub decreases-loop-i : goal.decreases-loop-i
decreases-loop-i l = 16 - l.i
