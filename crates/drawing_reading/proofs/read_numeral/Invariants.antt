-- `drawing_reading::read_numeral` meets its contract. The loop's invariant: it walks along the digits (`DigitWalk`), and the next digit is known.
-- The measure is what is left of the text, since a digit stands inside it.
-- Assumes nothing.
use mathlib.Core.Path.{◌≡◌}
use Prim.Native.Nat.{◌-◌}
use lib.ListN.{length}
use Rattle.drawing_reading.specs.Inside.{digit_at}
use Rattle.drawing_reading.proofs.Numerals.{DigitWalk}
use Rattle.drawing_reading.proofs.read_numeral.Given as goal

abbrev pub invariant-loop-digit : goal.invariant-loop-digit
invariant-loop-digit l = DigitWalk l.text l.start l.value l.next × (l.digit ≡ digit_at l.text l.next)

abbrev pub decreases-loop-digit : goal.decreases-loop-digit
decreases-loop-digit l = length l.text - l.next
