-- `record_numbers::stands` meets its contract. The loop's invariant: the number stands among those left exactly if it stands among all.
-- Assumes nothing.
use mathlib.Core.Path.{◌≡◌}
use lib.ListN.{drop}
use Rattle.record_numbers.specs.Numbering.{names}
use Rattle.record_numbers.proofs.stands.Given as goal

abbrev pub invariant-loop-other : goal.invariant-loop-other
invariant-loop-other l = names l.number (drop l.other-index l.numbers) ≡ names l.number l.numbers
