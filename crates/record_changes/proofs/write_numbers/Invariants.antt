-- `record_changes::write_numbers` meets its contract: each number is placed behind those before it.
-- Assumes nothing.
use mathlib.Core.Path.{◌≡◌}
use lib.ListN.{take}
use Rattle.answer.specs.Outcome.{outcome}
use Rattle.answer.specs.Placed.{placed}
use Rattle.codec.specs.ByteForm.{forms_of}
use Rattle.record_changes.proofs.write_numbers.Given as goal

abbrev pub invariant-loop-number : goal.invariant-loop-number
invariant-loop-number l = outcome l.next l.buffer ≡ placed l.initial.buffer l.at (forms_of (take l.number-index l.numbers))
