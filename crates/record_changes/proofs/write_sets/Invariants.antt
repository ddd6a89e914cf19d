-- `record_changes::write_sets` meets its contract: each set is placed behind those before it.
-- Assumes nothing.
use mathlib.Core.Path.{◌≡◌}
use lib.ListN.{take}
use Rattle.answer.specs.Outcome.{outcome}
use Rattle.answer.specs.Placed.{placed}
use Rattle.codec.specs.ByteForm.{forms_of}
use Rattle.record_changes.proofs.write_sets.Given as goal

abbrev pub invariant-loop-set : goal.invariant-loop-set
invariant-loop-set l = outcome l.next l.buffer ≡ placed l.initial.buffer l.at (forms_of (take l.set-index l.sets))
