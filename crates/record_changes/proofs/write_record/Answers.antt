-- `record_changes::write_record` meets its contract: the needed length is known before anything is written.
-- Assumes nothing.
use mathlib.Core.Path.{refl, ap, ◌∙◌}
use native.Mathlib.Omega.{arith}
use Rattle.std.specs.Prelude.{Ok, Err}
use Rattle.answer.specs.Outcome.{outcome, Numbered}
use Rattle.answer.proofs.Deliveries.{delivered_short}
use Rattle.record_parts.specs.PartLists.{list_of}
use Rattle.record.specs.Records.{design}
use Rattle.record.specs.RecordBytes.{record_bytes}
use Rattle.record_changes.proofs.Writing.{placed_delivered}
use Rattle.record_changes.proofs.write_record.Goals as goal

pub returns-then-buffer-needed : goal.returns-then-buffer-needed
returns-then-buffer-needed c =
    let a = c.args in
    ap (λ (w : Numbered). outcome w a.buffer.now) (ap Err c.at.ensures)
    ∙ delivered_short (Ok tt) (record_bytes (design (list_of a.mark a.numbers.now) a.sets.now)) a.buffer.now refl _
    c.record_length-needed.ensures.value c.if-buffer-needed.true

pub write_pieces-end-requires : goal.write_pieces-end-requires
write_pieces-end-requires c =
    omega (arith, c.record_length-needed.ensures.value, c.if-buffer-needed.false)

pub returns : goal.returns
returns c =
    let a = c.args in
    placed_delivered a.buffer.now (record_bytes (design (list_of a.mark a.numbers.now) a.sets.now)) _ _ (omega (arith, c.record_length-needed.ensures.value, c.if-buffer-needed.false)) c.write_pieces-end.ensures
