-- `record_head::read_part_number` meets its contract: 21 and 22 come from the number, and then 23 is asked.
-- Assumes nothing.
use mathlib.Core.Path.{sym, ap, ◌∙◌}
use Rattle.std.proofs.Common.{Ok, Err}
use Rattle.std.proofs.lemmas.Result.{err_from_is_err_and}
use Rattle.answer.specs.declared.Reason.TheVariants.{WrongPartNumber}
use Rattle.answer.specs.Outcome.{at}
use Rattle.answer.proofs.Outcomes.{refuse_held, refuse_passed}
use Rattle.codec.specs.declared.Field.TheVariants.{PartNumber}
use Rattle.codec.specs.Reads.{reading_of}
use Rattle.record_head.specs.Headings.{part_number_refusal}
use Rattle.codec.proofs.Found.{field_ended, field_passed, field_held}
use Rattle.record_head.proofs.read_part_number.Goals as goal

pub returns-in_err-number : goal.returns-in_err-number
returns-in_err-number c =
    let a = c.args in
    let p = err_from_is_err_and c.from_residual.result c.from_residual.ensures.1 in
    rw (p.1, p.2) (ap reading_of (field_ended a.bytes.now a.start PartNumber (part_number_refusal a.mark a.previous a.start) c.read_number.ensures _ c.in_err-number.was))

pub returns-then-misnumbered : goal.returns-then-misnumbered
returns-then-misnumbered c =
    let a = c.args in
    ap Err c.at.ensures
    ∙ ap reading_of (field_held a.bytes.now a.start PartNumber (part_number_refusal a.mark a.previous a.start) c.read_number.ensures _ _ (at WrongPartNumber a.start) c.in_ok-number.was
    (refuse_held _ WrongPartNumber a.start _ (sym c.misnumbered.ensures ∙ c.if-misnumbered.true)))

pub returns : goal.returns
returns c =
    let a = c.args in
    ap reading_of (field_passed a.bytes.now a.start PartNumber (part_number_refusal a.mark a.previous a.start) c.read_number.ensures _ _ c.in_ok-number.was
    (refuse_passed _ WrongPartNumber a.start _ (sym c.misnumbered.ensures ∙ c.if-misnumbered.false)))
