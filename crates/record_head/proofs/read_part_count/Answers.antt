-- `record_head::read_part_count` meets its contract: 21 and 22 come from the number, and then 1 is asked.
-- Assumes nothing.
use mathlib.Core.Path.{sym, ap, ◌∙◌}
use mathlib.Core.Bool.{not}
use Rattle.std.proofs.Common.{Ok, Err}
use Rattle.std.proofs.lemmas.Result.{err_from_is_err_and}
use Rattle.answer.specs.declared.Reason.TheVariants.{WrongPartCount}
use Rattle.answer.specs.Outcome.{at}
use Rattle.answer.proofs.Outcomes.{refuse_held, refuse_passed}
use Rattle.codec.specs.declared.Field.TheVariants.{Count}
use Rattle.codec.specs.Reads.{reading_of}
use Rattle.record_head.specs.Headings.{parts_refusal}
use Rattle.codec.proofs.Found.{field_ended, field_passed, field_held}
use Rattle.record_head.proofs.read_part_count.Goals as goal

pub returns-in_err-count : goal.returns-in_err-count
returns-in_err-count c =
    let a = c.args in
    let p = err_from_is_err_and c.from_residual.result c.from_residual.ensures.1 in
    rw (p.1, p.2) (ap reading_of (field_ended a.bytes.now a.start Count (parts_refusal a.start) c.read_number.ensures _ c.in_err-count.was))

pub returns-then-not-in_range : goal.returns-then-not-in_range
returns-then-not-in_range c =
    let a = c.args in
    ap Err c.at.ensures
    ∙ ap reading_of (field_held a.bytes.now a.start Count (parts_refusal a.start) c.read_number.ensures _ _ (at WrongPartCount a.start) c.in_ok-count.was
    (refuse_held _ WrongPartCount a.start _ (ap not (sym c.in_range.ensures ∙ c.if-not-in_range.true))))

pub returns : goal.returns
returns c =
    let a = c.args in
    ap reading_of (field_passed a.bytes.now a.start Count (parts_refusal a.start) c.read_number.ensures _ _ c.in_ok-count.was
    (refuse_passed _ WrongPartCount a.start _ (ap not (sym c.in_range.ensures ∙ c.if-not-in_range.false))))
