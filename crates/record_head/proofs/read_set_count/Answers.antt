-- `record_head::read_set_count` meets its contract: 21 and 22 come from the number, and then 2 and 3 are asked.
-- Assumes nothing.
use mathlib.Core.Path.{sym, ap, ◌∙◌}
use borrow.Author.Tests.{eq-eqb, ne_eqb, lt-ltb, le-ltb}
use Rattle.std.proofs.Common.{Ok, Err}
use Rattle.std.proofs.lemmas.Result.{err_from_is_err_and}
use Rattle.answer.specs.declared.Reason.TheVariants.{EmptyList, LongList}
use Rattle.answer.specs.Outcome.{at}
use Rattle.answer.proofs.Outcomes.{refuse_held, refuse_passed}
use Rattle.codec.specs.declared.Field.TheVariants.{Count}
use Rattle.codec.specs.Reads.{reading_of}
use Rattle.record_head.specs.Headings.{set_count_refusal}
use Rattle.codec.proofs.Found.{field_ended, field_passed, field_held}
use Rattle.record_head.proofs.read_set_count.Goals as goal

pub returns-in_err-count : goal.returns-in_err-count
returns-in_err-count c =
    let a = c.args in
    let p = err_from_is_err_and c.from_residual.result c.from_residual.ensures.1 in
    rw (p.1, p.2) (ap reading_of (field_ended a.bytes.now a.start Count (set_count_refusal a.start) c.read_number.ensures _ c.in_err-count.was))

pub returns-then-count-eq0 : goal.returns-then-count-eq0
returns-then-count-eq0 c =
    let a = c.args in
    ap Err c.at.ensures
    ∙ ap reading_of (field_held a.bytes.now a.start Count (set_count_refusal a.start) c.read_number.ensures _ _ (at EmptyList a.start) c.in_ok-count.was
    (refuse_held _ EmptyList a.start _ (eq-eqb _ 0 c.if-count-eq0.true)))

pub returns-then-count-gt12870 : goal.returns-then-count-gt12870
returns-then-count-gt12870 c =
    let a = c.args in
    ap Err c.at-then-count-gt12870.ensures
    ∙ ap reading_of (field_held a.bytes.now a.start Count (set_count_refusal a.start) c.read_number.ensures _ _ (at LongList a.start) c.in_ok-count.was
    (refuse_passed _ EmptyList a.start _ (ne_eqb _ 0 c.if-count-eq0.false) ∙ refuse_held _ LongList a.start _ (lt-ltb 12870 _ c.if-count-gt12870.true)))

pub returns : goal.returns
returns c =
    let a = c.args in
    ap reading_of (field_passed a.bytes.now a.start Count (set_count_refusal a.start) c.read_number.ensures _ _ c.in_ok-count.was
    (refuse_passed _ EmptyList a.start _ (ne_eqb _ 0 c.if-count-eq0.false) ∙ refuse_passed _ LongList a.start _ (le-ltb 12870 _ c.if-count-gt12870.false)))
