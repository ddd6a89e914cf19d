-- `record_tail::read_retired_count` meets its contract: 21 and 22 come from the number, and then 30 is asked.
-- Assumes nothing.
use mathlib.Core.Path.{sym, ap, ◌∙◌}
use borrow.Author.Tests.{lt-ltb, le-ltb}
use Rattle.std.proofs.Common.{Ok, Err}
use Rattle.std.proofs.lemmas.Result.{err_from_is_err_and}
use Rattle.answer.specs.declared.Reason.TheVariants.{WrongRetired}
use Rattle.answer.specs.Outcome.{at}
use Rattle.answer.proofs.Outcomes.{refuse_held, refuse_passed}
use Rattle.codec.specs.declared.Field.TheVariants.{Count}
use Rattle.codec.specs.Reads.{reading_of}
use Rattle.record_tail.specs.Tails.{retired_count_refusal}
use Rattle.codec.proofs.Found.{field_ended, field_passed, field_held}
use Rattle.record_tail.proofs.read_retired_count.Goals as goal

pub returns-in_err-count : goal.returns-in_err-count
returns-in_err-count c =
    let a = c.args in
    let p = err_from_is_err_and c.from_residual.result c.from_residual.ensures.1 in
    rw (p.1, p.2) (ap reading_of (field_ended a.bytes.now a.start Count (retired_count_refusal a.start) c.read_number.ensures _ c.in_err-count.was))

pub returns-then-count-gt64 : goal.returns-then-count-gt64
returns-then-count-gt64 c =
    let a = c.args in
    ap Err c.at.ensures
    ∙ ap reading_of (field_held a.bytes.now a.start Count (retired_count_refusal a.start) c.read_number.ensures _ _ (at WrongRetired a.start) c.in_ok-count.was
    (refuse_held _ WrongRetired a.start _ (lt-ltb 64 _ c.if-count-gt64.true)))

pub returns : goal.returns
returns c =
    let a = c.args in
    ap reading_of (field_passed a.bytes.now a.start Count (retired_count_refusal a.start) c.read_number.ensures _ _ c.in_ok-count.was
    (refuse_passed _ WrongRetired a.start _ (le-ltb 64 _ c.if-count-gt64.false)))
