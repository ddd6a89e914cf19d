-- `record_tail::read_retired_number` meets its contract: 21 and 22 come from the number, and then 30 is asked.
-- Assumes nothing.
use mathlib.Core.Path.{sym, ap, ◌∙◌}
use Rattle.std.proofs.Common.{Ok, Err}
use Rattle.std.proofs.lemmas.Result.{err_from_is_err_and}
use Rattle.answer.specs.declared.Reason.TheVariants.{WrongRetired}
use Rattle.answer.specs.Outcome.{at}
use Rattle.codec.specs.declared.Field.TheVariants.{PartNumber}
use Rattle.codec.specs.Reads.{reading_of}
use Rattle.record_tail.specs.Tails.{retired_refusal}
use Rattle.codec.proofs.Found.{field_ended, field_passed, field_held}
use Rattle.record_tail.proofs.Answers.{retired_misnumbered, retired_in_use, retired_right}
use Rattle.record_tail.proofs.read_retired_number.Goals as goal

pub returns-in_err-number : goal.returns-in_err-number
returns-in_err-number c =
    let a = c.args in
    let p = err_from_is_err_and c.from_residual.result c.from_residual.ensures.1 in
    rw (p.1, p.2) (ap reading_of (field_ended a.bytes.now a.start PartNumber (retired_refusal a.mark a.numbers.now a.previous a.start) c.read_number.ensures _ c.in_err-number.was))

pub returns-then-misnumbered : goal.returns-then-misnumbered
returns-then-misnumbered c =
    let a = c.args in
    ap Err c.at.ensures
    ∙ ap reading_of (field_held a.bytes.now a.start PartNumber (retired_refusal a.mark a.numbers.now a.previous a.start) c.read_number.ensures _ _ (at WrongRetired a.start) c.in_ok-number.was
    (retired_misnumbered a.mark a.numbers.now a.previous a.start _ (sym c.misnumbered.ensures ∙ c.if-misnumbered.true)))

pub returns-then-stands : goal.returns-then-stands
returns-then-stands c =
    let a = c.args in
    ap Err c.at-then-stands.ensures
    ∙ ap reading_of (field_held a.bytes.now a.start PartNumber (retired_refusal a.mark a.numbers.now a.previous a.start) c.read_number.ensures _ _ (at WrongRetired a.start) c.in_ok-number.was
    (retired_in_use a.mark a.numbers.now a.previous a.start _ (sym c.stands.ensures ∙ c.if-stands.true)))

pub returns : goal.returns
returns c =
    let a = c.args in
    ap reading_of (field_passed a.bytes.now a.start PartNumber (retired_refusal a.mark a.numbers.now a.previous a.start) c.read_number.ensures _ _ c.in_ok-number.was
    (retired_right a.mark a.numbers.now a.previous a.start _ (sym c.misnumbered.ensures ∙ c.if-misnumbered.false) (sym c.stands.ensures ∙ c.if-stands.false)))
