-- `record_naming::mask_of` meets its contract: what is refused is refused, and else there are few enough numbers for a mask.
-- Assumes nothing.
use mathlib.Core.Path.{sym, ap, ◌∙◌}
use Rattle.std.specs.Prelude.{Ok}
use Rattle.answer.proofs.Outcomes.{valued_refused, valued_given}
use Rattle.record_naming.specs.Naming.{mask_of, mask_of_refusal}
use Rattle.record_naming.proofs.Refusals.{mask_few}
use Rattle.record_naming.proofs.mask_of.Goals as goal

pub mask-requires : goal.mask-requires
mask-requires c =
    let a = c.args in
    mask_few a.numbers.now a.wanted.now (sym c.in-Ok.ensures)

pub returns-in-Err : goal.returns-in-Err
returns-in-Err c =
    let a = c.args in
    valued_refused (mask_of_refusal a.numbers.now a.wanted.now) (mask_of a.numbers.now a.wanted.now) _ (sym c.in-Err.ensures)

pub returns-in-Ok : goal.returns-in-Ok
returns-in-Ok c =
    let a = c.args in
    ap Ok c.mask.ensures
    ∙ valued_given (mask_of_refusal a.numbers.now a.wanted.now) (mask_of a.numbers.now a.wanted.now) (sym c.in-Ok.ensures)
