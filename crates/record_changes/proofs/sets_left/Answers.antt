-- `record_changes::sets_left` meets its contract: no more sets are kept than there are, so that the array is never short.
-- Assumes nothing.
use mathlib.Core.Path.{refl, sym, ap, ◌∙◌}
use native.Mathlib.Omega.{arith}
use Rattle.std.specs.Prelude.{Ok}
use Rattle.answer.specs.Outcome.{outcome, Numbered}
use Rattle.answer.proofs.Deliveries.{refused_by}
use Rattle.record_head.proofs.Answers.{not_both}
use Rattle.record_lines.specs.Changes.{sets_without}
use Rattle.record_lines.proofs.TakenOut.{without_fewer}
use Rattle.record_changes.proofs.sets_left.Goals as goal

pub returns-in-Err : goal.returns-in-Err
returns-in-Err c =
    let a = c.args in
    not_both refl
    (refused_by (Ok tt) (sets_without a.group a.sets.now) a.kept.now c.sets_without-written.new.kept _
    (λ e. omega (arith, without_fewer a.group a.sets.now, c.requires))
    (ap (λ (x : Numbered). outcome x c.sets_without-written.new.kept) (sym c.in-Err.is) ∙ c.sets_without-written.ensures))

pub returns-in-Ok : goal.returns-in-Ok
returns-in-Ok c =
    ap (λ (x : Numbered). outcome x c.sets_without-written.new.kept) (sym c.in-Ok.is) ∙ c.sets_without-written.ensures
