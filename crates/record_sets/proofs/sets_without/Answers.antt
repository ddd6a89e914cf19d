-- `record_sets::sets_without` meets its contract: the sets that are kept are counted before any is stored.
-- Assumes nothing.
use mathlib.Core.Path.{refl, ap, ◌∙◌}
use native.Mathlib.Omega.{arith}
use Rattle.std.specs.Prelude.{Ok, Err}
use Rattle.answer.specs.Outcome.{outcome, Numbered}
use Rattle.answer.proofs.Deliveries.{delivered_short}
use Rattle.record_lines.specs.Changes.{sets_without}
use Rattle.record_sets.proofs.sets_without.Goals as goal

pub returns-then-kept-needed : goal.returns-then-kept-needed
returns-then-kept-needed c =
    let a = c.args in
    ap (λ (w : Numbered). outcome w a.kept.now) (ap Err c.at.ensures)
    ∙ delivered_short (Ok tt) (sets_without a.group a.sets.now) a.kept.now refl _ c.left_without-needed.ensures c.if-kept-needed.true

pub keep_without-left-requires : goal.keep_without-left-requires
keep_without-left-requires c = omega (arith, c.left_without-needed.ensures, c.if-kept-needed.false)

pub returns : goal.returns
returns c = c.keep_without-left.ensures
