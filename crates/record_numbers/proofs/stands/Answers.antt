-- `record_numbers::stands` meets its contract: one number after the other is looked at.
-- Assumes nothing.
use mathlib.Core.Path.{refl, sym, ◌∙◌}
use Rattle.record_numbers.proofs.Names.{names_here, names_past, names_end}
use Rattle.record_numbers.proofs.stands.Goals as goal

pub loop-other-init : goal.loop-other-init
loop-other-init c = refl

pub returns-then-other-number : goal.returns-then-other-number
returns-then-other-number c =
    sym (names_here c.args.numbers.now c.loop-other.other-index c.loop-other-test.true c.args.number c.if-other-number.true) ∙ c.loop-other.invariant

pub loop-other-preserved : goal.loop-other-preserved
loop-other-preserved c =
    sym (names_past c.args.numbers.now c.loop-other.other-index c.loop-other-test.true c.args.number c.if-other-number.false) ∙ c.loop-other.invariant

pub returns : goal.returns
returns c =
    sym (names_end c.args.numbers.now c.loop-other.other-index c.loop-other-test.false c.args.number) ∙ c.loop-other.invariant
