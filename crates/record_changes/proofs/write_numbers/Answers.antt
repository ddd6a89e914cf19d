-- `record_changes::write_numbers` meets its contract: each number is placed behind those before it.
-- Assumes nothing.
use Rattle.record_changes.proofs.Writing.{forms_none, forms_more}
use Rattle.record_changes.proofs.write_numbers.Goals as goal

pub loop-number-init : goal.loop-number-init
loop-number-init c = forms_none c.args.numbers.now c.args.buffer.now c.args.at c.requires

pub loop-number-preserved : goal.loop-number-preserved
loop-number-preserved c =
    let a = c.args in
    forms_more a.numbers.now a.buffer.now a.at c.requires c.loop-number.number-index c.loop-number-test.true _ _ _ _ c.loop-number.invariant c.write_number-next.ensures
