-- `record_changes::write_sets` meets its contract: each set is placed behind those before it.
-- Assumes nothing.
use Rattle.record_changes.proofs.Writing.{forms_none, forms_more}
use Rattle.record_changes.proofs.write_sets.Goals as goal

pub loop-set-init : goal.loop-set-init
loop-set-init c = forms_none c.args.sets.now c.args.buffer.now c.args.at c.requires

pub loop-set-preserved : goal.loop-set-preserved
loop-set-preserved c =
    let a = c.args in
    forms_more a.sets.now a.buffer.now a.at c.requires c.loop-set.set-index c.loop-set-test.true _ _ _ _ c.loop-set.invariant (rw c.from.ensures at c.write_number-next.ensures)
