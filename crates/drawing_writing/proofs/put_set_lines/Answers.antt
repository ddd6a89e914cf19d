-- `drawing_writing::put_set_lines` meets its contract: each line is placed behind those before it.
-- Assumes nothing.
use Rattle.drawing_writing.proofs.Writing.{lines_before, line_room, line_more}
use Rattle.drawing_writing.proofs.put_set_lines.Goals as goal

pub loop-set-init : goal.loop-set-init
loop-set-init c = lines_before c.args.sets.now c.args.text.now c.args.at c.requires

pub put_set_line-next-requires : goal.put_set_line-next-requires
put_set_line-next-requires c =
    line_room c.args.sets.now c.args.text.now c.args.at c.requires c.loop-set.set-index c.loop-set-test.true _ _ c.loop-set.invariant

pub loop-set-preserved : goal.loop-set-preserved
loop-set-preserved c =
    line_more c.args.sets.now c.args.text.now c.args.at c.requires c.loop-set.set-index c.loop-set-test.true _ _ c.loop-set.invariant _ _ c.put_set_line-next.ensures
