-- `drawing_reading::record_of_drawing` meets its contract: what an accepted text says is a list that a first record takes.
-- Assumes nothing.
use mathlib.Core.Path.{sym, ap, ◌∙◌}
use lib.ListN.{length}
use Rattle.drawing_reading.proofs.Records.{DrawnRead, drawn_read, drawn_refused, drawn_record}
use Rattle.std.proofs.lemmas.Result.{err_from_is_err_and}
use Rattle.drawing_reading.proofs.record_of_drawing.Goals as goal

pub returns-in_err-drawn : goal.returns-in_err-drawn
returns-in_err-drawn c =
    let a = c.args in
    let p = err_from_is_err_and c.from_residual.result c.from_residual.ensures.1 in
    rw (p.1, p.2) (drawn_refused a.text.now c.read_drawing-drawn.result c.read_drawing-drawn.ensures _ c.in_err-drawn.was a.buffer.now)

pub slice_bounds-sets-end : goal.slice_bounds-sets-end
slice_bounds-sets-end c =
    -- what an accepted text gave
    let read : DrawnRead c.args.text.now c.read_drawing-drawn.result c.read_drawing-drawn.ensures =
    drawn_read c.args.text.now c.read_drawing-drawn.result c.read_drawing-drawn.ensures c.in_ok-drawn.was in
    read.inside

pub slice_bounds-first_record-end : goal.slice_bounds-first_record-end
slice_bounds-first_record-end c =
    -- what an accepted text gave
    let read : DrawnRead c.args.text.now c.read_drawing-drawn.result c.read_drawing-drawn.ensures =
    drawn_read c.args.text.now c.read_drawing-drawn.result c.read_drawing-drawn.ensures c.in_ok-drawn.was in
    let r = read in r.counted ∙ ap length (sym r.front)

pub returns : goal.returns
returns c =
    let a = c.args in
    c.first_record.ensures
    ∙ drawn_record a.text.now c.read_drawing-drawn.result c.read_drawing-drawn.ensures c.in_ok-drawn.was a.buffer.now
