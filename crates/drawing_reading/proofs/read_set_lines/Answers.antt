-- `drawing_reading::read_set_lines` meets its contract. The loop's invariant: the sets of the lines passed stand in front of the array, and the
-- lines left decide as all of them do (`LinesWalk`). The measure is what is left of the text.
-- Assumes nothing.
use mathlib.Core.Path.{◌≡◌, sym, ◌∙◌}
use Prim.Native.Nat.{◌<◌}
use native.Mathlib.Omega.{arith}
use lib.ListN.{drop}
use Rattle.std.specs.Prelude.{Err}
use Rattle.drawing_text.specs.Lines.{first_line}
use Rattle.drawing_reading.specs.Inside.{set_line_of, line_read}
use Rattle.drawing_reading.proofs.SetLines.{lines_walk_none, lines_walk_refused, lines_walk_end, lines_walk_over, lines_walk_broken, lines_walk_room, lines_walk_on, lines_walk_more}
use Rattle.drawing_reading.proofs.read_set_lines.Goals as goal

pub loop-next-init : goal.loop-next-init
loop-next-init c =
    lines_walk_none _ _ _

pub returns-then-count-eq12870 : goal.returns-then-count-eq12870
returns-then-count-eq12870 c =
    let w = c.loop-next.invariant in
    c.refused.ensures ∙ lines_walk_refused w _ (lines_walk_over w c.loop-next-test.true c.if-count-eq12870.true)

pub read_set_line-line-requires : goal.read_set_line-line-requires
read_set_line-line-requires c =
    record { n_bound = c.requires; start_in_bounds = omega arith }

pub overflow_add-count-in-Err : goal.overflow_add-count-in-Err
overflow_add-count-in-Err c =
    let few = c.loop-next.invariant.few in omega (arith, few)

pub returns-in-Err : goal.returns-in-Err
returns-in-Err c =
    let w = c.loop-next.invariant in
    c.refused-in-Err.ensures
    ∙ lines_walk_refused w _ (lines_walk_broken w c.loop-next-test.true c.if-count-eq12870.false _ (sym c.in-Err.is ∙ c.read_set_line-line.ensures))

pub offset_bounds-sets-count : goal.offset_bounds-sets-count
offset_bounds-sets-count c =
    let few = c.loop-next.invariant.few in omega (arith, few)

pub bounds-sets-count : goal.bounds-sets-count
bounds-sets-count c =
    lines_walk_room c.loop-next.invariant c.loop-next-test.true c.if-count-eq12870.false

pub overflow_add-count-in-Ok : goal.overflow_add-count-in-Ok
overflow_add-count-in-Ok c =
    let few = c.loop-next.invariant.few in omega (arith, few)

pub loop-next-smaller : goal.loop-next-smaller
loop-next-smaller c =
    -- a line that was read as a set
    let read : line_read c.in-Ok.read.value c.in-Ok.read.next ≡ set_line_of c.args.n (first_line (drop c.loop-next.next c.args.text.now)) c.loop-next.next =
    sym c.in-Ok.is ∙ c.read_set_line-line.ensures in
    let forward : c.loop-next.next < c.in-Ok.read.next =
    lines_walk_on c.loop-next.invariant c.loop-next-test.true c.if-count-eq12870.false _ _ read in
    omega (arith, c.loop-next-test.true, forward)

pub loop-next-preserved : goal.loop-next-preserved
loop-next-preserved c =
    -- a line that was read as a set
    let read : line_read c.in-Ok.read.value c.in-Ok.read.next ≡ set_line_of c.args.n (first_line (drop c.loop-next.next c.args.text.now)) c.loop-next.next =
    sym c.in-Ok.is ∙ c.read_set_line-line.ensures in
    lines_walk_more c.loop-next.invariant c.loop-next-test.true c.if-count-eq12870.false _ _ read

pub returns : goal.returns
returns c =
    lines_walk_end c.loop-next.invariant c.loop-next-test.false
