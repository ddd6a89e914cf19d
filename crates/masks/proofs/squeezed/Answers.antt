-- `masks::squeezed` meets its contract: a position is kept in front of the rest, or skipped.
use Rattle.std.proofs.Common.{arith}
use Rattle.masks.proofs.Squeezing.{kept_on, skipped_on, room_half, room_same}
use Rattle.masks.proofs.squeezed.Goals as goal
use Rattle.masks.proofs.squeezed.Goals.{then-skipped-eq0, else-skipped-eq0}

pub loop-skipped-preserved : goal.loop-skipped-preserved
loop-skipped-preserved c =
    let l = c.loop-skipped in
    let small = l.invariant.small in
    elim c.if-skipped-eq0.branch [
      | then-skipped-eq0 w ↦ rw (w.kept-is, w.unit-is) (record {
        whole = omega (arith, kept_on l.unit l.skipped l.rest small w.if-skipped-eq0.true);
        small = omega arith;
        room = omega (arith, room_half l.unit l.skipped);
      })
      | else-skipped-eq0 w ↦ rw (w.kept-is, w.unit-is) (record {
        whole = omega (arith, skipped_on l.unit l.skipped l.rest small w.if-skipped-eq0.false);
        small = omega arith;
        room = omega (arith, room_same l.unit l.skipped);
      })
    ]
