-- `masks::squeezed` meets its contract: what is kept so far, and behind it what the rest of the set is without the rest of the group, are what is
-- asked for.
use Rattle.std.proofs.Common.{◌≡◌, ◌+◌, ◌*◌, ◌^◌, ◌<◌}
use Rattle.masks.specs.Groups.{squeezed}
use Rattle.masks.proofs.squeezed.Given as goal

abbrev pub invariant-loop-skipped : goal.invariant-loop-skipped
invariant-loop-skipped l = record {
  whole : l.kept + l.unit * squeezed 16 l.skipped l.rest ≡ squeezed 16 l.group l.set;
  small : l.rest < 2 ^ 16;
  room : l.unit * l.skipped < 2 ^ 64;
}

abbrev pub decreases-loop-skipped : goal.decreases-loop-skipped
decreases-loop-skipped l = l.skipped
