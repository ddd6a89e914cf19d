-- `record::mark_sets` meets its contract. The loop's invariant: it walks along the sets (`MarkWalk`), those so far marked. The measure is the
-- sets left.
-- Assumes nothing.
use Prim.Native.Nat.{◌-◌}
use Rattle.record.proofs.Marking.{MarkWalk}
use Rattle.record.proofs.mark_sets.Given as goal

-- `record::mark_sets` meets its contract. The loop's invariant: it walks along the sets (`MarkWalk`), those so far marked. The measure is the
-- sets left.
-- Assumes nothing.
abbrev pub invariant-loop-read : goal.invariant-loop-read
invariant-loop-read l = MarkWalk l.bytes l.n l.count l.start l.words l.previous l.next l.read
