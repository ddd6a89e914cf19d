-- `record_tail::read_counts` meets its contract. The loop's invariant: it walks along the path counts that have to stand there, and those so far
-- stood there. The measure is the counts left.
-- Assumes nothing.
use mathlib.Core.List.{List}
use Prim.Native.Nat.{ℕ, ◌-◌}
use lib.ListN.{length}
use Rattle.codec.specs.declared.Field.TheVariants.{Count}
use Rattle.codec.proofs.FieldReads.{FieldsWalk}
use Rattle.record_tail.specs.Tails.{count_judge}
use Rattle.record_tail.proofs.read_counts.Given as goal

-- `record_tail::read_counts` meets its contract. The loop's invariant: it walks along the path counts that have to stand there, and those so far
-- stood there. The measure is the counts left.
-- Assumes nothing.
abbrev pub invariant-loop-right : goal.invariant-loop-right
invariant-loop-right l = (earlier : List ℕ) × FieldsWalk l.bytes Count (count_judge l.counts) (length l.counts) l.start earlier l.next l.right-index
