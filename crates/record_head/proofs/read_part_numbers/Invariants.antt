-- `record_head::read_part_numbers` meets its contract. The loop's invariant: it walks along the part numbers (`NumbersWalk`), those so far in the
-- cells.
-- Assumes nothing.
use Rattle.record_head.proofs.PartWalk.{NumbersWalk}
use Rattle.record_head.proofs.read_part_numbers.Given as goal

-- `record_head::read_part_numbers` meets its contract. The loop's invariant: it walks along the part numbers (`NumbersWalk`), those so far in the
-- cells.
-- Assumes nothing.
abbrev pub invariant-loop-index : goal.invariant-loop-index
invariant-loop-index l = NumbersWalk l.bytes l.mark l.count l.start l.numbers l.previous l.next l.index
