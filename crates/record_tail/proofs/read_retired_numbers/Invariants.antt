-- `record_tail::read_retired_numbers` meets its contract. The loop's invariant: it walks along the retired numbers (`RetiredWalk`), those so far in the
-- cells.
-- Assumes nothing.
use Rattle.record_tail.proofs.Walk.{RetiredWalk}
use Rattle.record_tail.proofs.read_retired_numbers.Given as goal

-- `record_tail::read_retired_numbers` meets its contract. The loop's invariant: it walks along the retired numbers (`RetiredWalk`), those so far in the
-- cells.
-- Assumes nothing.
abbrev pub invariant-loop-index : goal.invariant-loop-index
invariant-loop-index l = RetiredWalk l.bytes l.mark l.numbers l.count l.start l.cells l.previous l.next l.index
