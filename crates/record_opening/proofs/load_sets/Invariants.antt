-- `record_opening::load_sets` meets its contract. The loop's invariant: it walks along the sets (`SetWalk`).
-- Assumes nothing.
use Rattle.record_opening.proofs.Loading.{SetWalk}
use Rattle.record_opening.proofs.load_sets.Given as goal

abbrev pub invariant-loop-read : goal.invariant-loop-read
invariant-loop-read l = SetWalk l.bytes l.read-end l.initial.cursor l.sets l.cursor l.read
