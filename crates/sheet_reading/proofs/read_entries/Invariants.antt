-- `sheet_reading::read_entries` meets its contract. The loop walks along the entries (`EntriesWalk`), those so far in the cells.
-- Assumes nothing.
use Rattle.sheet_reading.proofs.Walk.{EntriesWalk}
use Rattle.sheet_reading.proofs.read_entries.Given as goal

abbrev pub invariant-loop-entry : goal.invariant-loop-entry
invariant-loop-entry l = EntriesWalk l.bytes l.kind l.length l.start l.entry-items l.next l.entry-index
