-- `record::first_nested` meets its contract: a set that is kept leaves the answer to the sets after it.
-- Assumes nothing.
use mathlib.Core.Path.{◌≡◌}
use Prim.Native.Nat.{◌-◌, ◌≤◌}
use Rattle.structure_words.specs.Words.{in_words}
use Rattle.record.specs.Inside.{nested_at}
use Rattle.record.proofs.first_nested.Given as goal

-- `record::first_nested` meets its contract: a set that is kept leaves the answer to the sets after it.
-- Assumes nothing.
abbrev pub invariant-loop-index : goal.invariant-loop-index
invariant-loop-index l = (l.index ≤ l.count) × (nested_at l.bytes (in_words l.minimal) (l.count - l.index) l.next ≡ nested_at l.bytes (in_words l.minimal) l.count l.start)
