-- `structure_closure::idle` meets its contract: the words with the part are compared one by one, and the first that is another is enough.
-- Assumes nothing.
use Prim.Native.Nat.{◌-◌, ◌≤◌}
use Rattle.structure_words.specs.Words.{in_words}
use Rattle.structure_closure.proofs.Unchanged.{Unchanged}
use Rattle.structure_closure.proofs.idle.Given as goal

abbrev pub invariant-loop-at : goal.invariant-loop-at
invariant-loop-at l = (l.at ≤ 1024) × Unchanged l.part (in_words l.words) l.at

abbrev pub decreases-loop-at : goal.decreases-loop-at
decreases-loop-at l = 1024 - l.at
