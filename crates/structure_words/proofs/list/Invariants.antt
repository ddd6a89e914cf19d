-- `structure_words::list` meets its contract: the sets are counted first, so the buffer is left alone where it is short, and then written in their
-- order, a word after the other.
-- Assumes nothing.
use mathlib.Core.Path.{◌≡◌}
use Prim.Native.Nat.{◌+◌, ◌-◌, ◌≤◌}
use lib.ListN.{length}
use Rattle.theory_sets.specs.Masks.{those}
use Rattle.structure_words.specs.Words.{in_words}
use Rattle.structure_words.proofs.Runs.{Walk}
use Rattle.structure_words.proofs.list.Given as goal

abbrev pub invariant-loop-at : goal.invariant-loop-at
invariant-loop-at l = (l.needed ≡ length (those (in_words l.words) 65536)) × ((l.needed ≤ length l.initial.sets) × Walk l.words l.initial.sets l.at l.mask l.rest l.next l.sets)

abbrev pub decreases-loop-at : goal.decreases-loop-at
decreases-loop-at l = (65536 - l.mask) + (1024 - l.at)
