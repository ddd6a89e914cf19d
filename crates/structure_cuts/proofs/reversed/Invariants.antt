-- `structure_cuts::reversed` meets its contract: one part after the other is exchanged.
-- Assumes nothing.
use mathlib.Core.Path.{◌≡◌}
use Prim.Native.Nat.{◌-◌, ◌≤◌}
use Rattle.theory_sets.specs.Masks.{has}
use Rattle.theory_sets.specs.Tables.{packed}
use Rattle.structure_cuts.specs.Inside.{turned_index}
use Rattle.structure_cuts.proofs.reversed.Given as goal

abbrev pub invariant-loop-part : goal.invariant-loop-part
invariant-loop-part l = (l.part ≤ 6) × (l.turned ≡ packed 64 (λ k. has l.word (turned_index l.part k)))

abbrev pub decreases-loop-part : goal.decreases-loop-part
decreases-loop-part l = 6 - l.part
