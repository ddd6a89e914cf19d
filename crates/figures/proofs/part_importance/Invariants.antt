-- `figures::part_importance` meets its contract: size by size the path sets with the part are added and those without it are taken, each sum
-- at most 16 × 65,536 × 15!, and what is taken is no more than what is added.
-- Assumes nothing.
use mathlib.Core.Path.{◌≡◌}
use mathlib.Core.List.{List}
use Prim.Native.Nat.{ℕ, ◌*◌, ◌≤◌}
use Rattle.figures.specs.Inside.{added_sets, taken_sets}
use Rattle.figures.proofs.part_importance.Given as goal

pub record Carried (n : ℕ) (counts with : List ℕ) (added taken s : ℕ) : Type 0 where
  pub few_added : added ≤ s * (65536 * 1307674368000)
  pub few_taken : taken ≤ s * (65536 * 1307674368000)
  pub is-added : added ≡ added_sets n with s
  pub is-taken : taken ≡ taken_sets n counts with s

abbrev pub invariant-loop-s : goal.invariant-loop-s
invariant-loop-s l = Carried l.n l.counts l.with l.added l.taken l.s
