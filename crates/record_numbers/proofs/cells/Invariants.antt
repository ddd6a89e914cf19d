-- `record_numbers::cells` meets its contract: each number that the group does not have fills the first spare cell.
-- Assumes nothing.
use mathlib.Core.Path.{◌≡◌}
use mathlib.Core.List.{List}
use Prim.Native.Nat.{ℕ, ◌≤◌}
use lib.ListN.{length, take}
use Rattle.record_numbers.specs.Numbering.{cells_of, others}
use Rattle.record_numbers.proofs.cells.Given as goal

-- the others of the first numbers stand in front
pub record Filled (numbers : List ℕ) (group : ℕ) (cells : List ℕ) (next index : ℕ) : Type 0 where
  pub below : next ≤ index
  pub counted : next ≡ length (others (take index numbers) group)
  pub stands : cells ≡ cells_of (others (take index numbers) group)

abbrev pub invariant-loop-index : goal.invariant-loop-index
invariant-loop-index l = Filled l.number-items l.group l.cells l.next l.index
