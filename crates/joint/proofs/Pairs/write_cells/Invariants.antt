-- `joint::Pairs::write_cells` meets its contract: the cells are filled from the front, and the rest is as it was.
-- Assumes nothing.
use mathlib.Core.Path.{◌≡◌}
use mathlib.Core.List.{List}
use Prim.Native.Nat.{ℕ, ◌/◌, ◌%◌}
use Rattle.numbers.proofs.Tables.{filled}
use Rattle.joint.specs.Inside.{cell_by}
use Rattle.joint.proofs.Pairs.write_cells.Given as goal

-- the count in a cell
abbrev pub in_cell : ℕ → List ℕ → List ℕ → ℕ → ℕ
in_cell n within around c = cell_by n within around (c / n) (c % n)

abbrev pub invariant-loop-c : goal.invariant-loop-c
invariant-loop-c l = l.cell-items ≡ filled (in_cell l.self.n l.self.within l.self.around) l.initial.cell-items l.c
