-- `joint::write_square` meets its contract: the pairs of two accepted tables give their square.
-- Assumes nothing.
use mathlib.Core.Path.{ap, ◌∙◌}
use mathlib.Core.List.{List, ◌++◌}
use Prim.Native.Nat.{ℕ, ◌*◌}
use lib.ListN.{drop}
use Rattle.joint.proofs.Tails.{counted_tables, square_is}
use Rattle.joint.proofs.write_square.Goals as goal

pub write_cells-requires-clause-counted : goal.write_cells-requires-clause-counted
write_cells-requires-clause-counted c =
    let a = c.args in
    counted_tables a.n a.first.now a.second.now c.requires.second_value _ _ _ _ c.load-one.ensures c.load-other.ensures c.nested_pairs-within.ensures
    c.nested_pairs-around.ensures

pub returns : goal.returns
returns c =
    let a = c.args in
    c.write_cells.ensures
    ∙ ap (λ (xs : List ℕ). xs ++ drop (a.n * a.n) a.cells.now)
    (square_is a.n a.first.now a.second.now c.requires.second_value _ _ _ _ c.load-one.ensures c.load-other.ensures c.nested_pairs-within.ensures
    c.nested_pairs-around.ensures)
