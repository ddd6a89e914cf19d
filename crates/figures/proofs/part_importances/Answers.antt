-- `figures::part_importances` meets its contract: each cell is filled by its part's row and the row of all path sets.
-- Assumes nothing.
use Prim.Native.Nat.{ℕ}
use native.Mathlib.Omega.{arith}
use lib.ListN.{length-take}
use Rattle.numbers.proofs.Tables.{filled_again}
use Rattle.figures.specs.Inside.{importance_by}
use Rattle.figures.proofs.Machines.{lent_parted, lent_importance}
use Rattle.figures.proofs.part_importances.Goals as goal

pub part_importance-requires : goal.part_importance-requires
part_importance-requires c = lent_parted c.args.n c.args.rows.now c.loop-i.i c.requires (omega (arith, length-take {A = ℕ}))

pub loop-i-preserved : goal.loop-i-preserved
loop-i-preserved c =
    let a = c.args in
    filled_again (importance_by a.n a.rows.now) _ c.loop-i.i _ c.loop-i.cell-items c.loop-i.invariant c.loop-i-test.true
    (lent_importance a.n a.rows.now c.loop-i.i _ c.part_importance.ensures)
