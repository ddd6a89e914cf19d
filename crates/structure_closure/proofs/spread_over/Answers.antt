-- `structure_closure::spread_over` meets its contract: a word of the sets that work is joined with that of those that work without the part.
use Rattle.std.proofs.Common.{arith}
use Rattle.numbers.proofs.Tables.{filled_again}
use Rattle.structure_closure.proofs.Turns.{carried_word}
use Rattle.structure_closure.proofs.spread_over.Goals as goal

pub loop-at-preserved : goal.loop-at-preserved
loop-at-preserved c =
    filled_again _ _ _ _ _ c.loop-at.invariant (omega arith) (carried_word c.args.words.now _ _ _ c.cell.ensures c.cell.type_inv _ c.without.ensures)
