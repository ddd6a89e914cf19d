-- `structure_words::store` meets its contract: each byte is cut out of its word.
use Rattle.std.proofs.Common.{arith}
use Rattle.numbers.proofs.Tables.{filled_again}
use Rattle.structure_words.proofs.Bytes.{stored_byte}
use Rattle.structure_words.proofs.store.Goals as goal

pub loop-at-preserved : goal.loop-at-preserved
loop-at-preserved c =
    filled_again _ _ _ _ _ c.loop-at.invariant (omega arith) (stored_byte c.args.words.now _ _ _ c.to_le_bytes.ensures c.cell.ensures)
