-- `joint::Pairs::tail` meets its contract: no product is over 16!.
-- Assumes nothing.
use native.Mathlib.Omega.{arith}
use Rattle.joint.proofs.Tails.{within_few, around_few}
use Rattle.joint.proofs.Pairs.tail.Goals as goal

pub overflow_mul-result : goal.overflow_mul-result
overflow_mul-result c =
    record {
      fits = omega (
        arith,
        within_few _ _ _ c.requires.counted c.args.k c.args.l c.cell.result c.ways.result c.if-k-l.true c.requires.l_le_n c.cell.ensures c.ways.ensures,
      );
    }

pub overflow_mul-result-else-k-l : goal.overflow_mul-result-else-k-l
overflow_mul-result-else-k-l c =
    record {
      fits = omega (
        arith,
        around_few _ _ _ c.requires.counted c.args.k c.args.l c.cell-else-k-l.result c.ways-else-k-l.result c.if-k-l.false c.requires.k_le_n
            c.cell-else-k-l.ensures c.ways-else-k-l.ensures,
      );
    }
