-- `blocks::Join::count` meets its contract: the terms that are added up are those of both products, which are 0 where the block has no more parts, and no sum on the way is above
-- 17 × 2 × 12870².
-- Assumes nothing.
use mathlib.Core.Path.{◌≡◌}
use Prim.Native.Nat.{◌+◌, ◌*◌, ◌≤◌, min}
use Rattle.theory_sums.specs.Sums.{sum_below}
use Rattle.blocks.proofs.Joins.{joined_term}
use Rattle.blocks.proofs.Join.count.Given as goal

abbrev pub invariant-loop-i : goal.invariant-loop-i
invariant-loop-i l = record {
  within : l.i ≤ min l.self.size l.k + 1;
  added : l.sum ≡ sum_below (joined_term l.self.running.now l.self.stopped.now l.self.with l.self.without l.k) l.i;
  few : l.sum ≤ 2 * (12870 * 12870) * l.i;
}
