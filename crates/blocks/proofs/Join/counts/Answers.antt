-- `blocks::Join::counts` meets its contract: the row is filled up to all parts, and beyond them the counts are the zeros that stand there.
-- Assumes nothing.
use mathlib.Core.Path.{◌≡◌, ◌∙◌}
use Prim.Native.Nat.{ℕ, ◌+◌}
use native.Mathlib.Nat.{min-eq_left}
use native.Mathlib.Omega.{arith}
use lib.ListN.{length, take, replicate, length-take}
use Rattle.blocks.proofs.Joins.{counts_done}
use Rattle.blocks.proofs.Join.counts.Goals as goal

pub returns : goal.returns
returns c =
    let join = c.args.self.now in
    let parts = c.args.parts in
    let long : length (take (parts + 1) (replicate {A = ℕ} 17 0)) ≡ parts + 1 = length-take (parts + 1) (replicate 17 0) ∙ min-eq_left (omega (arith, c.requires.parts_bound)) in
    counts_done join.running.now join.stopped.now join.with join.without parts c.loop-k.k c.loop-k.cell-items c.loop-k.invariant (omega arith) (omega arith)
    c.requires.parts_bound c.requires.by_index
