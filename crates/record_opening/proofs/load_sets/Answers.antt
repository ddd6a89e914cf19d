-- `record_opening::load_sets` meets its contract. The loop's invariant: it walks along the sets (`SetWalk`). The measure is the sets left.
-- Assumes nothing.
use mathlib.Core.Path.{sym}
use Prim.Native.Nat.{◌<◌}
use native.Mathlib.Omega.{arith}
use Rattle.record_opening.proofs.Loading.{set_walk_none, set_walk_end, set_walk_ended, set_walk_member, set_walk_more}
use Rattle.record_opening.proofs.load_sets.Goals as goal

pub loop-read-init : goal.loop-read-init
loop-read-init c =
    let a = c.args in set_walk_none a.bytes.now a.first.left a.first

pub returns-in_default : goal.returns-in_default
returns-in_default c =
    set_walk_ended c.loop-read.invariant c.loop-read-test.true (sym c.in_default.ensures)

pub overflow_cast-sets : goal.overflow_cast-sets
overflow_cast-sets c =
    -- the set is a mask of 16 bits
    let small : c.in-Some.step.set < 65536 =
    c.requires.by_index _ (set_walk_member c.loop-read.invariant c.loop-read-test.true _ (sym c.in-Some.ensures)) in
    omega (arith, small)

pub loop-read-preserved : goal.loop-read-preserved
loop-read-preserved c =
    set_walk_more c.loop-read.invariant c.loop-read-test.true _ (sym c.in-Some.ensures) c.requires.left_le_most_sets

pub returns : goal.returns
returns c =
    set_walk_end c.loop-read.invariant c.loop-read-test.false
