-- `blocks::Join::count` meets its contract: the terms that are added up are those of both products, which are 0 where the block has no more parts,
-- and no sum on the way is above 17 × 2 × 12870².
-- Assumes nothing.
use mathlib.Core.Path.{◌≡◌, ap}
use Prim.Native.Nat.{◌+◌, min}
use native.Mathlib.Omega.{arith}
use Rattle.theory_sums.specs.Sums.{sum_below}
use Rattle.blocks.proofs.Joins.{joined_term, term_few, terms_more, joined_sum}
use Rattle.blocks.proofs.Join.count.Goals as goal

pub overflow_mul-sum : goal.overflow_mul-sum
overflow_mul-sum c = omega (arith, term_few c.requires.joining c.args.k c.loop-i.i)

pub overflow_mul-sum-in-loop-i : goal.overflow_mul-sum-in-loop-i
overflow_mul-sum-in-loop-i c = omega (arith, term_few c.requires.joining c.args.k c.loop-i.i)

pub overflow_add-sum : goal.overflow_add-sum
overflow_add-sum c = omega (arith, term_few c.requires.joining c.args.k c.loop-i.i)

pub overflow_add-sum-in-loop-i : goal.overflow_add-sum-in-loop-i
overflow_add-sum-in-loop-i c = omega (arith, term_few c.requires.joining c.args.k c.loop-i.i)

pub loop-i-preserved : goal.loop-i-preserved
loop-i-preserved c =
    let few = term_few c.requires.joining c.args.k c.loop-i.i in
    let more = terms_more c.args.self.now.running.now c.args.self.now.stopped.now c.args.self.now.with c.args.self.now.without c.args.k c.loop-i.i in
    record { within = omega arith; added = omega arith; few = omega arith }

pub returns-2 : goal.returns-2
returns-2 c =
    let join = c.args.self.now in
    let more = terms_more join.running.now join.stopped.now join.with join.without c.args.k c.loop-i.i in
    let all : c.loop-i.i + 1 ≡ min join.size c.args.k + 1 = omega arith in
    let sum = ap (sum_below (joined_term join.running.now join.stopped.now join.with join.without c.args.k)) all in
    let whole = joined_sum c.requires.joining c.args.k in
    omega arith
