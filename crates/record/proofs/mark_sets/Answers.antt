-- `record::mark_sets` meets its contract. The loop's invariant: it walks along the sets (`MarkWalk`), those so far marked. The measure is the
-- sets left.
-- Assumes nothing.
use mathlib.Core.Path.{◌≡◌, ap, sym, ◌∙◌}
use Prim.Native.Nat.{ℕ, ◌<◌}
use native.Mathlib.Omega.{arith}
use Rattle.std.specs.Prelude.{Ok}
use Rattle.codec.proofs.Found.{answer_number, answer_refused}
use Rattle.record.proofs.Marking.{mark_walk_none, mark_walk_below, mark_walk_more, mark_walk_refused, mark_walk_end, marked_of_lem}
use Rattle.record.proofs.mark_sets.Goals as goal
use Rattle.record.proofs.mark_sets.Goals.{In-Ok}

pub loop-read-init : goal.loop-read-init
loop-read-init c = let a = c.args in mark_walk_none a.bytes.now a.n a.count a.start

pub returns-in-Err : goal.returns-in-Err
returns-in-Err c =
    marked_of_lem c.loop-read.invariant _
    (mark_walk_refused c.loop-read.invariant c.loop-read-test.true _ (sym (answer_refused _ _ (sym c.in-Err.is ∙ c.read_set-set.ensures))))

-- the set is a mask of 16 bits
small : (c : In-Ok) → c.in-Ok.field-0.value < 65536
small c =
    mark_walk_below c.loop-read.invariant c.requires _ _ (sym (answer_number _ _ _ (sym c.in-Ok.is ∙ c.read_set-set.ensures)))

pub bounds-words-at : goal.bounds-words-at
bounds-words-at c =
    omega (arith, mark_walk_below c.loop-read.invariant c.requires _ _ (sym (answer_number _ _ _ (sym c.in-Ok.is ∙ c.read_set-set.ensures))))

pub bounds-words-at-in-Ok : goal.bounds-words-at-in-Ok
bounds-words-at-in-Ok c = omega (arith, small (goal.at.bounds-words-at-in-Ok c).In-Ok)

pub loop-read-preserved : goal.loop-read-preserved
loop-read-preserved c =
    mark_walk_more c.loop-read.invariant c.loop-read-test.true _ _ (small (goal.at.loop-read-preserved c).In-Ok) (sym (answer_number _ _ _ (sym c.in-Ok.is ∙ c.read_set-set.ensures)))

pub returns : goal.returns
returns c =
    let all : c.args.count ≡ c.loop-read.read = omega (arith, c.loop-read-test.false) in
    ap (λ (k : ℕ). record { words = c.loop-read.words; read = k; next = c.loop-read.next; verdict = Ok tt }) all
    ∙ marked_of_lem c.loop-read.invariant (Ok tt) (mark_walk_end c.loop-read.invariant c.loop-read-test.false)
