-- `record_tail::read_retired_numbers` meets its contract. The loop's invariant: it walks along the retired numbers (`RetiredWalk`), those so far in
-- the cells.
-- Assumes nothing.
use mathlib.Core.Path.{◌≡◌, sym, ap, ap₂, ◌∙◌}
use mathlib.Core.List.{List}
use Prim.Native.Nat.{ℕ}
use native.Mathlib.Nat.{le_antisymm}
use lib.ListN.{length}
use Rattle.std.proofs.Common.{Ok, Err}
use Rattle.std.proofs.lemmas.Result.{err_from_is_err_and}
use Rattle.codec.specs.Reads.{answered}
use Rattle.codec.proofs.Found.{answer_number, answer_refused}
use Rattle.record_tail.specs.Tails.{tail_of}
use Rattle.record_tail.proofs.Walk.{retired_walk_more, retired_walk_refused, retired_walk_end}
use Rattle.record_tail.proofs.read_retired_numbers.Goals as goal

pub returns-in_err-number : goal.returns-in_err-number
returns-in_err-number c =
    let p = err_from_is_err_and c.from_residual.result c.from_residual.ensures.1 in
    rw (p.1, p.2) (sym (ap tail_of
    (retired_walk_refused c.loop-index.invariant c.loop-index-test.true _ (sym (answer_refused _ _ (sym c.in_err-number.was ∙ c.read_retired_number.ensures))))))

pub loop-index-preserved : goal.loop-index-preserved
loop-index-preserved c =
    retired_walk_more c.loop-index.invariant c.loop-index-test.true c.requires _ _
    (sym (answer_number _ _ _ (sym c.in_ok-number.was ∙ c.read_retired_number.ensures)))

pub returns : goal.returns
returns c =
    let walk = c.loop-index.invariant in
    let a = c.args in
    let counted : a.count ≡ length walk.earlier = sym (walk.walk.counted ∙ le_antisymm walk.walk.within c.loop-index-test.false) in
    ap₂ (λ (count : ℕ) (cells : List ℕ). answered (record { count = count; numbers = cells }) c.loop-index.next)
    counted walk.stands
    ∙ sym (ap tail_of (retired_walk_end walk c.loop-index-test.false))
