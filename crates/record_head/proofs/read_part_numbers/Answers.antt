-- `record_head::read_part_numbers` meets its contract. The loop's invariant: it walks along the part numbers (`NumbersWalk`), those so far in the
-- cells.
-- Assumes nothing.
use mathlib.Core.Path.{◌≡◌, sym, ap, ap₂, ◌∙◌}
use mathlib.Core.List.{List}
use Prim.Native.Nat.{ℕ}
use native.Mathlib.Nat.{le_antisymm}
use lib.ListN.{length}
use Rattle.std.proofs.Common.{Ok, Err}
use Rattle.std.proofs.lemmas.Result.{err_from_is_err_and}
use Rattle.record_parts.specs.PartLists.{list_of}
use Rattle.codec.specs.Reads.{Read, found, then, reading_of, answered}
use Rattle.codec.proofs.Found.{answer_number, answer_refused}
use Rattle.record_head.proofs.PartWalk.{numbers_walk_more, numbers_walk_refused, numbers_walk_end}
use Rattle.record_head.proofs.read_part_numbers.Goals as goal

pub returns-in_err-number : goal.returns-in_err-number
returns-in_err-number c =
    let a = c.args in
    let p = err_from_is_err_and c.from_residual.result c.from_residual.ensures.1 in
    rw (p.1, p.2)
    (sym (ap (λ (r : Read (List ℕ)). reading_of (then r (λ numbers end. found (list_of a.mark numbers) end)))
    (numbers_walk_refused c.loop-index.invariant c.loop-index-test.true _ (sym (answer_refused _ _ (sym c.in_err-number.was ∙ c.read_part_number.ensures))))))

pub loop-index-preserved : goal.loop-index-preserved
loop-index-preserved c =
    numbers_walk_more c.loop-index.invariant c.loop-index-test.true c.requires _ _
    (sym (answer_number _ _ _ (sym c.in_ok-number.was ∙ c.read_part_number.ensures)))

pub returns : goal.returns
returns c =
    let walk = c.loop-index.invariant in
    let a = c.args in
    let counted : a.count ≡ length walk.earlier = sym (walk.walk.counted ∙ le_antisymm walk.walk.within c.loop-index-test.false) in
    ap₂ (λ (count : ℕ) (cells : List ℕ). answered (record { count = count; mark = a.mark; numbers = cells }) c.loop-index.next)
    counted walk.stands
    ∙ sym (ap (λ (r : Read (List ℕ)). reading_of (then r (λ numbers end. found (list_of a.mark numbers) end))) (numbers_walk_end walk c.loop-index-test.false))
