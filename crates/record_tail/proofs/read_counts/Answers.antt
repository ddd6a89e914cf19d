-- `record_tail::read_counts` meets its contract. The loop's invariant: it walks along the path counts (`FieldsWalk`).
-- Assumes nothing.
use mathlib.Core.Path.{◌≡◌, sym, ap, ◌∙◌}
use mathlib.Core.List.{List}
use Prim.Native.Nat.{ℕ}
use lib.ListN.{length, get_or}
use Rattle.std.proofs.Common.{Ok, Err}
use Rattle.std.proofs.lemmas.Result.{err_from_is_err_and}
use Rattle.codec.specs.declared.Field.TheVariants.{Count}
use Rattle.codec.specs.FieldReads.{field_at}
use Rattle.codec.proofs.FieldReads.{fields_walk_more, fields_walk_refused, fields_walk_end}
use Rattle.codec.proofs.Found.{answer_number, answer_refused}
use Rattle.record_tail.specs.Tails.{count_refusal, count_judge}
use Rattle.record_tail.specs.Inside.{position_after}
use Rattle.record_tail.proofs.read_counts.Goals as goal

-- the count at the index, held against the one that has to stand there
right_at : (bytes counts earlier : List ℕ) (next index : ℕ) → length earlier ≡ index
    → field_at bytes next Count (count_refusal (get_or counts index 0) next) ≡ field_at bytes next Count (count_judge counts earlier next)
right_at bytes counts earlier next index counted = ap (λ (k : ℕ). field_at bytes next Count (count_refusal (get_or counts k 0) next)) (sym counted)

pub returns-in_err-next : goal.returns-in_err-next
returns-in_err-next c =
    let a = c.args in
    let walk = c.loop-right.invariant.1 in
    let p = err_from_is_err_and c.from_residual.result c.from_residual.ensures.1 in
    rw (p.1, p.2) (sym (ap position_after (fields_walk_refused walk c.loop-right-test.true _
    (sym (answer_refused _ _ (sym c.in_err-next.was ∙ c.read_count.ensures))
    ∙ right_at a.bytes.now a.counts.now c.loop-right.invariant.0 c.loop-right.next c.loop-right.right-index walk.counted))))

pub loop-right-preserved : goal.loop-right-preserved
loop-right-preserved c =
    let a = c.args in
    let walk = c.loop-right.invariant.1 in (
      _,
      fields_walk_more walk c.loop-right-test.true _ _
          (sym (answer_number _ _ _ (sym c.in_ok-next.was ∙ c.read_count.ensures))
          ∙ right_at a.bytes.now a.counts.now c.loop-right.invariant.0 c.loop-right.next c.loop-right.right-index walk.counted),
    )

pub returns : goal.returns
returns c = sym (ap position_after (fields_walk_end c.loop-right.invariant.1 c.loop-right-test.false))
