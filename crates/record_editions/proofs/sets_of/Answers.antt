-- `record_editions::sets_of` meets its contract: the sets' bytes lie inside the record.
-- Assumes nothing.
use mathlib.Core.Path.{sym, ap, ◌∙◌, subst}
use Prim.Native.Nat.{ℕ, ◌+◌, ◌≤◌}
use native.Mathlib.Nat.{add_comm}
use native.Mathlib.Omega.{arith}
use lib.ListN.{length}
use Rattle.record.specs.declared.Contents.{Contents}
use Rattle.record.specs.Contents.{stretch_of}
use Rattle.record_editions.proofs.Whole.{stretch_inside}
use Rattle.record_editions.proofs.sets_of.Goals as goal
use Rattle.record_editions.proofs.sets_of.Goals.{After-whole_record-contents}

inside : (c : After-whole_record-contents) → (c.whole_record-contents.result.begin ≤ c.whole_record-contents.result.end) × (c.whole_record-contents.result.end ≤ length c.args.bytes.now)
inside c =
    let bytes = c.args.bytes.now in
    subst (λ (k : Contents). (k.begin ≤ k.end) × (k.end ≤ length bytes)) (sym c.whole_record-contents.ensures) (stretch_inside bytes (λ i. omega (arith, c.shared_slice_known-1.given i)))

pub slice_bounds-result-count : goal.slice_bounds-result-count
slice_bounds-result-count c = (inside (goal.at.slice_bounds-result-count c).After-whole_record-contents).0

pub slice_bounds-result-start : goal.slice_bounds-result-start
slice_bounds-result-start c = (inside (goal.at.slice_bounds-result-start c).After-whole_record-contents).0

pub slice_bounds-result-end : goal.slice_bounds-result-end
slice_bounds-result-end c = (inside (goal.at.slice_bounds-result-end c).After-whole_record-contents).1

pub returns : goal.returns
returns c =
    let whole = c.whole_record-contents.ensures in
    let bytes = c.args.bytes in
    let place = ap {B = ℕ × ℕ} (λ (offset : ℕ). (bytes.ref_ptr.0, offset)) (add_comm c.whole_record-contents.result.begin bytes.ref_ptr.1) in
    record {
      result_value = ap (λ (k : Contents). stretch_of k bytes.now) whole;
      ref_ptr_value = place ∙ ap {B = ℕ × ℕ} (λ (k : Contents). (bytes.ref_ptr.0, bytes.ref_ptr.1 + k.begin)) whole;
    }
