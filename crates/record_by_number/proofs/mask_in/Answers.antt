-- `record_by_number::mask_in` meets its contract: the numbers of the contents are those of the record's design.
-- Assumes nothing.
use mathlib.Core.Path.{◌∙◌}
use native.Mathlib.Omega.{arith}
use Rattle.record_naming.specs.Naming.{found_mask}
use Rattle.record_by_number.specs.Parts.{parts_mask}
use Rattle.record_by_number.proofs.Looking.{DesignSeen, looked_refused, looked_design, numbers_room, numbers_counted, looked_up_lem}
use Rattle.std.proofs.lemmas.Result.{err_from_is_err_and}
use Rattle.record_by_number.proofs.mask_in.Goals as goal

pub returns-in_err-contents : goal.returns-in_err-contents
unfolding parts_mask
returns-in_err-contents c =
    let a = c.args in
    let p = err_from_is_err_and c.from_residual.result c.from_residual.ensures.1 in
    rw (p.1, p.2) (looked_refused a.bytes.now (λ i. omega (arith, c.shared_slice_known-1.given i)) c.whole_record-contents.result c.whole_record-contents.ensures _ c.in_err-contents.was
    (λ numbers. found_mask numbers a.wanted.now))

pub slice_bounds-numbers-end : goal.slice_bounds-numbers-end
slice_bounds-numbers-end c =
    -- the design of an accepted record
    let seen : DesignSeen c.args.bytes.now c.whole_record-contents.result =
    looked_design c.args.bytes.now (λ i. omega (arith, c.shared_slice_known-1.given i)) c.whole_record-contents.result c.whole_record-contents.ensures c.in_ok-contents.was in
    numbers_room seen

pub slice_bounds-mask_of-end : goal.slice_bounds-mask_of-end
slice_bounds-mask_of-end c =
    -- the design of an accepted record
    let seen : DesignSeen c.args.bytes.now c.whole_record-contents.result =
    looked_design c.args.bytes.now (λ i. omega (arith, c.shared_slice_known-1.given i)) c.whole_record-contents.result c.whole_record-contents.ensures c.in_ok-contents.was in
    numbers_counted seen

pub returns : goal.returns
unfolding parts_mask
returns c =
    -- the design of an accepted record
    let seen : DesignSeen c.args.bytes.now c.whole_record-contents.result =
    looked_design c.args.bytes.now (λ i. omega (arith, c.shared_slice_known-1.given i)) c.whole_record-contents.result c.whole_record-contents.ensures c.in_ok-contents.was in
    let a = c.args in
    c.mask_of.ensures ∙ looked_up_lem seen (λ numbers. found_mask numbers a.wanted.now)
