-- `record_changes::take_out_group` meets its contract: what was opened is written without the group.
-- Assumes nothing.
use mathlib.Core.Path.{refl, sym, ap, ◌∙◌}
use native.Mathlib.Omega.{arith}
use lib.ListN.{length}
use Rattle.record_lines.specs.Changes.{take_out_group}
use Rattle.record_opening.proofs.Designs.{opened_record, sets_front, sets_counted, sets_few, sets_room}
use Rattle.record_changes.proofs.Answers.{retired_few, retired_inside, opened_refused, opened_rules, opened_without}
use Rattle.std.proofs.lemmas.Result.{err_from_is_err_and}
use Rattle.record_changes.proofs.take_out_group.Goals as goal

pub returns-in_err-opened : goal.returns-in_err-opened
returns-in_err-opened c =
    let a = c.args in
    let p = err_from_is_err_and c.from_residual.result c.from_residual.ensures.1 in
    rw (p.1, p.2) (opened_refused a.bytes.now c.open_record-opened.result c.open_record-opened.ensures _ c.in_err-opened.was (take_out_group a.group) a.buffer.now)

pub slice_bounds-sets-end : goal.slice_bounds-sets-end
slice_bounds-sets-end c =
    -- what was opened, where the record is accepted
    let read = opened_record c.args.bytes.now _ c.open_record-opened.ensures (λ i. omega (arith, c.shared_slice_known-1.given i)) c.in_ok-opened.was in
    let r = read in omega (arith, sets_few r, sets_room r)

pub slice_bounds-write_without-end : goal.slice_bounds-write_without-end
slice_bounds-write_without-end c =
    -- what was opened, where the record is accepted
    let read = opened_record c.args.bytes.now _ c.open_record-opened.ensures (λ i. omega (arith, c.shared_slice_known-1.given i)) c.in_ok-opened.was in
    let r = read in sets_counted r ∙ ap length (sym (sets_front r))

pub write_without-requires : goal.write_without-requires
write_without-requires c =
    -- what was opened, where the record is accepted
    let read = opened_record c.args.bytes.now _ c.open_record-opened.ensures (λ i. omega (arith, c.shared_slice_known-1.given i)) c.in_ok-opened.was in
    let r = read in
    record {
      design_rules = opened_rules r _ _ r.list (sets_front r);
      count_le_most_retired = retired_few r;
      count_in_bounds = retired_inside r;
    }

pub returns : goal.returns
returns c =
    -- what was opened, where the record is accepted
    let read = opened_record c.args.bytes.now _ c.open_record-opened.ensures (λ i. omega (arith, c.shared_slice_known-1.given i)) c.in_ok-opened.was in
    let r = read in
    let a = c.args in
    c.write_without.ensures ∙ opened_without r _ _ r.list (sets_front r) _ _ r.edition refl a.group a.buffer.now
