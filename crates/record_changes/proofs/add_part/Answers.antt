-- `record_changes::add_part` meets its contract: the part list answers for the change, and the sets stay as they were read.
-- Assumes nothing.
use mathlib.Core.Path.{◌≡◌, refl, sym, ap, ◌∙◌}
use native.Mathlib.Omega.{arith}
use lib.ListN.{length}
use Rattle.std.specs.Prelude.{Ok}
use Rattle.record_parts.specs.declared.Changed.{Changed}
use Rattle.record_parts.specs.Changes.{part_added}
use Rattle.record_lines.specs.Changes.{add_part, change_refusal}
use Rattle.record_opening.proofs.Designs.{opened_record, sets_front, sets_counted, sets_few, sets_room}
use Rattle.record_lines.proofs.Refusals.{unconverted_refusal}
use Rattle.record_changes.proofs.Answers.{d, design_kept, retired_few, retired_inside, kept_retired, opened_refused, change_refused, change_rules, change_made, add_refused, add_made}
use Rattle.std.proofs.lemmas.Result.{err_from_is_err_and}
use Rattle.record_changes.proofs.add_part.Goals as goal

pub slice_bounds-sets-end : goal.slice_bounds-sets-end
slice_bounds-sets-end c =
    -- what was opened, where the record is accepted
    let read = opened_record c.args.bytes.now _ c.open_record-opened.ensures (λ i. omega (arith, c.shared_slice_known-1.given i)) c.in_ok-opened.was in
    let r = read in omega (arith, sets_few r, sets_room r)

pub slice_bounds-write_stored-end : goal.slice_bounds-write_stored-end
slice_bounds-write_stored-end c =
    -- what was opened, where the record is accepted
    let read = opened_record c.args.bytes.now _ c.open_record-opened.ensures (λ i. omega (arith, c.shared_slice_known-1.given i)) c.in_ok-opened.was in
    let r = read in sets_counted r ∙ ap length (sym (sets_front r))

pub write_stored-requires : goal.write_stored-requires
write_stored-requires c =
    -- what was opened, where the record is accepted
    let read = opened_record c.args.bytes.now _ c.open_record-opened.ensures (λ i. omega (arith, c.shared_slice_known-1.given i)) c.in_ok-opened.was in
    -- the part list's answer is that of the design's
    let list_changed : c.add-changed.result ≡ part_added (d read).parts =
    c.add-changed.ensures ∙ ap part_added read.list in
    let made : change_refusal add_part (d read) ≡ Ok tt =
    let r = read in
    add_made (d r) (design_kept r) _ (sym (ap (λ (x : Changed). x.answer) list_changed) ∙ c.in_ok-changed.was) in
    let r = read in
    record {
      design_rules = change_rules r add_part made _ _ (ap (λ (x : Changed). x.list) list_changed) (sets_front r);
      count_le_most_retired = retired_few r;
      count_in_bounds = retired_inside r;
    }

pub returns-in_err-opened : goal.returns-in_err-opened
returns-in_err-opened c =
    let a = c.args in
    let p = err_from_is_err_and c.from_residual.result c.from_residual.ensures.1 in
    rw (p.1, p.2) (opened_refused a.bytes.now c.open_record-opened.result c.open_record-opened.ensures _ c.in_err-opened.was add_part a.buffer.now)

pub returns-in_err-changed : goal.returns-in_err-changed
returns-in_err-changed c =
    -- what was opened, where the record is accepted
    let read = opened_record c.args.bytes.now _ c.open_record-opened.ensures (λ i. omega (arith, c.shared_slice_known-1.given i)) c.in_ok-opened.was in
    -- the part list's answer is that of the design's
    let list_changed : c.add-changed.result ≡ part_added (d read).parts =
    c.add-changed.ensures ∙ ap part_added read.list in
    let r = read in
    let p = err_from_is_err_and c.from_residual-in_err-changed.result c.from_residual-in_err-changed.ensures.1 in
    rw (p.1, p.2) (change_refused r add_part _ (add_refused (d r) (design_kept r) _ (sym (ap (λ (x : Changed). x.answer) list_changed) ∙ c.in_err-changed.was))
    c.args.buffer.now)

pub returns : goal.returns
returns c =
    -- what was opened, where the record is accepted
    let read = opened_record c.args.bytes.now _ c.open_record-opened.ensures (λ i. omega (arith, c.shared_slice_known-1.given i)) c.in_ok-opened.was in
    -- the part list's answer is that of the design's
    let list_changed : c.add-changed.result ≡ part_added (d read).parts =
    c.add-changed.ensures ∙ ap part_added read.list in
    let made : change_refusal add_part (d read) ≡ Ok tt =
    let r = read in
    add_made (d r) (design_kept r) _ (sym (ap (λ (x : Changed). x.answer) list_changed) ∙ c.in_ok-changed.was) in
    let r = read in
    c.write_stored.ensures
    ∙ change_made r add_part (unconverted_refusal add_part r.s refl ∙ made) _ _ _ _ c.args.buffer.now r.edition (ap (λ (x : Changed). x.list) list_changed) (sets_front r) (kept_retired r)
