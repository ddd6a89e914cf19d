-- `record_changes::to_edition_2` meets its contract: the design is written in edition 2, with the retired numbers that it has.
-- Assumes nothing.
use mathlib.Core.Path.{refl, sym, ap, ◌∙◌}
use native.Mathlib.Omega.{arith}
use lib.ListN.{length}
use Rattle.record_opening.proofs.Designs.{opened_record, sets_front, sets_counted, sets_few, sets_room}
use Rattle.record_editions.specs.declared.Edition.TheVariants.{Second}
use Rattle.record_lines.specs.Changes.{convert}
use Rattle.record_changes.proofs.Answers.{opened_refused, change_made, opened_rules, retired_few, retired_inside, kept_retired}
use Rattle.std.proofs.lemmas.Result.{err_from_is_err_and}
use Rattle.record_changes.proofs.to_edition_2.Goals as goal

pub returns-in_err-opened : goal.returns-in_err-opened
returns-in_err-opened c =
    let a = c.args in
    let p = err_from_is_err_and c.from_residual.result c.from_residual.ensures.1 in
    rw (p.1, p.2) (opened_refused a.bytes.now c.open_record-opened.result c.open_record-opened.ensures _ c.in_err-opened.was (convert Second) a.buffer.now)

pub slice_bounds-sets-end : goal.slice_bounds-sets-end
slice_bounds-sets-end c =
    -- what was opened, where the record is accepted
    let read = opened_record c.args.bytes.now _ c.open_record-opened.ensures (λ i. omega (arith, c.shared_slice_known-1.given i)) c.in_ok-opened.was in
    let r = read in omega (arith, sets_few r, sets_room r)

pub slice_bounds-write_stored-end : goal.slice_bounds-write_stored-end
slice_bounds-write_stored-end c =
    -- what was opened, where the record is accepted
    let read = opened_record c.args.bytes.now _ c.open_record-opened.ensures (λ i. omega (arith, c.shared_slice_known-1.given i)) c.in_ok-opened.was in
    let r = read in sets_counted r ∙ ap length (sym (sets_front r))

pub write_stored-requires : goal.write_stored-requires
write_stored-requires c =
    -- what was opened, where the record is accepted
    let read = opened_record c.args.bytes.now _ c.open_record-opened.ensures (λ i. omega (arith, c.shared_slice_known-1.given i)) c.in_ok-opened.was in
    let r = read in
    record {
      design_rules = opened_rules r _ _ r.list (sets_front r);
      count_le_most_retired = retired_few r;
      count_in_bounds = retired_inside r;
    }

pub returns : goal.returns
returns c =
    -- what was opened, where the record is accepted
    let read = opened_record c.args.bytes.now _ c.open_record-opened.ensures (λ i. omega (arith, c.shared_slice_known-1.given i)) c.in_ok-opened.was in
    let r = read in
    let a = c.args in
    c.write_stored.ensures ∙ change_made r (convert Second) refl _ _ _ _ a.buffer.now refl r.list (sets_front r) (kept_retired r)
