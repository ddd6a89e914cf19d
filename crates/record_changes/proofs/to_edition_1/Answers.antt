-- `record_changes::to_edition_1` meets its contract: 32 for retired numbers, and else the design is written in edition 1.
-- Assumes nothing.
use mathlib.Core.Path.{◌≡◌, refl, sym, ap, ◌∙◌}
use mathlib.Core.List.{List}
use Prim.Native.Nat.{ℕ}
use native.Mathlib.Omega.{arith}
use lib.ListN.{length}
use Rattle.std.specs.Prelude.{Err}
use Rattle.answer.specs.Outcome.{outcome, Numbered}
use Rattle.record_retired.specs.declared.Retired.{Retired}
use Rattle.record_editions.specs.Editions.{retired_in}
use Rattle.record_opening.specs.declared.Opened.{Opened}
use Rattle.record_opening.proofs.Designs.{RecordOpened, opened_record, sets_front, sets_counted, sets_few, sets_room}
use Rattle.record_editions.specs.declared.Edition.TheVariants.{First}
use Rattle.record_lines.specs.Changes.{convert}
use Rattle.record_changes.proofs.Answers.{opened_refused, stored_refused, change_made, opened_rules, retired_few, retired_inside, kept_retired, back_held, back_passed}
use Rattle.std.proofs.lemmas.Result.{err_from_is_err_and}
use Rattle.record_changes.proofs.to_edition_1.Goals as goal

-- as many numbers are retired as the cells count
counted : {bytes : List ℕ} {o : Opened} (r : RecordOpened bytes o) → o.retired.count ≡ length (retired_in r.s)
counted r = ap (λ (x : Retired). x.count) r.retired

pub returns-in_err-opened : goal.returns-in_err-opened
returns-in_err-opened c =
    let a = c.args in
    let p = err_from_is_err_and c.from_residual.result c.from_residual.ensures.1 in
    rw (p.1, p.2) (opened_refused a.bytes.now c.open_record-opened.result c.open_record-opened.ensures _ c.in_err-opened.was (convert First) a.buffer.now)

pub returns-then-retired-ne0 : goal.returns-then-retired-ne0
returns-then-retired-ne0 c =
    -- what was opened, where the record is accepted
    let read = opened_record c.args.bytes.now _ c.open_record-opened.ensures (λ i. omega (arith, c.shared_slice_known-1.given i)) c.in_ok-opened.was in
    let r = read in
    let a = c.args in
    ap (λ (x : Numbered). outcome x a.buffer.now) (ap Err c.at.ensures)
    ∙ stored_refused r (convert First) _ (back_held (retired_in r.s) (λ none. c.if-retired-ne0.true (counted r ∙ none))) a.buffer.now

pub slice_bounds-sets-end : goal.slice_bounds-sets-end
slice_bounds-sets-end c =
    -- what was opened, where the record is accepted
    let read = opened_record c.args.bytes.now _ c.open_record-opened.ensures (λ i. omega (arith, c.shared_slice_known-1.given i)) c.in_ok-opened.was in
    let r = read in omega (arith, sets_few r, sets_room r)

pub slice_bounds-write_stored-end : goal.slice_bounds-write_stored-end
slice_bounds-write_stored-end c =
    -- what was opened, where the record is accepted
    let read = opened_record c.args.bytes.now _ c.open_record-opened.ensures (λ i. omega (arith, c.shared_slice_known-1.given i)) c.in_ok-opened.was in
    let r = read in sets_counted r ∙ ap length (sym (sets_front r))

pub write_stored-requires : goal.write_stored-requires
write_stored-requires c =
    -- what was opened, where the record is accepted
    let read = opened_record c.args.bytes.now _ c.open_record-opened.ensures (λ i. omega (arith, c.shared_slice_known-1.given i)) c.in_ok-opened.was in
    let r = read in
    record {
      design_rules = opened_rules r _ _ r.list (sets_front r);
      count_le_most_retired = retired_few r;
      count_in_bounds = retired_inside r;
    }

pub returns : goal.returns
returns c =
    -- what was opened, where the record is accepted
    let read = opened_record c.args.bytes.now _ c.open_record-opened.ensures (λ i. omega (arith, c.shared_slice_known-1.given i)) c.in_ok-opened.was in
    let r = read in
    let a = c.args in
    c.write_stored.ensures
    ∙ change_made r (convert First) (back_passed (retired_in r.s) (sym (counted r) ∙ c.if-retired-ne0.false)) _ _ _ _ a.buffer.now refl r.list (sets_front r) (kept_retired r)
