-- `record_changes::take_out` meets its contract: 17 for a position that is not there, and else what was opened is written without the group of the
-- one part.
-- Assumes nothing.
use mathlib.Core.Path.{◌≡◌, refl, sym, ap, ◌∙◌}
use Prim.Native.Nat.{ℕ, ◌-◌, ◌^◌, ◌≤◌, ◌<◌}
use native.Mathlib.Omega.{arith}
use native.Mathlib.Nat.{pos_of_ne-zero}
use borrow.Author.Tests.{eq-eqb, ne_eqb, lt-ltb}
use lib.ListN.{length}
use Rattle.std.specs.Prelude.{Err}
use Rattle.answer.specs.declared.Reason.TheVariants.{UnknownPosition}
use Rattle.answer.specs.Outcome.{at, outcome, Numbered}
use Rattle.numbers.proofs.Counts.{up_to_16_given}
use Rattle.record_parts.specs.declared.PartList.{PartList}
use Rattle.record_parts.specs.Changes.{single}
use Rattle.record_lines.specs.Changes.{take_out, take_out_group}
use Rattle.record_lines.specs.Records.{changed_record}
use Rattle.record_lines.proofs.Refusals.{position_is_group}
use Rattle.record_opening.proofs.Designs.{opened_record, sets_front, sets_counted, sets_few, sets_room}
use Rattle.record_changes.proofs.Answers.{d, design_kept, retired_few, retired_inside, opened_refused, change_refused, opened_rules, opened_without}
use Rattle.std.proofs.lemmas.Result.{err_from_is_err_and}
use Rattle.record_changes.proofs.take_out.Goals as goal

pub returns-in_err-opened : goal.returns-in_err-opened
returns-in_err-opened c =
    let a = c.args in
    let p = err_from_is_err_and c.from_residual.result c.from_residual.ensures.1 in
    rw (p.1, p.2) (opened_refused a.bytes.now c.open_record-opened.result c.open_record-opened.ensures _ c.in_err-opened.was (take_out a.position) a.buffer.now)

pub returns-then-position-eq0 : goal.returns-then-position-eq0
returns-then-position-eq0 c =
    -- what was opened, where the record is accepted
    let read = opened_record c.args.bytes.now _ c.open_record-opened.ensures (λ i. omega (arith, c.shared_slice_known-1.given i)) c.in_ok-opened.was in
    let a = c.args in
    ap (λ (x : Numbered). outcome x a.buffer.now) (ap Err c.at.ensures)
    ∙ change_refused read (take_out a.position) (at UnknownPosition 0) (simp (eq-eqb a.position 0 c.if-position-eq0.true)) a.buffer.now

pub returns-then-n-position : goal.returns-then-n-position
returns-then-n-position c =
    -- what was opened, where the record is accepted
    let read = opened_record c.args.bytes.now _ c.open_record-opened.ensures (λ i. omega (arith, c.shared_slice_known-1.given i)) c.in_ok-opened.was in
    let counted : c.open_record-opened.result.list.count ≡ (d read).parts.count =
    ap (λ (l : PartList). l.count) read.list in
    let a = c.args in
    let n = (d read).parts.count in
    let beyond : n < a.position = omega (arith, c.if-n-position.true, counted) in
    ap (λ (x : Numbered). outcome x a.buffer.now) (ap Err c.at-then-n-position.ensures)
    ∙ change_refused read (take_out a.position) (at UnknownPosition 0)
    (simp (ne_eqb a.position 0 c.if-position-eq0.false, lt-ltb n a.position beyond)) a.buffer.now

pub slice_bounds-sets-end : goal.slice_bounds-sets-end
slice_bounds-sets-end c =
    -- what was opened, where the record is accepted
    let read = opened_record c.args.bytes.now _ c.open_record-opened.ensures (λ i. omega (arith, c.shared_slice_known-1.given i)) c.in_ok-opened.was in
    let r = read in omega (arith, sets_few r, sets_room r)

pub slice_bounds-write_without-end : goal.slice_bounds-write_without-end
slice_bounds-write_without-end c =
    -- what was opened, where the record is accepted
    let read = opened_record c.args.bytes.now _ c.open_record-opened.ensures (λ i. omega (arith, c.shared_slice_known-1.given i)) c.in_ok-opened.was in
    let r = read in sets_counted r ∙ ap length (sym (sets_front r))

pub write_without-requires : goal.write_without-requires
write_without-requires c =
    -- what was opened, where the record is accepted
    let read = opened_record c.args.bytes.now _ c.open_record-opened.ensures (λ i. omega (arith, c.shared_slice_known-1.given i)) c.in_ok-opened.was in
    let r = read in
    record {
      design_rules = opened_rules r _ _ r.list (sets_front r);
      count_le_most_retired = retired_few r;
      count_in_bounds = retired_inside r;
    }

pub returns : goal.returns
returns c =
    -- what was opened, where the record is accepted
    let read = opened_record c.args.bytes.now _ c.open_record-opened.ensures (λ i. omega (arith, c.shared_slice_known-1.given i)) c.in_ok-opened.was in
    let counted : c.open_record-opened.result.list.count ≡ (d read).parts.count =
    ap (λ (l : PartList). l.count) read.list in
    let position : ℕ =
    c.args.position in
    let from : 1 ≤ position =
    pos_of_ne-zero c.if-position-eq0.false in
    let to : position ≤ (d (read)).parts.count =
    omega (arith, c.if-n-position.false, counted) in
    let group_given : c.power_of_two-single.result ≡ single position =
    c.power_of_two-single.ensures ∙ up_to_16_given (position - 1) (2 ^ (position - 1)) (omega (arith, to, (design_kept (read)).parts.rules.few)) in
    let r = read in
    let a = c.args in
    c.write_without.ensures ∙ opened_without r _ _ r.list (sets_front r) _ _ r.edition refl _ a.buffer.now
    ∙ ap (λ (g : ℕ). changed_record (take_out_group g) a.bytes.now a.buffer.now) group_given
    ∙ sym (position_is_group a.position a.bytes.now a.buffer.now r.s _ r.read from to)
