-- `drawing_writing::drawing_of_record` meets its contract: a refused record gives its refusal, and the text of an accepted one is that of its design.
-- Assumes nothing.
use mathlib.Core.Path.{sym, ap, ap₂, ◌∙◌}
use mathlib.Core.List.{List}
use Prim.Native.Nat.{ℕ}
use native.Mathlib.Omega.{arith}
use lib.ListN.{length}
use Rattle.std.specs.Prelude.{Ok}
use Rattle.answer.specs.Outcome.{delivered}
use Rattle.codec.specs.Reads.{Read}
use Rattle.record_parts.specs.declared.PartList.{PartList}
use Rattle.record.specs.Records.{Design}
use Rattle.record_editions.proofs.RoundTrip.{stored_design, refused_design, rules_design}
use Rattle.record_opening.proofs.Designs.{RecordOpened, opened_record, opened_why, sets_front, sets_counted, sets_few, sets_room}
use Rattle.drawing_text.specs.Writing.{drawing_of, drawing_read, drawing_of_record, text_of}
use Rattle.std.proofs.lemmas.Result.{err_from_is_err_and}
use Rattle.drawing_writing.proofs.drawing_of_record.Goals as goal

pub returns-in_err-opened : goal.returns-in_err-opened
unfolding drawing_of_record
returns-in_err-opened c =
    let a = c.args in
    let p = err_from_is_err_and c.from_residual.result c.from_residual.ensures.1 in
    rw (p.1, p.2) (ap (λ (r : Read Design). drawing_read r a.buffer.now)
    (sym (refused_design a.bytes.now _ (opened_why a.bytes.now c.open_record-opened.result c.open_record-opened.ensures _ c.in_err-opened.was))))

pub slice_bounds-sets-end : goal.slice_bounds-sets-end
slice_bounds-sets-end c =
    -- what was opened, where the record is accepted
    let read : RecordOpened c.args.bytes.now c.open_record-opened.result =
    opened_record c.args.bytes.now c.open_record-opened.result c.open_record-opened.ensures (λ i. omega (arith, c.type_inv.bytes i)) c.in_ok-opened.was in
    let r = read in omega (arith, sets_few r, sets_room r)

pub slice_bounds-write_text-end : goal.slice_bounds-write_text-end
slice_bounds-write_text-end c =
    -- what was opened, where the record is accepted
    let read : RecordOpened c.args.bytes.now c.open_record-opened.result =
    opened_record c.args.bytes.now c.open_record-opened.result c.open_record-opened.ensures (λ i. omega (arith, c.type_inv.bytes i)) c.in_ok-opened.was in
    let r = read in sets_counted r ∙ ap length (sym (sets_front r))

pub write_text-requires : goal.write_text-requires
write_text-requires c =
    -- what was opened, where the record is accepted
    let read : RecordOpened c.args.bytes.now c.open_record-opened.result =
    opened_record c.args.bytes.now c.open_record-opened.result c.open_record-opened.ensures (λ i. omega (arith, c.type_inv.bytes i)) c.in_ok-opened.was in
    let r = read in
    let rules = rules_design r.s r.rules in record { n_le_most_parts = omega (arith, ap (λ (l : PartList). l.count) r.list, rules.parts.rules.few); sets_len_bound = omega (arith, ap length (sets_front r), rules.sets.most) }

pub returns : goal.returns
unfolding drawing_of_record drawing_of
returns c =
    -- what was opened, where the record is accepted
    let read : RecordOpened c.args.bytes.now c.open_record-opened.result =
    opened_record c.args.bytes.now c.open_record-opened.result c.open_record-opened.ensures (λ i. omega (arith, c.type_inv.bytes i)) c.in_ok-opened.was in
    let a = c.args in
    let r = read in
    c.write_text.ensures
    ∙ ap₂ (λ (l : PartList) (s : List ℕ). delivered (Ok tt) (text_of l.count s) a.buffer.now) r.list (sets_front r)
    ∙ ap (λ (x : Read Design). drawing_read x a.buffer.now) (sym (stored_design a.bytes.now r.s r.next r.read))
