-- `record_changes::first_record` meets its contract: a first record is the record of the numbers 1 to n with the mark n.
-- Assumes nothing.
use mathlib.Core.Path.{sym, ap, ◌∙◌}
use mathlib.Core.List.{List}
use Prim.Native.Nat.{ℕ}
use native.Mathlib.Omega.{arith}
use lib.Seq.{length-take-le}
use Rattle.std.specs.Prelude.{Err}
use Rattle.answer.specs.Outcome.{outcome, Numbered}
use Rattle.answer.proofs.Checks.{parts_over}
use Rattle.answer.proofs.Deliveries.{refused_kept}
use Rattle.structure.specs.Checks.{list_refusal}
use Rattle.record.specs.RecordBytes.{record_bytes}
use Rattle.record_lines.specs.Changes.{first_design}
use Rattle.record_lines.specs.Records.{entered_record, first_record}
use Rattle.record_lines.proofs.Written.{first_entered}
use Rattle.record_changes.proofs.FirstNumbers.{sixteen, first_numbers}
use Rattle.record_changes.proofs.first_record.Goals as goal

pub returns-then-n-gt-MOST_PARTS : goal.returns-then-n-gt-MOST_PARTS
unfolding first_record list_refusal
returns-then-n-gt-MOST_PARTS c =
    let a = c.args in
    ap (λ (x : Numbered). outcome x a.buffer.now) (ap Err c.at.ensures)
    ∙ refused_kept (list_refusal a.n a.list.now) (record_bytes (first_design a.n a.list.now)) a.buffer.now _
    (parts_over 0 a.n _ (omega (arith, c.if-n-gt-MOST_PARTS.true)) c.if-n-gt-MOST_PARTS.true)

pub slice_bounds-entered_record-end : goal.slice_bounds-entered_record-end
slice_bounds-entered_record-end c =
    sym (length-take-le c.args.n sixteen c.if-n-gt-MOST_PARTS.false)

pub returns : goal.returns
returns c =
    let few = c.if-n-gt-MOST_PARTS.false in
    let a = c.args in
    c.entered_record.ensures
    ∙ ap (λ (numbers : List ℕ). entered_record a.n numbers a.list.now a.buffer.now) (first_numbers a.n few)
    ∙ sym (first_entered a.n a.list.now a.buffer.now)
