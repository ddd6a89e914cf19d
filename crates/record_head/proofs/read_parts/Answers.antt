-- `record_head::read_parts` meets its contract: n, the mark and the part numbers, each read after the one before it.
-- Assumes nothing.
use mathlib.Core.Path.{refl, sym, ap, ◌∙◌}
use mathlib.Core.List.{[]}
use Prim.Native.Nat.{ℕ}
use Rattle.std.proofs.Common.{Ok, Err}
use Rattle.std.proofs.lemmas.Result.{err_from_is_err_and}
use Rattle.codec.specs.declared.Field.TheVariants.{PartNumber}
use Rattle.codec.specs.Reads.{Read, found, then, reading_of}
use Rattle.record_parts.specs.PartLists.{list_of}
use Rattle.codec.proofs.Found.{answer_number, field_ended, field_passed, handed_on, gone_on}
use Rattle.record_head.specs.Headings.{parts_at, numbers_at, mark_refusal}
use Rattle.record_head.proofs.PartNumbers.{count_few}
use Rattle.record_head.proofs.read_parts.Goals as goal

pub read_part_numbers-requires : goal.read_part_numbers-requires
read_part_numbers-requires c =
    count_few c.args.bytes.now c.args.start _ _ (answer_number _ _ _ (sym c.in_ok-count.was ∙ c.read_part_count.ensures))

pub returns-in_err-count : goal.returns-in_err-count
unfolding parts_at
returns-in_err-count c =
    let p = err_from_is_err_and c.from_residual.result c.from_residual.ensures.1 in
    rw (p.1, p.2) (handed_on _ _ reading_of _ (sym c.in_err-count.was ∙ c.read_part_count.ensures))

pub returns-in_err-mark : goal.returns-in_err-mark
unfolding parts_at
returns-in_err-mark c =
    let p = err_from_is_err_and c.from_residual-in_err-mark.result c.from_residual-in_err-mark.ensures.1 in
    rw (p.1, p.2)
    (ap reading_of (ap (λ (r : Read ℕ). then r (λ mark after. then (numbers_at c.args.bytes.now mark c.in_ok-count.count.value [] after) (λ numbers end. found (list_of mark numbers) end)))
    (field_ended c.args.bytes.now _ PartNumber mark_refusal c.read_number.ensures _ c.in_err-mark.was))
    ∙ gone_on _ _ reading_of _ (sym c.in_ok-count.was ∙ c.read_part_count.ensures))

pub returns : goal.returns
unfolding parts_at
returns c =
    c.read_part_numbers.ensures
    ∙ ap reading_of (ap (λ (r : Read ℕ). then r (λ mark after. then (numbers_at c.args.bytes.now mark c.in_ok-count.count.value [] after) (λ numbers end. found (list_of mark numbers) end)))
    (field_passed c.args.bytes.now _ PartNumber mark_refusal c.read_number.ensures _ _ c.in_ok-mark.was refl))
    ∙ gone_on _ _ reading_of _ (sym c.in_ok-count.was ∙ c.read_part_count.ensures)
