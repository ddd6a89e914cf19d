-- A part list read by one field for its numbers is read by another as well, where the other allows the mark; so for the part numbers of 2^32-1
-- at most and those of today, both ways.
-- Assumes nothing.
use mathlib.Core.Path.{◌≡◌, sym, subst}
use mathlib.Core.Bool.{true, false, cond}
use mathlib.Core.List.{List, []}
use Prim.Native.Nat.{ℕ, ◌≤◌}
use native.Mathlib.Omega.{arith}
use borrow.Author.Tests.{ltb-false, le-ltb}
use lib.Dec.{leb, ltb}
use Rattle.std.specs.Prelude.{Ok}
use Rattle.answer.specs.declared.Reason.TheVariants.{WrongPartNumber}
use Rattle.answer.proofs.Outcomes.{refuse_accepted, refuse_passed}
use Rattle.codec.specs.declared.Field.{Field}
use Rattle.codec.specs.declared.Field.TheVariants.{Count, PartNumber}
use Rattle.codec.specs.Fields.{top}
use Rattle.codec.specs.Bytes.{Bytes}
use Rattle.codec.specs.Reads.{Read, found, then}
use Rattle.codec.specs.FieldReads.{Judge, field_at, fields_at}
use Rattle.codec.proofs.Found.{then_found, found_then, field_found}
use Rattle.codec.proofs.Widths.{field_other, fields_other}
use Rattle.record_numbers.specs.Numbering.{top_number}
use Rattle.record_numbers.proofs.Rules.{either_none}
use Rattle.record_parts.specs.declared.PartList.{PartList}
use Rattle.record_parts.specs.PartLists.{list_of}
use Rattle.record_head.specs.Headings.{parts_refusal, mark_refusal, last_number, part_number_judge, parts_at}
use Rattle.record_former.specs.Former.{former_field, former_judge, former_parts_at}

-- ---- 23, whatever the top number

-- a number that rises to the mark and not over one top number does so under another
retopped : (high other previous mark number : ℕ) → cond (leb number previous) true (cond (ltb mark number) true (ltb high number)) ≡ false → mark ≤ other
    → (number ≤ other) × (cond (leb number previous) true (cond (ltb mark number) true (ltb other number)) ≡ false)
retopped high other previous mark number e low =
    let f = either_none (leb number previous) (cond (ltb mark number) true (ltb high number)) e in
    let g = either_none (ltb mark number) (ltb high number) f.1 in
    let rises : leb number previous ≡ false = f.0 in
    let kept : ltb mark number ≡ false = g.0 in
    let under : number ≤ other = omega (arith, ltb-false mark number kept) in
    (under, simp (rises, kept, le-ltb other number under))

-- so for both judges
passes_now : (mark : ℕ) → mark ≤ top_number → (earlier : List ℕ) (place v : ℕ) → v ≤ top former_field → former_judge mark earlier place v ≡ Ok tt
    → (v ≤ top PartNumber) × (part_number_judge mark earlier place v ≡ Ok tt)
passes_now mark low earlier place v allowed e =
    let r = retopped (top former_field) top_number (last_number 0 earlier) mark v (refuse_accepted _ WrongPartNumber place (Ok tt) e).0 low in
    (r.0, refuse_passed _ WrongPartNumber place (Ok tt) r.1)

passed_then : (mark : ℕ) → mark ≤ top former_field → (earlier : List ℕ) (place v : ℕ) → v ≤ top PartNumber → part_number_judge mark earlier place v ≡ Ok tt
    → (v ≤ top former_field) × (former_judge mark earlier place v ≡ Ok tt)
passed_then mark low earlier place v allowed e =
    let r = retopped top_number (top former_field) (last_number 0 earlier) mark v (refuse_accepted _ WrongPartNumber place (Ok tt) e).0 low in
    (r.0, refuse_passed _ WrongPartNumber place (Ok tt) r.1)

-- ---- a part list

-- n, the mark and n part numbers, by a field and a judge
abbrev parts_by : Field → (ℕ → Judge) → List ℕ → ℕ → Read PartList
parts_by field judge bytes start =
    then (field_at bytes start Count (parts_refusal start)) (λ n next.
    then (field_at bytes next field mark_refusal) (λ mark after.
    then (fields_at bytes field (judge mark) n [] after) (λ numbers end.
    found (list_of mark numbers) end)))

module _ (bytes : List ℕ) (small : Bytes bytes) where
  -- the field allows the mark
  parts_mark : (field : Field) (judge : ℕ → Judge) (start : ℕ) (parts : PartList) (next : ℕ) → parts_by field judge bytes start ≡ found parts next → parts.mark ≤ top field
  parts_mark field judge start parts next e =
      let a = then_found (field_at bytes start Count (parts_refusal start)) _ parts next e in
      let b = then_found (field_at bytes a.1 field mark_refusal) _ parts next a.3 in
      let c = then_found (fields_at bytes field (judge b.0) a.0 [] b.1) _ parts next b.3 in
      let made : list_of b.0 c.0 ≡ parts = cc c.3 in
      subst (λ (list : PartList). list.mark ≤ top field) made (field_found bytes a.1 field mark_refusal b.0 b.1 small b.2).allowed

  parts_other : (field other : Field) (judge also : ℕ → Judge)
      → ((mark : ℕ) → mark ≤ top other → (earlier : List ℕ) (place v : ℕ) → v ≤ top field → judge mark earlier place v ≡ Ok tt → (v ≤ top other) × (also mark earlier place v ≡ Ok tt))
      → (start : ℕ) (parts : PartList) (next : ℕ) → parts.mark ≤ top other → parts_by field judge bytes start ≡ found parts next → parts_by other also bytes start ≡ found parts next
  parts_other field other judge also passes start parts next low e =
      let a = then_found (field_at bytes start Count (parts_refusal start)) _ parts next e in
      let b = then_found (field_at bytes a.1 field mark_refusal) _ parts next a.3 in
      let c = then_found (fields_at bytes field (judge b.0) a.0 [] b.1) _ parts next b.3 in
      let made : list_of b.0 c.0 ≡ parts = cc c.3 in
      let under : b.0 ≤ top other = subst (λ (list : PartList). list.mark ≤ top other) (sym made) low in
      let mark = field_other bytes small field other a.1 mark_refusal mark_refusal b.0 b.1 (λ allowed passed. (under, passed)) b.2 in
      let numbers = fields_other bytes small field other (judge b.0) (also b.0) (passes b.0 under) a.0 [] b.1 c.0 c.1 c.2 in
      found_then _ a.2 (found_then _ mark (found_then _ numbers c.3))

  -- what was read until then is read now
  pub parts_now : (start : ℕ) (parts : PartList) (next : ℕ) → former_parts_at bytes start ≡ found parts next → parts_at bytes start ≡ found parts next
  unfolding former_parts_at parts_at
  parts_now start parts next e =
      let low = parts_mark former_field former_judge start parts next e in
      parts_other former_field PartNumber former_judge part_number_judge passes_now start parts next (omega arith) e

  -- with a mark of 2^32-1 at most
  pub parts_marked : (start : ℕ) (parts : PartList) (next : ℕ) → former_parts_at bytes start ≡ found parts next → parts.mark ≤ top former_field
  unfolding former_parts_at
  parts_marked = parts_mark former_field former_judge

  -- and what is read now with such a mark was read then
  pub parts_then : (start : ℕ) (parts : PartList) (next : ℕ) → parts.mark ≤ top former_field → parts_at bytes start ≡ found parts next → former_parts_at bytes start ≡ found parts next
  unfolding former_parts_at parts_at
  parts_then = parts_other PartNumber former_field part_number_judge former_judge passed_then
