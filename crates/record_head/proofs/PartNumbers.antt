-- The part list of a record, read and written: what is found is well-formed and is the byte form of what it says, and the byte form of a
-- well-formed part list is found as that list.
-- Assumes nothing.
use mathlib.Core.Path.{◌≡◌, refl, sym, ap, ◌∙◌, subst}
use mathlib.Core.Bool.{Bool}
use mathlib.Core.List.{List, [], ◌∷◌, ◌++◌, append_assoc}
use Prim.Native.Nat.{ℕ, ◌+◌, ◌≤◌}
use native.Mathlib.Omega.{arith}
use lib.ListN.{length, drop, length-append}
use Rattle.std.specs.Prelude.{Ok}
use Rattle.answer.specs.declared.Reason.TheVariants.{WrongPartNumber}
use Rattle.answer.specs.declared.Refusal.{Refusal}
use Rattle.answer.proofs.Outcomes.{refuse_accepted, refuse_passed}
use Rattle.answer.proofs.Checks.{parts_passed, parts_right}
use Rattle.codec.specs.declared.Field.TheVariants.{Count, PartNumber}
use Rattle.codec.specs.ByteForm.{bytes_of, forms_of}
use Rattle.codec.specs.Reads.{found, refused, then}
use Rattle.codec.specs.FieldReads.{field_at}
use Rattle.codec.specs.Bytes.{Bytes}
use Rattle.codec.proofs.Found.{then_found, Stands, stands_both, behind, field_found, field_checked, field_read}
use Rattle.codec.proofs.FieldReads.{AnyPlace, Follow, AllAllowed, fields_counted, fields_found, fields_read}
use Rattle.record_parts.specs.declared.PartList.{PartList}
use Rattle.record_numbers.specs.Numbering.{most_parts, top_number, RisingWithin, Rules, misnumbered}
use Rattle.record_parts.specs.PartLists.{list_of, numbers_of, WellFormed}
use Rattle.record_numbers.proofs.Rules.{right_number, number_right}
use Rattle.record_parts.proofs.WellFormed.{numbers_of_list, list_well_formed, well_formed_counted, well_formed_list}
use Rattle.record_head.specs.Headings.{parts_refusal, mark_refusal, last_number, part_number_judge, numbers_at, parts_at}
use Rattle.record_head.specs.HeadingBytes.{parts_bytes}

pub last_more : (before : ℕ) (earlier : List ℕ) (number : ℕ) → last_number before (earlier ++ (number ∷ [])) ≡ number
last_more before [] number = refl
last_more before (x ∷ earlier) number = last_more x earlier number

-- ---- numbers

-- a part number that passes at one place passes at any
pub numbers_any_place : (mark : ℕ) → AnyPlace (part_number_judge mark)
numbers_any_place mark earlier place other number e =
    let wrong : Bool = misnumbered (last_number 0 earlier) mark number in
    refuse_passed wrong WrongPartNumber other (Ok tt) (refuse_accepted wrong WrongPartNumber place (Ok tt) e).0

-- part numbers pass one after the other exactly if they rise under the mark
follow_rising : (mark : ℕ) (earlier numbers : List ℕ) → Follow (part_number_judge mark) earlier numbers → RisingWithin (last_number 0 earlier) mark numbers
follow_rising mark earlier [] f = tt
follow_rising mark earlier (v ∷ numbers) f =
    let right = right_number (last_number 0 earlier) mark v (refuse_accepted _ WrongPartNumber 0 (Ok tt) (f.0 0)).0 in
    (right.0, right.1, subst (λ (low : ℕ). RisingWithin low mark numbers) (last_more 0 earlier v) (follow_rising mark (earlier ++ (v ∷ [])) numbers f.1))

rising_follow : (mark : ℕ) → mark ≤ top_number → (earlier numbers : List ℕ) → RisingWithin (last_number 0 earlier) mark numbers → Follow (part_number_judge mark) earlier numbers
rising_follow mark top earlier [] r = tt
rising_follow mark top earlier (v ∷ numbers) r = (
  λ place. refuse_passed _ WrongPartNumber place (Ok tt) (number_right (last_number 0 earlier) mark v r.0 r.1 top),
  rising_follow mark top (earlier ++ (v ∷ [])) numbers (subst (λ (low : ℕ). RisingWithin low mark numbers) (sym (last_more 0 earlier v)) r.2),
)

pub rising_allowed : (mark low : ℕ) → mark ≤ top_number → (numbers : List ℕ) → RisingWithin low mark numbers → AllAllowed PartNumber numbers
rising_allowed mark low top [] r = tt
rising_allowed mark low top (v ∷ numbers) r = (omega (arith, r.1), rising_allowed mark v top numbers r.2)

-- ---- the part list

pub record PartsRead (bytes : List ℕ) (start : ℕ) (parts : PartList) (next : ℕ) : Type 0 where
  pub well_formed : WellFormed parts
  pub stands : Stands bytes start next (parts_bytes parts)

parts_form : (n mark : ℕ) (numbers rest : List ℕ) → length numbers ≡ n → numbers ≡ rest
    → bytes_of n ++ (bytes_of mark ++ forms_of rest) ≡ parts_bytes (list_of mark numbers)
unfolding parts_bytes
parts_form n mark numbers rest counted same = rw (numbers_of_list mark numbers, counted, same)

pub parts_found : (bytes : List ℕ) (start : ℕ) (parts : PartList) (next : ℕ) → Bytes bytes → parts_at bytes start ≡ found parts next → PartsRead bytes start parts next
unfolding parts_at
parts_found bytes start parts next small e =
    let a = then_found (field_at bytes start Count (parts_refusal start)) _ parts next e in
    let n : ℕ = a.0 in
    let b = then_found (field_at bytes a.1 PartNumber mark_refusal) _ parts next a.3 in
    let mark : ℕ = b.0 in
    let c = then_found (numbers_at bytes mark n [] b.1) _ parts next b.3 in
    let numbers : List ℕ = c.0 in
    let f = field_found bytes start Count (parts_refusal start) n a.1 small a.2 in
    let g = field_found bytes a.1 PartNumber mark_refusal mark b.1 small b.2 in
    let r = fields_found bytes PartNumber (part_number_judge mark) (numbers_any_place mark) n [] b.1 numbers c.1 small g.stands.inside c.2 in
    let made : list_of mark numbers ≡ parts = cc c.3 in
    let ends : c.1 ≡ next = cc c.3 in
    let right = parts_right start n (Ok tt) f.passed in
    let counted : length numbers ≡ n = ap length r.behind_earlier ∙ r.counted in
    let rules : Rules (length numbers) mark numbers = record {
      some = rw counted right.0;
      few = rw counted right.1;
      rising = rw r.behind_earlier (follow_rising mark [] r.rest r.follow);
      top = g.allowed;
    } in
    let whole : Stands bytes start c.1 (bytes_of n ++ (bytes_of mark ++ forms_of r.rest)) = stands_both f.stands (stands_both g.stands r.stands) in
    let whole_list : Stands bytes start c.1 (parts_bytes (list_of mark numbers)) =
    subst (λ (form : List ℕ). Stands bytes start c.1 form) (parts_form n mark numbers r.rest counted r.behind_earlier) whole in
    let at_end : Stands bytes start next (parts_bytes (list_of mark numbers)) =
    subst (λ (k : ℕ). Stands bytes start k (parts_bytes (list_of mark numbers))) ends whole_list in
    subst (λ (list : PartList). PartsRead bytes start list next) made
    (record { well_formed = list_well_formed mark numbers rules; stands = at_end })

pub parts_read : (bytes : List ℕ) (start : ℕ) (parts : PartList) (rest : List ℕ) → WellFormed parts → drop start bytes ≡ parts_bytes parts ++ rest
    → parts_at bytes start ≡ found parts (start + length (parts_bytes parts))
unfolding parts_at parts_bytes
parts_read bytes start parts rest w e =
    let n : ℕ = parts.count in
    let mark : ℕ = parts.mark in
    let numbers : List ℕ = numbers_of parts in
    let counted : length numbers ≡ n = well_formed_counted parts w in
    let front : List ℕ = bytes_of n in
    let middle : List ℕ = bytes_of mark in
    let forms : drop start bytes ≡ front ++ (middle ++ (forms_of numbers ++ rest)) =
    e ∙ append_assoc front (middle ++ forms_of numbers) rest ∙ ap (λ (l : List ℕ). front ++ l) (append_assoc middle (forms_of numbers) rest) in
    let after : drop (start + length front) bytes ≡ middle ++ (forms_of numbers ++ rest) = behind bytes start front (middle ++ (forms_of numbers ++ rest)) forms in
    let last : drop (start + length front + length middle) bytes ≡ forms_of numbers ++ rest = behind bytes (start + length front) middle (forms_of numbers ++ rest) after in
    let first : field_at bytes start Count (parts_refusal start) ≡ found n (start + length front) =
    field_read bytes start Count (parts_refusal start) n (middle ++ (forms_of numbers ++ rest)) forms (omega (arith, w.rules.few))
    (parts_passed start n (Ok tt) w.rules.some w.rules.few) in
    let second : field_at bytes (start + length front) PartNumber mark_refusal ≡ found mark (start + length front + length middle) =
    field_read bytes (start + length front) PartNumber mark_refusal mark (forms_of numbers ++ rest) after w.rules.top refl in
    let third : numbers_at bytes mark n [] (start + length front + length middle) ≡ found numbers (start + length front + length middle + length (forms_of numbers)) =
    rw counted at (fields_read bytes PartNumber (part_number_judge mark) numbers [] (start + length front + length middle) rest
    (rising_allowed mark 0 w.rules.top numbers w.rules.rising) (rising_follow mark w.rules.top [] numbers w.rules.rising) last) in
    let ends : start + length front + length middle + length (forms_of numbers) ≡ start + length (front ++ (middle ++ forms_of numbers)) =
    omega (arith, length-append front (middle ++ forms_of numbers), length-append middle (forms_of numbers)) in
    simp (first, second, third, ends, ← (well_formed_list parts w))

-- ---- one field after the other

pub count_few : (bytes : List ℕ) (start n next : ℕ) → field_at bytes start Count (parts_refusal start) ≡ found n next → n ≤ most_parts
count_few bytes start n next e = (parts_right start n (Ok tt) (field_checked bytes start Count (parts_refusal start) n next e)).1

module _ (bytes : List ℕ) (start : ℕ) where
  pub parts_no_count : (why : Refusal) → field_at bytes start Count (parts_refusal start) ≡ refused why → parts_at bytes start ≡ refused why
  unfolding parts_at
  parts_no_count why e = rw e

  module _ (n next : ℕ) where
    pub parts_no_mark : (why : Refusal) → field_at bytes start Count (parts_refusal start) ≡ found n next → field_at bytes next PartNumber mark_refusal ≡ refused why → parts_at bytes start ≡ refused why
    unfolding parts_at
    parts_no_mark why e d = rw (e, d)

    pub parts_numbers : (mark after : ℕ) → field_at bytes start Count (parts_refusal start) ≡ found n next → field_at bytes next PartNumber mark_refusal ≡ found mark after
        → parts_at bytes start ≡ then (numbers_at bytes mark n [] after) (λ numbers end. found (list_of mark numbers) end)
    unfolding parts_at
    parts_numbers mark after e d = rw (e, d)

-- a part list that was read has 16 parts at the most
pub parts_few : (bytes : List ℕ) (start : ℕ) (parts : PartList) (next : ℕ) → parts_at bytes start ≡ found parts next → parts.count ≤ most_parts
unfolding parts_at
parts_few bytes start parts next e =
    let a = then_found (field_at bytes start Count (parts_refusal start)) _ parts next e in
    let b = then_found (field_at bytes a.1 PartNumber mark_refusal) _ parts next a.3 in
    let c = then_found (numbers_at bytes b.0 a.0 [] b.1) _ parts next b.3 in
    let made : list_of b.0 c.0 ≡ parts = cc c.3 in
    let few = count_few bytes start a.0 a.1 a.2 in
    subst (λ (list : PartList). list.count ≤ most_parts) made (omega (arith, fields_counted bytes PartNumber (part_number_judge b.0) a.0 [] b.1 c.0 c.1 c.2))
