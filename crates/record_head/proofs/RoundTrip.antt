-- Read after write and write after read: what is found before the sets keeps the rules and is its own byte form, which is read wherever it
-- stands.
-- Assumes nothing.
use mathlib.Core.Path.{◌≡◌, ◌∙◌, subst}
use mathlib.Core.List.{List, ◌++◌, append_assoc}
use Prim.Native.Nat.{ℕ, ◌+◌, ◌≤◌}
use native.Mathlib.Nat.{pos_of_ne-zero}
use native.Mathlib.Omega.{arith}
use borrow.Author.Tests.{eqb-false, ltb-false, ne_eqb, le-ltb}
use lib.ListN.{length, drop, length-append}
use Rattle.answer.proofs.Outcomes.{refuse_accepted}
use Rattle.codec.specs.ByteForm.{bytes_of}
use Rattle.codec.specs.Bytes.{Bytes}
use Rattle.theory_orders.specs.Antichains.{most_sets}
use Rattle.record_parts.specs.declared.PartList.{PartList}
use Rattle.record_parts.specs.PartLists.{WellFormed}
use Rattle.codec.specs.declared.Field.TheVariants.{Count}
use Rattle.codec.specs.Reads.{found}
use Rattle.codec.specs.FieldReads.{field_at}
use Rattle.record_head.specs.Headings.{set_count_refusal, parts_at, Head, head_at}
use Rattle.record_head.specs.HeadingBytes.{parts_bytes, head_bytes}
use Rattle.codec.proofs.Found.{then_found, Stands, stands_both, behind, field_found, field_read}
use Rattle.record_head.proofs.PartNumbers.{parts_found, parts_read}

pub record HeadRead (bytes : List ℕ) (start : ℕ) (head : Head) (begin : ℕ) : Type 0 where
  pub parts : WellFormed head.parts
  pub some : 1 ≤ head.count
  pub most : head.count ≤ most_sets
  pub stands : Stands bytes start begin (head_bytes head.parts head.count)

pub head_found : (bytes : List ℕ) (start : ℕ) (head : Head) (begin : ℕ) → Bytes bytes → head_at bytes start ≡ found head begin → HeadRead bytes start head begin
unfolding head_at head_bytes
head_found bytes start head begin small e =
    let a = then_found (parts_at bytes start) _ head begin e in
    let parts : PartList = a.0 in
    let b = then_found (field_at bytes a.1 Count (set_count_refusal a.1)) _ head begin a.3 in
    let count : ℕ = b.0 in
    let same : record { parts = parts; count = count } ≡ head = cc b.3 in
    let ends : b.1 ≡ begin = cc b.3 in
    let p = parts_found bytes start parts a.1 small a.2 in
    let f = field_found bytes a.1 Count (set_count_refusal a.1) count b.1 small b.2 in
    let some = refuse_accepted _ _ _ _ f.passed in
    let most = refuse_accepted _ _ _ _ some.1 in
    subst (λ (h : Head). HeadRead bytes start h begin) same
    (record {
      parts = p.well_formed;
      some = pos_of_ne-zero (eqb-false count 0 some.0);
      most = ltb-false most_sets count most.0;
      stands = subst (λ (k : ℕ). Stands bytes start k (parts_bytes parts ++ bytes_of count)) ends (stands_both p.stands f.stands);
    })

pub head_read : (bytes : List ℕ) (start : ℕ) (parts : PartList) (count : ℕ) (rest : List ℕ) → WellFormed parts → 1 ≤ count → count ≤ most_sets
    → drop start bytes ≡ head_bytes parts count ++ rest → head_at bytes start ≡ found (record { parts = parts; count = count }) (start + length (head_bytes parts count))
unfolding head_at head_bytes
head_read bytes start parts count rest w some most e =
    let forms : drop start bytes ≡ parts_bytes parts ++ (bytes_of count ++ rest) = e ∙ append_assoc (parts_bytes parts) (bytes_of count) rest in
    let middle : ℕ = start + length (parts_bytes parts) in
    let first : parts_at bytes start ≡ found parts middle = parts_read bytes start parts (bytes_of count ++ rest) w forms in
    let second : field_at bytes middle Count (set_count_refusal middle) ≡ found count (middle + length (bytes_of count)) =
    field_read bytes middle Count (set_count_refusal middle) count rest (behind bytes start (parts_bytes parts) (bytes_of count ++ rest) forms) (omega arith)
    (simp (ne_eqb count 0 (λ z. omega arith), le-ltb most_sets count most)) in
    let ends : middle + length (bytes_of count) ≡ start + length (parts_bytes parts ++ bytes_of count) = omega (arith, length-append (parts_bytes parts) (bytes_of count)) in
    simp (first, second, ends)
