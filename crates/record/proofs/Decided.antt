-- The first 40,000 bytes decide: a record is read by its first 38,744 bytes at the most, so that an input of at least 40,000 bytes never ends
-- inside a number and always has a byte left.
-- Assumes nothing.
use mathlib.Core.Path.{◌≡◌, ap}
use mathlib.Core.List.{List, []}
use Prim.Native.Nat.{ℕ, ◌+◌, ◌^◌, ◌≤◌}
use native.Mathlib.Omega.{arith}
use lib.ListN.{length, take}
use lib.Pow.{pow_mono}
use Rattle.codec.specs.declared.Field.TheVariants.{Count, PartNumber, Set}
use Rattle.codec.specs.Reads.{Read, found, then}
use Rattle.codec.specs.FieldReads.{field_at}
use Rattle.codec.proofs.ByteForms.{bytes_at_most}
use Rattle.codec.specs.Bytes.{Bytes}
use Rattle.codec.proofs.Found.{then_found, then_alike}
use Rattle.codec.proofs.Window.{field_first, field_next, NoneLonger, none_longer, fields_next, fields_first}
use Rattle.record_parts.specs.declared.PartList.{PartList}
use Rattle.record_parts.specs.PartLists.{list_of}
use Rattle.record_head.specs.Headings.{parts_refusal, mark_refusal, part_number_judge, set_count_refusal, numbers_at, parts_at, Head, head_at}
use Rattle.record.specs.Records.{set_refusal, sets_at, DesignAt, design_at, record_at}
use Rattle.record_head.proofs.PartNumbers.{count_few}
use Rattle.record_head.proofs.RoundTrip.{head_found}
use Rattle.record.proofs.Sets.{set_right}

-- a set of at most 16 parts takes at most three bytes
pub set_longest : (n : ℕ) → n ≤ 16 → NoneLonger Set (set_refusal n) 3
set_longest n few earlier place set passed allowed =
    let inside : 2 ^ n ≤ 2 ^ 16 = pow_mono few in
    bytes_at_most 3 set (omega arith) (omega (arith, (set_right n earlier place set passed).0))

-- ---- where a record ends at the latest

module _ (bytes : List ℕ) (small : Bytes bytes) where
  parts_next : (start : ℕ) (parts : PartList) (next : ℕ) → parts_at bytes start ≡ found parts next → next ≤ start + 124
  unfolding parts_at
  parts_next start parts next e =
      let a = then_found (field_at bytes start Count (parts_refusal start)) _ parts next e in
      let b = then_found (field_at bytes a.1 PartNumber mark_refusal) _ parts next a.3 in
      let c = then_found (numbers_at bytes b.0 a.0 [] b.1) _ parts next b.3 in
      let ends : c.1 ≡ next = cc c.3 in
      let few = count_few bytes start a.0 a.1 a.2 in
      let first = field_next bytes small start Count (parts_refusal start) a.0 a.1 a.2 in
      let second = field_next bytes small a.1 PartNumber mark_refusal b.0 b.1 b.2 in
      let third = fields_next bytes small PartNumber (part_number_judge b.0) 7 (none_longer PartNumber (part_number_judge b.0)) a.0 [] b.1 c.0 c.1 c.2 in
      omega arith

  head_next : (start : ℕ) (head : Head) (begin : ℕ) → head_at bytes start ≡ found head begin → begin ≤ start + 129
  unfolding head_at
  head_next start head begin e =
      let a = then_found (parts_at bytes start) _ head begin e in
      let b = then_found (field_at bytes a.1 Count (set_count_refusal a.1)) _ head begin a.3 in
      let ends : b.1 ≡ begin = cc b.3 in
      let first = parts_next start a.0 a.1 a.2 in
      let second = field_next bytes small a.1 Count (set_count_refusal a.1) b.0 b.1 b.2 in
      omega arith

  pub record_next : (start : ℕ) (here : DesignAt) (next : ℕ) → record_at bytes start ≡ found here next → next ≤ start + 38739
  unfolding record_at
  record_next start here next e =
      let a = then_found (head_at bytes start) _ here next e in
      let head : Head = a.0 in
      let n : ℕ = head.parts.count in
      let b = then_found (sets_at bytes n head.count [] a.1) _ here next a.3 in
      let ends : b.1 ≡ next = cc b.3 in
      let h = head_found bytes start head a.1 small a.2 in
      let first = head_next start head a.1 a.2 in
      let second = fields_next bytes small Set (set_refusal n) 3 (set_longest n h.parts.rules.few) head.count [] a.1 b.0 b.1 b.2 in
      omega (arith, h.most)

-- ---- the first bytes alone

module _ (bytes : List ℕ) (small : Bytes bytes) (most : ℕ) (long : most ≤ length bytes) where
  parts_first : (start : ℕ) → start + 131 ≤ most → parts_at (take most bytes) start ≡ parts_at bytes start
  unfolding parts_at
  parts_first start h =
      then_alike (field_at bytes start Count (parts_refusal start)) (field_at (take most bytes) start Count (parts_refusal start)) _ _
      (field_first bytes most long start Count (parts_refusal start) (omega arith)) (λ n next e.
      let few = count_few bytes start n next e in
      let near = field_next bytes small start Count (parts_refusal start) n next e in
      then_alike (field_at bytes next PartNumber mark_refusal) (field_at (take most bytes) next PartNumber mark_refusal) _ _
      (field_first bytes most long next PartNumber mark_refusal (omega arith)) (λ mark after d.
      let near_mark = field_next bytes small next PartNumber mark_refusal mark after d in
      ap (λ (r : Read (List ℕ)). then r (λ numbers end. found (list_of mark numbers) end))
      (fields_first bytes small PartNumber (part_number_judge mark) 7 (none_longer PartNumber (part_number_judge mark)) most long n [] after (omega arith))))

  head_first : (start : ℕ) → start + 131 ≤ most → head_at (take most bytes) start ≡ head_at bytes start
  unfolding head_at
  head_first start h =
      then_alike (parts_at bytes start) (parts_at (take most bytes) start) _ _ (parts_first start h) (λ parts next e.
      let near = parts_next bytes small start parts next e in
      ap (λ (r : Read ℕ). then r (λ count after. found (record { parts = parts; count = count }) after))
      (field_first bytes most long next Count (set_count_refusal next) (omega arith)))

  -- a record is read by its first 38,744 bytes
  pub record_first : (start : ℕ) → start + 38744 ≤ most → record_at (take most bytes) start ≡ record_at bytes start
  unfolding record_at
  record_first start h =
      then_alike (head_at bytes start) (head_at (take most bytes) start) _ _ (head_first start (omega arith)) (λ head begin e.
      let near = head_next bytes small start head begin e in
      let read = head_found bytes start head begin small e in
      let n : ℕ = head.parts.count in
      ap (λ (r : Read (List ℕ)). then r (λ sets end. found (design_at head.parts sets begin end) end))
      (fields_first bytes small Set (set_refusal n) 3 (set_longest n read.parts.rules.few) most long head.count [] begin (omega (arith, read.most))))
