-- What stands behind the sets ends soon, and its first bytes decide what is found there.
-- Assumes nothing.
use mathlib.Core.Path.{◌≡◌, ap}
use mathlib.Core.List.{List, []}
use Prim.Native.Nat.{ℕ, ◌+◌, ◌*◌, ◌≤◌}
use native.Mathlib.Omega.{arith}
use borrow.Author.Tests.{ltb-false}
use lib.ListN.{length, take}
use Rattle.std.specs.Prelude.{Ok}
use Rattle.answer.specs.declared.Reason.TheVariants.{WrongRetired}
use Rattle.answer.proofs.Outcomes.{refuse_accepted}
use Rattle.codec.specs.declared.Field.TheVariants.{Count, PartNumber}
use Rattle.codec.specs.Reads.{Read, found, then}
use Rattle.codec.specs.FieldReads.{field_at}
use Rattle.codec.specs.Bytes.{Bytes}
use Rattle.codec.proofs.Found.{then_found, then_alike, field_checked}
use Rattle.codec.proofs.Window.{field_first, field_next, none_longer, fields_next, fields_first}
use Rattle.record_retired.specs.Retired.{most_retired}
use Rattle.record_tail.specs.Tails.{retired_count_refusal, retired_judge, count_judge, retired_at, counts_at, tail_at}

module _ (bytes : List ℕ) (small : Bytes bytes) (mark : ℕ) (in_use : List ℕ) where
  few : (start count next : ℕ) → field_at bytes start Count (retired_count_refusal start) ≡ found count next → count ≤ most_retired
  few start count next e =
      ltb-false most_retired count (refuse_accepted _ WrongRetired start (Ok tt) (field_checked bytes start Count (retired_count_refusal start) count next e)).0

  retired_next : (start : ℕ) (retired : List ℕ) (next : ℕ) → retired_at bytes mark in_use start ≡ found retired next → next ≤ start + 453
  unfolding retired_at
  retired_next start retired next e =
      let a = then_found (field_at bytes start Count (retired_count_refusal start)) _ retired next e in
      let first = field_next bytes small start Count (retired_count_refusal start) a.0 a.1 a.2 in
      let second = fields_next bytes small PartNumber (retired_judge mark in_use) 7 (none_longer PartNumber (retired_judge mark in_use)) a.0 [] a.1 retired next a.3 in
      omega (arith, few start a.0 a.1 a.2)

  module _ (counts : List ℕ) where
    -- 5 bytes for the count, 7 for each of 64 numbers, and 5 for each path count
    pub tail_next : (start : ℕ) (retired : List ℕ) (end : ℕ) → tail_at bytes mark in_use counts start ≡ found retired end → end ≤ start + 453 + length counts * 5
    unfolding tail_at
    tail_next start retired end e =
        let a = then_found (retired_at bytes mark in_use start) _ retired end e in
        let b = then_found (counts_at bytes counts a.1) _ retired end a.3 in
        let ends : b.1 ≡ end = cc b.3 in
        let first = retired_next start a.0 a.1 a.2 in
        let second = fields_next bytes small Count (count_judge counts) 5 (none_longer Count (count_judge counts)) (length counts) [] a.1 b.0 b.1 b.2 in
        omega arith

    module _ (most : ℕ) (long : most ≤ length bytes) where
      retired_first : (start : ℕ) → start + 460 ≤ most → retired_at (take most bytes) mark in_use start ≡ retired_at bytes mark in_use start
      unfolding retired_at
      retired_first start h =
          then_alike (field_at bytes start Count (retired_count_refusal start)) (field_at (take most bytes) start Count (retired_count_refusal start)) _ _
          (field_first bytes most long start Count (retired_count_refusal start) (omega arith)) (λ count next e.
          let near = field_next bytes small start Count (retired_count_refusal start) count next e in
          fields_first bytes small PartNumber (retired_judge mark in_use) 7 (none_longer PartNumber (retired_judge mark in_use)) most long count [] next (omega (arith, few start count next e)))

      pub tail_first : (start : ℕ) → start + 460 + length counts * 5 ≤ most → tail_at (take most bytes) mark in_use counts start ≡ tail_at bytes mark in_use counts start
      unfolding tail_at
      tail_first start h =
          then_alike (retired_at bytes mark in_use start) (retired_at (take most bytes) mark in_use start) _ _ (retired_first start (omega arith)) (λ retired next e.
          let near = retired_next start retired next e in
          ap (λ (r : Read (List ℕ)). then r (λ same end. found retired end))
          (fields_first bytes small Count (count_judge counts) 5 (none_longer Count (count_judge counts)) most long (length counts) [] next (omega arith)))
