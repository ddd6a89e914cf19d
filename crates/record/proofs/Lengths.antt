-- No record is longer than 38,732 bytes: one for n, seven for the mark and each of 16 part numbers, two for the count and three for each of
-- 12,870 sets.
-- Assumes nothing.
use mathlib.Core.Path.{◌≡◌, refl}
use mathlib.Core.List.{List, [], ◌∷◌, Memᴰ}
use Prim.Native.Nat.{ℕ, zero, suc, ◌+◌, ◌^◌, ◌≤◌, ◌<◌}
use native.Mathlib.Omega.{arith}
use lib.ListN.{length, get_or, length-append}
use lib.Pow.{pow_mono}
use Rattle.codec.specs.declared.Field.TheVariants.{PartNumber}
use Rattle.codec.specs.ByteForm.{bytes_of, forms_of}
use Rattle.codec.proofs.ByteForms.{bytes_at_most, forms_most}
use Rattle.codec.proofs.FieldReads.{forms_allowed}
use Rattle.record_parts.specs.PartLists.{numbers_of}
use Rattle.record_parts.proofs.WellFormed.{well_formed_counted}
use Rattle.record_head.specs.HeadingBytes.{parts_bytes, head_bytes}
use Rattle.record_head.proofs.PartNumbers.{rising_allowed}
use Rattle.record.specs.Records.{Design}
use Rattle.record.specs.RecordBytes.{record_bytes, DesignRules}

-- no set of a design takes more than three bytes
set_small : (sets : List ℕ) → ((a : ℕ) → Memᴰ a sets → a < 2 ^ 16) → (i : ℕ) → get_or sets i 0 < 2 ^ 16
set_small [] small i = omega arith
set_small (x ∷ sets) small zero = small x (Memᴰ.head refl)
set_small (x ∷ sets) small (suc i) = set_small sets (λ a m. small a (Memᴰ.tail m)) i

-- a record's bytes, piece by piece: n, the mark, the part numbers, the count of sets and the sets
pub record_sum : (d : Design) → length (record_bytes d)
    ≡ length (bytes_of d.parts.count) + length (bytes_of d.parts.mark) + length (forms_of (numbers_of d.parts)) + length (bytes_of (length d.sets)) + length (forms_of d.sets)
unfolding record_bytes head_bytes parts_bytes
record_sum d = simp length-append (omega arith)

-- what is written
pub record_longest : (d : Design) → DesignRules d → length (record_bytes d) ≤ 38732
record_longest d r =
    let parts = r.parts.rules in
    let numbers : List ℕ = numbers_of d.parts in
    let inside : 2 ^ d.parts.count ≤ 2 ^ 16 = pow_mono parts.few in
    let one = bytes_at_most 1 d.parts.count (omega arith) (omega (arith, parts.few)) in
    let seven = bytes_at_most 7 d.parts.mark (omega arith) (omega (arith, parts.top)) in
    let all = forms_allowed PartNumber numbers (rising_allowed d.parts.mark 0 parts.top numbers parts.rising) in
    let two = bytes_at_most 2 (length d.sets) (omega arith) (omega (arith, r.sets.most)) in
    let small = set_small d.sets (λ a m. omega (arith, (r.sets.within a m).0)) in
    let sets = forms_most 3 d.sets (λ i. bytes_at_most 3 (get_or d.sets i 0) (omega arith) (omega (arith, small i))) in
    omega (arith, record_sum d, well_formed_counted d.parts r.parts, parts.few, r.sets.most)
