-- No record of edition 1 is longer than 38,732 bytes, and none of edition 2 longer than 39,217: two bytes more in front, and behind the sets one
-- for the count of retired numbers, seven for each of 64, and two for each of 17 path counts.
-- Assumes nothing.
use mathlib.Core.Path.{◌≡◌, subst}
use mathlib.Core.List.{List}
use Prim.Native.Nat.{ℕ, ◌+◌, ◌≤◌}
use native.Mathlib.Omega.{arith}
use lib.ListN.{length, length-append}
use Rattle.codec.specs.declared.Field.TheVariants.{PartNumber}
use Rattle.codec.specs.ByteForm.{bytes_of, forms_of}
use Rattle.codec.specs.Reads.{found}
use Rattle.codec.specs.Bytes.{Bytes}
use Rattle.codec.proofs.ByteForms.{bytes_at_most}
use Rattle.codec.proofs.FieldReads.{forms_allowed}
use Rattle.record_head.proofs.PartNumbers.{rising_allowed}
use Rattle.record_tail.specs.TailBytes.{tail_bytes}
use Rattle.record.specs.Records.{Design}
use Rattle.record.specs.RecordBytes.{record_bytes}
use Rattle.record.proofs.Lengths.{record_longest}
use Rattle.record_editions.specs.Editions.{Stored, first, second, fresh_counts, whole_stored}
use Rattle.record_editions.specs.EditionBytes.{stored_bytes, StoredRules}
use Rattle.record_editions.proofs.Counts.{fresh_short}
use Rattle.record_editions.proofs.RoundTrip.{stored_written}

-- a record's bytes in edition 2, piece by piece
pub second_sum : (d : Design) (retired : List ℕ) → length (stored_bytes (second d retired)) ≡ 2 + length (record_bytes d) + length (bytes_of (length retired)) + length (forms_of retired) + length (forms_of (fresh_counts d))
unfolding stored_bytes tail_bytes
second_sum d retired = simp length-append (omega arith)

-- what is written
pub stored_longest : (s : Stored) → StoredRules s → length (stored_bytes s) ≤ 39217
unfolding stored_bytes
stored_longest (first d) r = omega (arith, record_longest d r)
stored_longest (second d retired) r =
    let numbers = forms_allowed PartNumber retired (rising_allowed d.parts.mark 0 r.0.parts.rules.top retired r.1.rising) in
    let one = bytes_at_most 1 (length retired) (omega arith) (omega (arith, r.1.most)) in
    let counts = fresh_short d r.0.parts.rules.few in
    omega (arith, second_sum d retired, record_longest d r.0, r.1.most, r.0.parts.rules.few)

-- and what is accepted
pub accepted_longest : (bytes : List ℕ) → Bytes bytes → (s : Stored) (next : ℕ) → whole_stored bytes ≡ found s next → length bytes ≤ 39217
accepted_longest bytes small s next e =
    let w = stored_written bytes s next small e in
    subst (λ (l : List ℕ). length l ≤ 39217) w.1 (stored_longest s w.0)
