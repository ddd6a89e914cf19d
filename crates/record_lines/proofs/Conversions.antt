-- Conversions on record bytes: to edition 2 and back is the identity on edition 1, and to edition 1 and back on edition 2 with no retired numbers,
-- wherever the buffers have room.
-- Assumes nothing.
use mathlib.Core.Path.{◌≡◌, ap, ◌∙◌, subst}
use mathlib.Core.List.{List, []}
use Prim.Native.Nat.{ℕ}
use lib.ListN.{take}
use Rattle.std.specs.Prelude.{Ok}
use Rattle.codec.specs.Bytes.{Bytes}
use Rattle.codec.specs.Reads.{found}
use Rattle.record.specs.Records.{Design}
use Rattle.record_editions.specs.declared.Edition.TheVariants.{First, Second}
use Rattle.record_editions.specs.Editions.{Stored, first, second, edition_of, whole_stored}
use Rattle.record_editions.specs.EditionBytes.{stored_bytes, StoredRules}
use Rattle.record_editions.proofs.RoundTrip.{stored_written}
use Rattle.record_lines.specs.Changes.{convert}
use Rattle.record_lines.specs.Records.{changed_stored, changed_record}
use Rattle.record_lines.proofs.Stored.{same_edition, to_second, to_first}
use Rattle.record_lines.proofs.Written.{made_stored}

-- the record that a conversion wrote in front of its buffer
abbrev converted : Stored → List ℕ → List ℕ → ℕ → List ℕ
converted to bytes buffer n = take n (changed_record (convert (edition_of to)) bytes buffer).buffer

module _ (bytes : List ℕ) (small : Bytes bytes) (next : ℕ) (one two : List ℕ) (i j : ℕ) where
  -- what a record becomes in an edition, and what that becomes in its own edition again
  back : (s t : Stored) → whole_stored bytes ≡ found s next → changed_stored (convert (edition_of t)) s ≡ t → changed_stored (convert (edition_of s)) t ≡ s
      → (changed_record (convert (edition_of t)) bytes one).answer ≡ Ok i
      → (changed_record (convert (edition_of s)) (converted t bytes one i) two).answer ≡ Ok j
      → converted s (converted t bytes one i) two j ≡ bytes
  back s t read there again first_made second-made =
      let w = stored_written bytes s next small read in
      let m = made_stored (convert (edition_of t)) bytes one i first_made s next read w.0 in
      let now : whole_stored (converted t bytes one i) ≡ found t i = m.accepted_again ∙ ap (λ (x : Stored). found x i) there in
      let n = made_stored (convert (edition_of s)) (converted t bytes one i) two j second-made t i now (subst StoredRules there m.again) in
      n.written ∙ ap stored_bytes again ∙ w.1

  pub there_and_back : (d : Design) → whole_stored bytes ≡ found (first d) next → (changed_record (convert Second) bytes one).answer ≡ Ok i
      → (changed_record (convert First) (take i (changed_record (convert Second) bytes one).buffer) two).answer ≡ Ok j
      → take j (changed_record (convert First) (take i (changed_record (convert Second) bytes one).buffer) two).buffer ≡ bytes
  there_and_back d read = back (first d) (second d []) read (to_second d).1 (to_first d).1

  pub back_and_there : (d : Design) → whole_stored bytes ≡ found (second d []) next → (changed_record (convert First) bytes one).answer ≡ Ok i
      → (changed_record (convert Second) (take i (changed_record (convert First) bytes one).buffer) two).answer ≡ Ok j
      → take j (changed_record (convert Second) (take i (changed_record (convert First) bytes one).buffer) two).buffer ≡ bytes
  back_and_there d read = back (second d []) (first d) read (to_first d).1 (to_second d).1

  -- a record already of the edition asked for comes back unchanged
  pub comes_back : (s : Stored) → whole_stored bytes ≡ found s next → (changed_record (convert (edition_of s)) bytes one).answer ≡ Ok i → converted s bytes one i ≡ bytes
  comes_back s read made =
      let w = stored_written bytes s next small read in
      let m = made_stored (convert (edition_of s)) bytes one i made s next read w.0 in
      m.written ∙ ap stored_bytes (same_edition s).1 ∙ w.1
