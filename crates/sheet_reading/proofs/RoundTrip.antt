-- Sheets and vectors there and back (01, "Records on disk"; 02, §11), said of `sheet_of`, which both readers cite, and of what the calls that save
-- cite: a sheet of every kind that was written before is read as before; a vector that is saved is read back, and what is read is saved as the
-- bytes that it was read from, but for a tail, which is saved as the signature with the same path counts. Assumes nothing.
use mathlib.Core.Path.{◌≡◌, sym, ap, ap₂, ◌∙◌}
use mathlib.Core.Bool.{not}
use mathlib.Core.List.{List}
use Prim.Native.Nat.{ℕ, ◌≤◌}
use lib.Dec.{eqb}
use lib.IntN.{ℤ}
use lib.ListN.{length, take}
use Rattle.std.specs.Prelude.{Ok}
use Rattle.answer.specs.Outcome.{refuse, outcome, delivered, Verdict}
use Rattle.answer.specs.declared.Reason.TheVariants.{WrongVectorLength, WrongKind}
use Rattle.answer.proofs.Deliveries.{given}
use Rattle.answer.proofs.Outcomes.{refuse_accepted}
use Rattle.codec.specs.Bytes.{Bytes}
use Rattle.codec.specs.Reads.{found}
use Rattle.answer.specs.Checks.{part_count_refusal}
use Rattle.vector.specs.InStruct.{most_entries, entries_of, struct_refusal}
use Rattle.vector.proofs.InStruct.{held_same}
use Rattle.vector_kind.specs.Kinds.{length_of, is_kind, kind_of, kind_refusal}
use Rattle.vector_conversion.specs.Vectors.{counts_of, counts_refusal, vector_refusal, converted}
use Rattle.vector_conversion.proofs.Acceptance.{accepted_vector}
use Rattle.vector_conversion.proofs.Conversions.{counts_back, conversion_accepted}
use Rattle.vector_kind.specs.declared.Kind.{Kind}
use Rattle.vector_kind.specs.declared.Kind.TheVariants.{Tail, Signature}
use Rattle.vector.specs.declared.Vector.{Vector}
use Rattle.sheet.specs.Saving.{sheet_as, saved_kind, saved_sheet}
use Rattle.sheet.specs.Sheets.{sheet_bytes, sheet, sheet_of}
use Rattle.sheet.proofs.Saving.{saved_own}
use Rattle.sheet_reading.specs.Answers.{sheet_read}
use Rattle.sheet_reading.proofs.ReadSheet.{sheet_read_lem}
use Rattle.sheet_reading.proofs.Reading.{GivenAs, sheet_given}
use Rattle.sheet_reading.proofs.SheetForm.{sheet_form}

-- ---- sheets as they were written until 02, §11

-- What was left of a vector of any kind, also of a tail, by a call whose checks passed only what is accepted is read as that vector.
pub sheet_as_before : (kind : Kind) (n : ℕ) (entries : List ℤ) (judged : Verdict) → (judged ≡ Ok tt → vector_refusal kind n entries ≡ Ok tt)
    → (before after : List ℕ) (count : ℕ) → outcome (Ok count) after ≡ delivered judged (sheet_bytes kind n entries) before
    → sheet_of (take count after) ≡ found (sheet kind n entries) count
sheet_as_before kind n entries judged passes before after count e =
    let m = given judged (sheet_bytes kind n entries) before after count e in
    ap sheet_of m.front ∙ sheet_read_lem kind n entries (passes m.accepted) ∙ ap (λ (end : ℕ). found (sheet kind n entries) end) (sym m.counted)

-- so is what the call with the kind as a number left, which C had
pub numbered_as_before : (number n : ℕ) (entries : List ℤ) (before after : List ℕ) (count : ℕ)
    → outcome (Ok count) after ≡ delivered (kind_refusal number (vector_refusal (kind_of number) n entries)) (sheet_bytes (kind_of number) n entries) before
    → sheet_of (take count after) ≡ found (sheet (kind_of number) n entries) count
numbered_as_before number n entries =
    sheet_as_before (kind_of number) n entries (kind_refusal number (vector_refusal (kind_of number) n entries)) (λ passed. (refuse_accepted (not (is_kind number)) WrongKind 0 _ passed).1)

-- and the one with a vector in a struct, which has all its cells
pub held_as_before : (vector : Vector) → length vector.entries ≡ most_entries → (before after : List ℕ) (count : ℕ)
    → outcome (Ok count) after ≡ delivered (struct_refusal vector) (sheet_bytes vector.kind vector.n (entries_of vector)) before
    → sheet_of (take count after) ≡ found (sheet vector.kind vector.n (entries_of vector)) count
held_as_before vector all =
    sheet_as_before vector.kind vector.n (entries_of vector) (struct_refusal vector) (λ passed. held_same vector all passed ∙ passed)

-- ---- read after save

module _ (kind : Kind) (n : ℕ) (entries : List ℤ) (accepted : vector_refusal kind n entries ≡ Ok tt) where
  -- what is saved by name is read as the vector of that kind
  pub named_read : (target : Kind)
      → sheet_of (sheet_as target kind n entries) ≡ found (sheet target n (converted target kind n entries)) (length (sheet_as target kind n entries))
  named_read target = sheet_read_lem target n (converted target kind n entries) (conversion_accepted kind n entries accepted target)

  -- which has the same path counts
  pub same_counts : (target : Kind) (j : ℕ) → j ≤ n → counts_of target n (converted target kind n entries) j ≡ counts_of kind n entries j
  same_counts target = counts_back target n (counts_of kind n entries) (accepted_vector kind n entries accepted).counts.none

  -- so a tail that is saved is read as the signature
  pub saved_read : sheet_of (saved_sheet kind n entries) ≡ found (sheet (saved_kind kind) n (converted (saved_kind kind) kind n entries)) (length (saved_sheet kind n entries))
  saved_read = named_read (saved_kind kind)

  -- and any other vector as it was
  pub saved_read_own : (kind ≡ Tail → ⊥) → sheet_of (saved_sheet kind n entries) ≡ found (sheet kind n entries) (length (saved_sheet kind n entries))
  saved_read_own other =
      let same : saved_sheet kind n entries ≡ sheet_bytes kind n entries = saved_own kind n entries other accepted in
      ap sheet_of same ∙ sheet_read_lem kind n entries accepted ∙ ap (λ (bytes : List ℕ). found (sheet kind n entries) (length bytes)) (sym same)

-- ---- save after read

-- whoever read it, into a struct or into lent cells: a sheet is saved as the very bytes that it was read from, and a tail as the signature
module _ (bytes : List ℕ) (narrow : Bytes bytes) (n : ℕ) (entries : List ℤ) (end : ℕ) (buffer : List ℕ) where
  pub sheet_saved : (kind : Kind) → sheet_of bytes ≡ found (sheet kind n entries) end → (kind ≡ Tail → ⊥)
      → delivered (vector_refusal kind n entries) (saved_sheet kind n entries) buffer ≡ delivered (Ok tt) bytes buffer
  sheet_saved kind read other =
      let form = sheet_form bytes narrow kind n entries end read in
      ap₂ (λ (v : Verdict) (l : List ℕ). delivered v l buffer) form.1 (saved_own kind n entries other form.1 ∙ form.0)

  pub tail_sheet_saved : sheet_of bytes ≡ found (sheet Tail n entries) end
      → delivered (vector_refusal Tail n entries) (saved_sheet Tail n entries) buffer ≡ delivered (Ok tt) (sheet_as Signature Tail n entries) buffer
  tail_sheet_saved read =
      ap (λ (v : Verdict). delivered v (saved_sheet Tail n entries) buffer) (sheet_form bytes narrow Tail n entries end read).1

-- a struct whose length is that of its entries is judged as they are
held_entries : (vector : Vector) → length (entries_of vector) ≡ vector.length → struct_refusal vector ≡ vector_refusal vector.kind vector.n (entries_of vector)
unfolding struct_refusal vector_refusal
held_entries vector counted =
    ap (λ (k : ℕ). part_count_refusal 0 vector.n (refuse (not (eqb k (length_of vector.kind vector.n))) WrongVectorLength 0 (counts_refusal vector.kind vector.n (entries_of vector))))
    (sym counted)

-- from struct to struct, where a vector is read
module _ (bytes buffer : List ℕ) (narrow : Bytes bytes) (vector : Vector) (accepted : sheet_read (sheet_of bytes) ≡ Ok vector) where
  read : GivenAs (sheet_of bytes) vector
  read = sheet_given (sheet_of bytes) vector (sym accepted)

  same : struct_refusal vector ≡ vector_refusal vector.kind vector.n (entries_of vector)
  same = held_entries vector read.counted

  -- what is read is saved as the very bytes that it was read from, unless it is a tail
  pub read_saved : (vector.kind ≡ Tail → ⊥)
      → delivered (struct_refusal vector) (saved_sheet vector.kind vector.n (entries_of vector)) buffer ≡ delivered (Ok tt) bytes buffer
  read_saved other =
      ap (λ (v : Verdict). delivered v (saved_sheet vector.kind vector.n (entries_of vector)) buffer) same
      ∙ sheet_saved bytes narrow vector.n (entries_of vector) read.end buffer vector.kind read.given other

  -- a tail that is read is saved as the signature sheet, and reading that gives the same path counts
  pub record SavedTail : Type 0 where
    pub saved : delivered (struct_refusal vector) (saved_sheet vector.kind vector.n (entries_of vector)) buffer
        ≡ delivered (Ok tt) (sheet_as Signature Tail vector.n (entries_of vector)) buffer
    pub again : sheet_of (sheet_as Signature Tail vector.n (entries_of vector))
        ≡ found (sheet Signature vector.n (converted Signature Tail vector.n (entries_of vector))) (length (sheet_as Signature Tail vector.n (entries_of vector)))
    pub counts : (j : ℕ) → j ≤ vector.n → counts_of Signature vector.n (converted Signature Tail vector.n (entries_of vector)) j ≡ counts_of Tail vector.n (entries_of vector) j

  pub tail_saved : vector.kind ≡ Tail → SavedTail
  tail_saved tail =
      let given : sheet_of bytes ≡ found (sheet Tail vector.n (entries_of vector)) read.end =
      read.given ∙ ap (λ (kind : Kind). found (sheet kind vector.n (entries_of vector)) read.end) tail in
      let right : vector_refusal Tail vector.n (entries_of vector) ≡ Ok tt = (sheet_form bytes narrow Tail vector.n (entries_of vector) read.end given).1 in
      record {
        saved =
            ap₂ (λ (v : Verdict) (kind : Kind). delivered v (saved_sheet kind vector.n (entries_of vector)) buffer)
            (same ∙ ap (λ (kind : Kind). vector_refusal kind vector.n (entries_of vector)) tail) tail
            ∙ tail_sheet_saved bytes narrow vector.n (entries_of vector) read.end buffer given;
        again = named_read Tail vector.n (entries_of vector) right Signature;
        counts = same_counts Tail vector.n (entries_of vector) right Signature;
      }
