-- "No edition 1 record begins with 00": every record that was accepted before there was a second edition reads as before, and where the numbers 0
-- and 2 do not stand in front, every refusal stays as well.
-- Assumes nothing.
use mathlib.Core.Path.{◌≡◌, refl, sym, ap, ap₂, ◌∙◌}
use mathlib.Core.Bool.{Bool, true, false, cond}
use mathlib.Core.List.{List, ◌∷◌, ◌++◌}
use Prim.Native.Nat.{ℕ, ◌+◌}
use native.Mathlib.Omega.{arith}
use borrow.Author.Tests.{le-ltb}
use lib.Dec.{ltb}
use lib.ListN.{length, drop}
use Rattle.answer.specs.Outcome.{at}
use Rattle.answer.specs.declared.Reason.TheVariants.{WrongPartCount, BytesLeft}
use Rattle.answer.specs.declared.Refusal.{Refusal}
use Rattle.codec.specs.declared.Field.TheVariants.{Count}
use Rattle.codec.specs.ByteForm.{bytes_of}
use Rattle.codec.specs.Reading.{number_at}
use Rattle.codec.specs.FieldReads.{judged, field_at}
use Rattle.codec.proofs.ByteForms.{bytes_small}
use Rattle.codec.proofs.ReadAfterWrite.{form_read}
use Rattle.codec.specs.Reads.{Read, found, refused, then, alone}
use Rattle.codec.specs.Bytes.{Bytes}
use Rattle.codec.proofs.Found.{then_found, alone_found}
use Rattle.record_head.specs.Headings.{parts_refusal}
use Rattle.record_head.proofs.PartNumbers.{parts_no_count}
use Rattle.record_head.proofs.Answers.{head_no_parts}
use Rattle.record.proofs.Answers.{record_no_head}
use Rattle.record.specs.Records.{DesignAt, record_at}
use Rattle.record.proofs.RoundTrip.{record_found}
use Rattle.record_editions.specs.Editions.{first, StoredAt, second_there, first_at, edition_at, stored_at, only_stored, whole_stored, body_of, only_record, former_only}
use Rattle.record_editions.proofs.RoundTrip.{first_there}

-- where the numbers 0 and 2 do not stand in front, nothing is read in another way
pub other_as_before : (bytes : List ℕ) → second_there bytes 0 ≡ false → only_record bytes ≡ former_only bytes
unfolding only_record only_stored stored_at former_only
other_as_before bytes other = ap (λ (b : Bool). body_of (then (edition_at b bytes 0) (alone bytes))) other ∙ cases (record_at bytes 0)
  where
    left : (over : Bool) (here : DesignAt) (next : ℕ) → body_of (cond over (refused (at BytesLeft next)) (first_at here next)) ≡ cond over (refused (at BytesLeft next)) (found here next)
    left true here next = refl
    left false here next = refl

    cases : (read : Read DesignAt) → body_of (then (then read first_at) (alone bytes)) ≡ then read (alone bytes)
    cases (refused why) = refl
    cases (found here next) = left (ltb next (length bytes)) here next

-- a record that was accepted is one of edition 1, of the same design, with its sets where they stood
pub accepted_as_before : (bytes : List ℕ) → Bytes bytes → (here : DesignAt) (next : ℕ) → former_only bytes ≡ found here next
    → only_stored bytes ≡ found (record { stored = first here.design; begin = here.begin; end = here.end }) next
unfolding only_stored stored_at former_only
accepted_as_before bytes small here next e =
    let a = then_found (record_at bytes 0) (alone bytes) here next e in
    let last = alone_found bytes a.0 a.1 here next a.3 in
    let read : record_at bytes 0 ≡ found here next = a.2 ∙ ap₂ (λ (x : DesignAt) (k : ℕ). found x k) last.0 last.1 in
    let r = record_found bytes 0 here next small read in
    ap (λ (b : Bool). then (edition_at b bytes 0) (alone bytes)) (first_there bytes 0 here.design (drop next bytes) r.rules r.stands.stands)
    ∙ ap (λ (f : Read DesignAt). then (then f first_at) (alone bytes)) read
    ∙ simp (le-ltb next (length bytes) last.2)

-- so it is read as that design, in edition 1
pub read_as_before : (bytes : List ℕ) → Bytes bytes → (here : DesignAt) (next : ℕ) → former_only bytes ≡ found here next → whole_stored bytes ≡ found (first here.design) next
unfolding whole_stored
read_as_before bytes small here next e = ap (λ (f : Read StoredAt). then f (λ there after. found there.stored after)) (accepted_as_before bytes small here next e)

-- "a first byte 00 without 02 as the next byte is refused as 1 at place 0": it is the number of parts
zero_read : (bytes : List ℕ) → field_at (0 ∷ bytes) 0 Count (parts_refusal 0) ≡ refused (at WrongPartCount 0)
unfolding field_at
zero_read bytes =
    let form : 0 ∷ bytes ≡ bytes_of 0 ++ bytes = ap (λ (l : List ℕ). l ++ bytes) (sym (bytes_small 0 (omega arith))) in
    let read : number_at (0 ∷ bytes) 0 Count ≡ found 0 (0 + length (bytes_of 0)) = form_read (0 ∷ bytes) 0 Count 0 bytes form in
    ap (judged (parts_refusal 0)) read

pub zero_first : (bytes : List ℕ) → second_there (0 ∷ bytes) 0 ≡ false → whole_stored (0 ∷ bytes) ≡ refused (at WrongPartCount 0)
unfolding whole_stored only_stored stored_at
zero_first bytes other =
    let why : Refusal = at WrongPartCount 0 in
    let none : record_at (0 ∷ bytes) 0 ≡ refused why = record_no_head (0 ∷ bytes) 0 why (head_no_parts (0 ∷ bytes) 0 why (parts_no_count (0 ∷ bytes) 0 why (zero_read bytes))) in
    rw (other, none) refl
