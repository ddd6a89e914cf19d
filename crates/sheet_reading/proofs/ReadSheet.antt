-- The byte form of an accepted vector, of each of the four kinds, is read as that vector. Assumes nothing.
use mathlib.Core.Path.{◌≡◌, refl, sym, ap, ap₂, ◌∙◌}
use mathlib.Core.Bool.{not}
use mathlib.Core.List.{List, [], ◌∷◌, ◌++◌, append-nil, map}
use Prim.Native.Nat.{ℕ, suc, ◌+◌}
use native.Mathlib.Nat.{le_trans, le_of_eq}
use native.Mathlib.Omega.{arith}
use lib.Dec.{eqb}
use lib.IntN.{ℤ}
use lib.ListN.{length, drop, length-append, length-map}
use borrow.Author.Tests.{le-ltb}
use Rattle.std.specs.Prelude.{Ok}
use Rattle.answer.specs.declared.Reason.TheVariants.{WrongVectorLength, WrongKind}
use Rattle.answer.proofs.Outcomes.{refuse_accepted, refuse_passed}
use Rattle.answer.proofs.Checks.{parts_passed, parts_right}
use Rattle.codec.specs.ByteForm.{bytes_of, forms_of}
use Rattle.codec.specs.declared.Field.TheVariants as field
use Rattle.codec.specs.Reads.{Read, found, then}
use Rattle.codec.specs.FieldReads.{field_at, any_number, fields_at}
use Rattle.codec.proofs.Found.{behind, field_read}
use Rattle.codec.proofs.FieldReads.{Follow, fields_read}
use Rattle.vector_kind.specs.Kinds.{kind_number, length_of, kind_of}
use Rattle.vector_conversion.specs.Vectors.{counts_refusal, vector_refusal}
use Rattle.vector_kind.specs.declared.Kind.{Kind}
use Rattle.vector_conversion.specs.Accepted.{AcceptedVector}
use Rattle.vector_conversion.proofs.Acceptance.{accepted_vector}
use Rattle.vector_kind.proofs.KindNumbers.{kind_back, kind_is_one}
use Rattle.sheet.proofs.Codes.{kind_few}
use Rattle.sheet.proofs.Bounds.{Fitting, accepted_fitting, fitting_allowed}
use Rattle.sheet_reading.specs.Inside.{ended, entered, kinded}
use Rattle.sheet.specs.Sheets.{coded, decoded, entry_bytes, sheet_bytes, sheet, kind_judged, parts_judged, entries_at, sheet_of}

-- ---- entries

-- entries that have a place on a sheet come back from their numbers, which the field allows
module _ (kind : Kind) where
  fitting_back : (entries : List ℤ) → Fitting kind entries → map (decoded kind) (map (coded kind) entries) ≡ entries
  fitting_back [] fits = refl
  fitting_back (entry ∷ entries) fits = ap₂ (λ (z : ℤ) (l : List ℤ). z ∷ l) (fits 0 (omega arith)).0 (fitting_back entries (λ k h. fits (suc k) (omega arith)))

any_follow : (earlier numbers : List ℕ) → Follow any_number earlier numbers
any_follow earlier [] = tt
any_follow earlier (v ∷ numbers) = (λ place. refl, any_follow (earlier ++ (v ∷ [])) numbers)

entries_read_lem : (bytes : List ℕ) (kind : Kind) (entries : List ℤ) (start : ℕ) → drop start bytes ≡ entry_bytes kind entries → Fitting kind entries
    → entries_at bytes kind (length entries) start ≡ found entries (start + length (entry_bytes kind entries))
unfolding entries_at entry_bytes
entries_read_lem bytes kind entries start e fits =
    let numbers : List ℕ = map (coded kind) entries in
    let read : fields_at bytes field.Sheet any_number (length entries) [] start ≡ found numbers (start + length (forms_of numbers)) =
    ap (λ (k : ℕ). fields_at bytes field.Sheet any_number k [] start) (sym (length-map entries (coded kind)))
    ∙ fields_read bytes field.Sheet any_number numbers [] start [] (fitting_allowed kind entries fits) (any_follow [] numbers) (e ∙ sym (append-nil (forms_of numbers))) in
    ap (λ (r : Read (List ℕ)). then r (λ found-numbers end. found (map (decoded kind) found-numbers) end)) read
    ∙ ap (λ (l : List ℤ). found l (start + length (forms_of numbers))) (fitting_back kind entries fits)

-- ---- the steps of a sheet's reading

pub sheet_steps : (bytes : List ℕ) → sheet_of bytes ≡ then (field_at bytes 0 field.Sheet kind_judged) (λ number next. kinded bytes (kind_of number) next)
unfolding sheet_of
sheet_steps bytes = refl

-- ---- the byte form of an accepted vector

counts_accepted : (kind : Kind) (n : ℕ) (entries : List ℤ) → vector_refusal kind n entries ≡ Ok tt → counts_refusal kind n entries ≡ Ok tt
unfolding vector_refusal
counts_accepted kind n entries h =
    (refuse_accepted (not (eqb (length entries) (length_of kind n))) WrongVectorLength 0 (counts_refusal kind n entries) (parts_right 0 n _ h).2).1

-- with entries that have a place on a sheet
fitting_read : (kind : Kind) (n : ℕ) (entries : List ℤ) → vector_refusal kind n entries ≡ Ok tt → Fitting kind entries
    → sheet_of (sheet_bytes kind n entries) ≡ found (sheet kind n entries) (length (sheet_bytes kind n entries))
unfolding sheet_bytes
fitting_read kind n entries accepted fits =
    sheet_steps bytes
    ∙ ap (λ (r : Read ℕ). then r (λ number next. kinded bytes (kind_of number) next))
    (field_read bytes 0 field.Sheet kind_judged (kind_number kind) rest refl (le_trans (kind_few kind) (omega arith)) (refuse_passed _ WrongKind 0 (Ok tt) (ap not (kind_is_one kind))))
    ∙ ap (λ (k : Kind). kinded bytes k first) (kind_back kind)
    ∙ ap (λ (r : Read ℕ). then r (entered bytes kind))
    (field_read bytes first field.Sheet parts_judged n (entry_bytes kind entries) after (le_trans a.few (omega arith)) (parts_passed 0 n (Ok tt) a.some a.few))
    ∙ ap (λ (m : ℕ). then (entries_at bytes kind m second) (ended bytes kind n)) (sym a.long)
    ∙ ap (λ (r : Read (List ℤ)). then r (ended bytes kind n)) (entries_read_lem bytes kind entries second (behind bytes first (bytes_of n) (entry_bytes kind entries) after) fits)
    ∙ ap (λ (end : ℕ). ended bytes kind n entries end) (sym all)
    ∙ simp (le-ltb (length bytes) (length bytes) (le_of_eq refl), counts_accepted kind n entries accepted)
  where
    a : AcceptedVector kind n entries
    a = accepted_vector kind n entries accepted

    rest : List ℕ
    rest = bytes_of n ++ entry_bytes kind entries

    bytes : List ℕ
    bytes = bytes_of (kind_number kind) ++ rest

    first : ℕ
    first = 0 + length (bytes_of (kind_number kind))

    second : ℕ
    second = first + length (bytes_of n)

    after : drop first bytes ≡ rest
    after = behind bytes 0 (bytes_of (kind_number kind)) rest refl

    all : length bytes ≡ second + length (entry_bytes kind entries)
    all = omega (arith, length-append (bytes_of (kind_number kind)) rest, length-append (bytes_of n) (entry_bytes kind entries))

-- the byte form of an accepted vector is read as that vector
pub sheet_read_lem : (kind : Kind) (n : ℕ) (entries : List ℤ) → vector_refusal kind n entries ≡ Ok tt
    → sheet_of (sheet_bytes kind n entries) ≡ found (sheet kind n entries) (length (sheet_bytes kind n entries))
sheet_read_lem kind n entries accepted = fitting_read kind n entries accepted (accepted_fitting kind n entries accepted)
