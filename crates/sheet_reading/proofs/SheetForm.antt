-- The bytes that are read as a vector are that vector's byte form, and the vector is accepted. So each accepted vector has exactly one byte form.
-- Assumes nothing.
use mathlib.Core.Path.{◌≡◌, refl, sym, ap, ap₂, ◌∙◌, subst}
use mathlib.Core.Bool.{not, false}
use mathlib.Core.List.{List, [], ◌∷◌, ◌++◌, append-nil, map}
use Prim.Native.Nat.{ℕ, ◌≤◌}
use lib.IntN.{ℤ}
use lib.ListN.{length, drop, drop_of_length-le, length-map}
use borrow.Author.Tests.{eq-eqb, not-false}
use Rattle.std.specs.Prelude.{Ok}
use Rattle.answer.specs.declared.Reason.TheVariants.{WrongVectorLength, WrongKind}
use Rattle.answer.proofs.Outcomes.{refuse_accepted, refuse_passed}
use Rattle.answer.proofs.Checks.{parts_passed, parts_right}
use Rattle.codec.specs.ByteForm.{bytes_of, forms_of}
use Rattle.codec.specs.declared.Field.TheVariants as field
use Rattle.codec.specs.Reads.{found, unless, alone}
use Rattle.codec.specs.FieldReads.{field_at, any_number, fields_at}
use Rattle.codec.specs.Bytes.{Bytes}
use Rattle.codec.proofs.Found.{then_found, unless_found, alone_found, field_found}
use Rattle.codec.proofs.FieldReads.{fields_found}
use Rattle.vector_kind.specs.Kinds.{kind_number, length_of, is_kind, kind_of}
use Rattle.vector_conversion.specs.Vectors.{counts_refusal, vector_refusal}
use Rattle.vector_kind.specs.declared.Kind.{Kind}
use Rattle.sheet.specs.Sheets.{coded, decoded, entry_bytes, sheet_bytes, Sheet, sheet, kind_judged, parts_judged, entries_at, sheet_of}
use Rattle.sheet.proofs.Codes.{number_back, coded_decoded}
use Rattle.sheet_reading.specs.Inside.{ended, entered, kinded}
use Rattle.sheet_reading.proofs.ReadSheet.{sheet_steps}

-- ---- the entries of a given sheet

-- the numbers of entries that numbers stand for are these numbers
numbers_back : (kind : Kind) (numbers : List ℕ) → map (coded kind) (map (decoded kind) numbers) ≡ numbers
numbers_back kind [] = refl
numbers_back kind (v ∷ numbers) = ap₂ (λ (x : ℕ) (l : List ℕ). x ∷ l) (coded_decoded kind v) (numbers_back kind numbers)

module _ (bytes : List ℕ) (narrow : Bytes bytes) where
  record EntriesForm (kind : Kind) (count start : ℕ) (entries : List ℤ) (end : ℕ) : Type 0 where
    long : length entries ≡ count
    form : drop start bytes ≡ entry_bytes kind entries ++ drop end bytes

  entries_form : (kind : Kind) (count start : ℕ) (entries : List ℤ) (end : ℕ) → start ≤ length bytes → entries_at bytes kind count start ≡ found entries end → EntriesForm kind count start entries end
  unfolding entries_at entry_bytes
  entries_form kind count start entries end h e =
      let a = then_found (fields_at bytes field.Sheet any_number count [] start) _ entries end e in
      let numbers : List ℕ = a.0 in
      let r = fields_found bytes field.Sheet any_number (λ earlier place other number passed. passed) count [] start numbers a.1 narrow h a.2 in
      let same : map (decoded kind) numbers ≡ entries = cc a.3 in
      let ends : a.1 ≡ end = cc a.3 in
      let back : map (coded kind) entries ≡ r.rest = ap (map (coded kind)) (sym same) ∙ numbers_back kind numbers ∙ r.behind_earlier in
      record {
        long = sym (ap length same) ∙ length-map numbers (decoded kind) ∙ ap length r.behind_earlier ∙ r.counted;
        form = r.stands.stands ∙ ap₂ (λ (l : List ℕ) (k : ℕ). forms_of l ++ drop k bytes) (sym back) ends;
      }

  -- ---- a given sheet

  pub sheet_form : (kind : Kind) (n : ℕ) (entries : List ℤ) (end : ℕ) → sheet_of bytes ≡ found (sheet kind n entries) end
      → (sheet_bytes kind n entries ≡ bytes) × (vector_refusal kind n entries ≡ Ok tt)
  unfolding sheet_bytes vector_refusal
  sheet_form kind n entries end e =
      let s : Sheet = sheet kind n entries in
      let one = then_found (field_at bytes 0 field.Sheet kind_judged) (λ number next. kinded bytes (kind_of number) next) s end (sym (sheet_steps bytes) ∙ e) in
      let number : ℕ = one.0 in
      let k : Kind = kind_of number in
      let two = then_found (field_at bytes one.1 field.Sheet parts_judged) (entered bytes k) s end one.3 in
      let m : ℕ = two.0 in
      let three = then_found (entries_at bytes k (length_of k m) two.1) (ended bytes k m) s end two.3 in
      let four = then_found (alone bytes three.0 three.1) (λ all last. unless (counts_refusal k m all) (found (sheet k m all) last)) s end three.3 in
      let last = alone_found bytes three.0 three.1 four.0 four.1 four.2 in
      let right = unless_found (counts_refusal k m four.0) (found (sheet k m four.0) four.1) s end four.3 in
      let first = field_found bytes 0 field.Sheet kind_judged number one.1 narrow one.2 in
      let second = field_found bytes one.1 field.Sheet parts_judged m two.1 narrow two.2 in
      let body = entries_form k (length_of k m) two.1 three.0 three.1 second.stands.inside three.2 in
      let nothing : drop three.1 bytes ≡ [] = drop_of_length-le bytes (subst (λ (i : ℕ). length bytes ≤ i) (sym last.1) last.2) in
      let list : List ℤ = three.0 in
      whole number m list one.1 two.1 (refuse_accepted _ WrongKind 0 (Ok tt) first.passed).0 first.stands.stands second.stands.stands
      (body.form ∙ ap (λ (x : List ℕ). entry_bytes k list ++ x) nothing ∙ append-nil (entry_bytes k list))
      (parts_passed 0 m _ (parts_right 0 m (Ok tt) second.passed).0 (parts_right 0 m (Ok tt) second.passed).1
      ∙ refuse_passed _ WrongVectorLength 0 _ (ap not (eq-eqb (length list) (length_of k m) body.long))
      ∙ ap (counts_refusal k m) last.0 ∙ right.0)
      (ap (sheet k m) last.0 ∙ cc right.1)
    where
      whole : (number m : ℕ) (list : List ℤ) (next start : ℕ) → not (is_kind number) ≡ false
          → bytes ≡ bytes_of number ++ drop next bytes → drop next bytes ≡ bytes_of m ++ drop start bytes
          → drop start bytes ≡ entry_bytes (kind_of number) list → vector_refusal (kind_of number) m list ≡ Ok tt → sheet (kind_of number) m list ≡ sheet kind n entries
          → (sheet_bytes kind n entries ≡ bytes) × (vector_refusal kind n entries ≡ Ok tt)
      whole number m list next start known front middle back accepted same = (
        ap (λ (s : Sheet). bytes_of (kind_number s.kind) ++ (bytes_of s.n ++ entry_bytes s.kind s.entries)) (sym same)
            ∙ ap (λ (x : ℕ). bytes_of x ++ (bytes_of m ++ entry_bytes (kind_of number) list)) (number_back number (not-false (is_kind number) known))
            ∙ ap (λ (x : List ℕ). bytes_of number ++ (bytes_of m ++ x)) (sym back)
            ∙ ap (λ (x : List ℕ). bytes_of number ++ x) (sym middle) ∙ sym front,
        subst (λ (s : Sheet). vector_refusal s.kind s.n s.entries ≡ Ok tt) same accepted,
      )
