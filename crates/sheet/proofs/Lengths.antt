-- The byte form of no accepted vector is longer than 155 bytes: one for the kind, one for n and nine for each of 17 entries. Assumes nothing.
use mathlib.Core.Path.{◌≡◌}
use mathlib.Core.List.{List, ◌++◌, map}
use Prim.Native.Nat.{ℕ, ◌≤◌}
use native.Mathlib.Omega.{arith}
use lib.IntN.{ℤ}
use lib.ListN.{length, length-append, length-map}
use Rattle.std.specs.Prelude.{Ok}
use Rattle.codec.specs.declared.Field.TheVariants as field
use Rattle.codec.specs.ByteForm.{bytes_of, forms_of}
use Rattle.codec.proofs.ByteForms.{bytes_at_most}
use Rattle.codec.proofs.FieldReads.{forms_allowed}
use Rattle.vector_kind.specs.Kinds.{kind_number}
use Rattle.vector_kind.specs.declared.Kind.{Kind}
use Rattle.vector_conversion.specs.Vectors.{vector_refusal}
use Rattle.vector_conversion.proofs.Acceptance.{accepted_vector}
use Rattle.sheet.specs.Sheets.{coded, entry_bytes, sheet_bytes}
use Rattle.sheet.proofs.Codes.{kind_few, length_few}
use Rattle.sheet.proofs.Bounds.{accepted_fitting, fitting_allowed}

pub written_longest : (kind : Kind) (n : ℕ) (entries : List ℤ) → vector_refusal kind n entries ≡ Ok tt → length (sheet_bytes kind n entries) ≤ 155
unfolding sheet_bytes entry_bytes
written_longest kind n entries accepted =
    let a = accepted_vector kind n entries accepted in
    let numbers : List ℕ = map (coded kind) entries in
    let one = bytes_at_most 1 (kind_number kind) (omega arith) (omega (arith, kind_few kind)) in
    let two = bytes_at_most 1 n (omega arith) (omega (arith, a.few)) in
    let all = forms_allowed field.Sheet numbers (fitting_allowed kind entries (accepted_fitting kind n entries accepted)) in
    omega (
      arith,
      length-map entries (coded kind),
      a.long,
      length_few kind n a.few,
      length-append (bytes_of n) (forms_of numbers),
      length-append (bytes_of (kind_number kind)) (bytes_of n ++ forms_of numbers),
    )
