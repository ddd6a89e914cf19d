-- Vector sheets (01, "Records on disk" and "Where each refusal is found"): kind, n, entries, each a number in groups of seven bits.
use Rattle.answer.specs.Outcome.{Verdict}
use Rattle.std.specs.Prelude.{cond, List, [], ◌++◌, map, ℕ, ◌+◌, ◌*◌, ◌/◌, ◌%◌, eqb, ℤ, pos, negsuc, nat_abs, Ok}
use Rattle.answer.specs.Checks.{part_count_refusal}
use Rattle.codec.specs.ByteForm.{bytes_of, forms_of}
use Rattle.codec.specs.declared.Field.TheVariants as field
use Rattle.codec.specs.Reads.{Read, found, then, unless, alone}
use Rattle.codec.specs.FieldReads.{field_at, any_number, fields_at}
use Rattle.vector_kind.specs.Kinds.{kind_number, length_of, kind_of, kind_refusal}
use Rattle.vector_conversion.specs.Vectors.{counts_refusal}
use Rattle.vector_kind.specs.declared.Kind.{Kind}
use Rattle.vector_kind.specs.declared.Kind.TheVariants.{PathCounts, Tail, Signature, Domination}

-- ---- a sheet's bytes

-- An entry as it is written: itself; of a domination 2v, or -2v-1 when negative, which for v = -(w+1) is 2w+1.
abbrev pub coded : Kind → ℤ → ℕ
coded Domination (pos v) = 2 * v
coded Domination (negsuc w) = 2 * w + 1
coded PathCounts z = nat_abs z
coded Tail z = nat_abs z
coded Signature z = nat_abs z

-- the entry that a number stands for
abbrev pub decoded : Kind → ℕ → ℤ
decoded Domination u = cond (eqb (u % 2) 0) (pos (u / 2)) (negsuc (u / 2))
decoded PathCounts u = pos u
decoded Tail u = pos u
decoded Signature u = pos u

-- entries one after the other
unfoldable pub entry_bytes : Kind → List ℤ → List ℕ
entry_bytes kind entries = forms_of (map (coded kind) entries)

unfoldable pub sheet_bytes : Kind → ℕ → List ℤ → List ℕ
sheet_bytes kind n entries = bytes_of (kind_number kind) ++ (bytes_of n ++ entry_bytes kind entries)

-- ---- what bytes stand for

-- a vector as a sheet holds it
pub record Sheet : Type 0 where
  pub kind : Kind
  pub n : ℕ
  pub entries : List ℤ

abbrev pub sheet : Kind → ℕ → List ℤ → Sheet
sheet kind n entries = record { kind = kind; n = n; entries = entries }

-- the kind's number: 26, at place 0
abbrev pub kind_judged : ℕ → Verdict
kind_judged number = kind_refusal number (Ok tt)

-- n: 1, at place 0
abbrev pub parts_judged : ℕ → Verdict
parts_judged n = part_count_refusal 0 n (Ok tt)

-- so many entries from a position on; 21 and 22 alone refuse one
unfoldable pub entries_at : List ℕ → Kind → ℕ → ℕ → Read (List ℤ)
entries_at bytes kind count start =
    then (fields_at bytes field.Sheet any_number count [] start) (λ numbers end. found (map (decoded kind) numbers) end)

-- Kind and n are read first; 26 comes before n, 1 is at place 0, 25 after the last entry, and then 13 and 14.
unfoldable pub sheet_of : List ℕ → Read Sheet
sheet_of bytes =
    then (field_at bytes 0 field.Sheet kind_judged) (λ number next.
    then (field_at bytes next field.Sheet parts_judged) (λ n start.
    then (entries_at bytes (kind_of number) (length_of (kind_of number) n) start) (λ entries end.
    then (alone bytes entries end) (λ all last.
    unless (counts_refusal (kind_of number) n all) (found (sheet (kind_of number) n all) last)))))
