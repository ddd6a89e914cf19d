-- The steps of a sheet's reading, as the private functions take them: a reader of the promises may pass this file over.
use Rattle.std.specs.Prelude.{List, ℕ, ℤ}
use Rattle.codec.specs.declared.Field.TheVariants as field
use Rattle.codec.specs.Reads.{Read, found, then, unless, alone}
use Rattle.codec.specs.FieldReads.{field_at}
use Rattle.vector_kind.specs.Kinds.{length_of}
use Rattle.vector_conversion.specs.Vectors.{counts_refusal}
use Rattle.vector_kind.specs.declared.Kind.{Kind}
use Rattle.sheet.specs.Sheets.{Sheet, sheet, parts_judged, entries_at}

module _ (bytes : List ℕ) where
  -- behind the entries
  abbrev pub ended : Kind → ℕ → List ℤ → ℕ → Read Sheet
  ended kind n entries end = then (alone bytes entries end) (λ all last. unless (counts_refusal kind n all) (found (sheet kind n all) last))

  -- behind n
  abbrev pub entered : Kind → ℕ → ℕ → Read Sheet
  entered kind n start = then (entries_at bytes kind (length_of kind n) start) (ended kind n)

  -- behind the kind's number
  abbrev pub kinded : Kind → ℕ → Read Sheet
  kinded kind next = then (field_at bytes next field.Sheet parts_judged) (entered kind)
