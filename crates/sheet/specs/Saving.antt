-- Which sheet a vector is saved as (02, §11): tails are read and no longer written.
use Rattle.std.specs.Prelude.{List, ◌⊎◌, ◌≡◌, ℕ, eqb, ℤ, get_or}
use Rattle.answer.specs.Outcome.{refuse, Verdict}
use Rattle.answer.specs.declared.Reason.TheVariants.{TailSheet}
use Rattle.vector_conversion.specs.Vectors.{converted}
use Rattle.vector_kind.specs.declared.Kind.{Kind}
use Rattle.vector_kind.specs.declared.Kind.TheVariants.{PathCounts, Tail, Signature, Domination}
use Rattle.sheet.specs.Sheets.{sheet_bytes}

-- the sheet of a kind that has a vector's path counts: the vector converted to that kind
abbrev pub sheet_as : Kind → Kind → ℕ → List ℤ → List ℕ
sheet_as target kind n entries = sheet_bytes target n (converted target kind n entries)

-- the kind that saving writes: the vector's own, and the signature for a tail
abbrev pub saved_kind : Kind → Kind
saved_kind PathCounts = PathCounts
saved_kind Tail = Signature
saved_kind Signature = Signature
saved_kind Domination = Domination

-- what saving a vector writes
abbrev pub saved_sheet : Kind → ℕ → List ℤ → List ℕ
saved_sheet kind n entries = sheet_as (saved_kind kind) kind n entries

-- the kind to write, where it is named: 34 for the tail, at place 0, before every other check
abbrev pub tail_sheet_refusal : ℕ → Verdict → Verdict
tail_sheet_refusal target later = refuse (eqb target 2) TailSheet 0 later

-- bytes that begin with the number of a kind that is written: 1, 3 or 4
abbrev pub WrittenKindFirst : List ℕ → Type 0
WrittenKindFirst bytes = (get_or bytes 0 0 ≡ 1) ⊎ ((get_or bytes 0 0 ≡ 3) ⊎ (get_or bytes 0 0 ≡ 4))
