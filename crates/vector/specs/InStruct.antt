-- A vector in a struct: its kind beside its array of signed entries (01, "Vector sheets" and "Which places take which form").
use Rattle.std.specs.Prelude.{not, List, ◌++◌, ℕ, ◌-◌, eqb, ℤ, pos, length, take, replicate, Result, Ok, Err}
use Rattle.answer.specs.Outcome.{refuse, Verdict}
use Rattle.answer.specs.declared.Reason.TheVariants.{WrongVectorLength}
use Rattle.answer.specs.declared.Refusal.{Refusal}
use Rattle.answer.specs.Checks.{part_count_refusal}
use Rattle.vector_kind.specs.Kinds.{length_of}
use Rattle.vector_conversion.specs.Vectors.{counts_refusal, converted}
use Rattle.vector_kind.specs.declared.Kind.{Kind}
use Rattle.vector.specs.declared.Vector.{Vector}

-- the cells of a vector: the most entries that one can have
abbrev pub most_entries : ℕ
most_entries = 17

-- entries in front, and 0 in the spare cells behind them
abbrev pub entry_cells : List ℤ → List ℤ
entry_cells entries = entries ++ replicate (most_entries - length entries) (pos 0)

-- the vector that holds these entries, as every vector that the library makes
abbrev pub vector_holding : Kind → ℕ → List ℤ → Vector
vector_holding kind n entries = record { kind = kind; n = n; length = length entries; entries = entry_cells entries }

-- the entries of a vector: the first `length` cells, and the spare ones are not looked at
abbrev pub entries_of : Vector → List ℤ
entries_of vector = take vector.length vector.entries

-- the first refusal of a vector: 1, then 12 where its length is not the kind's, then 13 and 14
unfoldable pub struct_refusal : Vector → Verdict
struct_refusal vector =
    part_count_refusal 0 vector.n
    (refuse (not (eqb vector.length (length_of vector.kind vector.n))) WrongVectorLength 0
    (counts_refusal vector.kind vector.n (entries_of vector)))

-- a vector, or why there is none
abbrev pub given : Verdict → Vector → Result Vector Refusal
given (Err r) vector = Err r
given (Ok _) vector = Ok vector

-- the vector as one of another kind
abbrev pub struct_converted : Vector → Kind → Result Vector Refusal
struct_converted vector target =
    given (struct_refusal vector) (vector_holding target vector.n (converted target vector.kind vector.n (entries_of vector)))
