-- The four kinds of vectors, each with its own number and length (01, "Vector sheets").
use Rattle.std.specs.Prelude.{Bool, not, cond, ◌&&◌, ℕ, ◌+◌, leb, ltb, eqb, Result, Ok, Err}
use Rattle.answer.specs.Outcome.{at, refuse, Verdict}
use Rattle.answer.specs.declared.Refusal.{Refusal}
use Rattle.answer.specs.declared.Reason.TheVariants.{WrongKind}
use Rattle.vector_kind.specs.declared.Kind.{Kind}
use Rattle.vector_kind.specs.declared.Kind.TheVariants.{PathCounts, Tail, Signature, Domination}

-- the kind's own number
abbrev pub kind_number : Kind → ℕ
kind_number PathCounts = 1
kind_number Tail = 2
kind_number Signature = 3
kind_number Domination = 4

-- the signature has n entries, N(1) first; the others have n + 1, index 0 first
abbrev pub length_of : Kind → ℕ → ℕ
length_of PathCounts n = n + 1
length_of Tail n = n + 1
length_of Signature n = n
length_of Domination n = n + 1

-- the number of a vector's entries where n is at most 16, and else 0
abbrev pub entry_count : Kind → ℕ → ℕ
entry_count kind n = cond (ltb 16 n) 0 (length_of kind n)

-- a number is a kind's
abbrev pub is_kind : ℕ → Bool
is_kind number = leb 1 number && leb number 4

-- the kind of a number, and path counts where it is no kind's
unfoldable pub kind_of : ℕ → Kind
kind_of number = cond (eqb number 2) Tail (cond (eqb number 3) Signature (cond (eqb number 4) Domination PathCounts))

-- a kind that comes as a number, before n: 26
abbrev pub kind_refusal : ℕ → Verdict → Verdict
kind_refusal number later = refuse (not (is_kind number)) WrongKind 0 later

-- the kind of a number, and 26 where it is no kind's
abbrev pub kind_named : ℕ → Result Kind Refusal
kind_named number = cond (is_kind number) (Ok (kind_of number)) (Err (at WrongKind 0))
