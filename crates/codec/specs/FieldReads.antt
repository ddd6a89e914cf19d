-- Numbers of a field, each judged as it is read (01, "Records on disk"): one, and so many one after the other.
use Rattle.answer.specs.Outcome.{Verdict}
use Rattle.std.specs.Prelude.{List, [], ◌∷◌, ◌++◌, ℕ, zero, suc, Ok}
use Rattle.codec.specs.Reads.{Read, found, refused, then, unless}
use Rattle.codec.specs.Reading.{number_at}
use Rattle.codec.specs.declared.Field.{Field}

-- a number that is read, and the checks of its field on it
abbrev pub judged : (ℕ → Verdict) → Read ℕ → Read ℕ
judged refusal (found value next) = unless (refusal value) (found value next)
judged refusal (refused why) = refused why

-- the number of a field at that position: 21 and 22, and then the checks of the field
unfoldable pub field_at : List ℕ → ℕ → Field → (ℕ → Verdict) → Read ℕ
field_at bytes start field refusal = judged refusal (number_at bytes start field)

-- the checks of a number that stands behind others: by the earlier numbers, the place of its first byte and itself
abbrev pub Judge : Type 0
Judge = List ℕ → ℕ → ℕ → Verdict

-- no check of its own
abbrev pub any_number : Judge
any_number earlier place number = (Ok tt)

-- so many numbers of a field more, behind the earlier ones
unfoldable pub fields_at : List ℕ → Field → Judge → ℕ → List ℕ → ℕ → Read (List ℕ)
fields_at bytes field judge zero earlier start = found earlier start
fields_at bytes field judge (suc more) earlier start =
    then (field_at bytes start field (judge earlier start)) (λ number next.
    fields_at bytes field judge more (earlier ++ (number ∷ [])) next)
