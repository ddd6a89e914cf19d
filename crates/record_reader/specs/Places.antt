-- Which set stands at a place of a record, and the sets that a reader meets from a place on. What stands there is read as a set, also behind the
-- last set of a record of edition 2, where other numbers stand (02, §8).
use Rattle.std.specs.Prelude.{List, [], ◌∷◌, ℕ, zero, suc, Option, Some, None}
use Rattle.codec.specs.declared.Field.TheVariants as field
use Rattle.codec.specs.Reads.{Read, found, refused}
use Rattle.codec.specs.Reading.{number_at}
use Rattle.codec.specs.declared.Standing.{Standing}

-- How what is read at a place is answered: a set, with the place where the next one starts; or none, where 21 or 22 refuses the number.
abbrev pub here : ℕ → ℕ → Option (Standing ℕ)
here set next = Some (record { value = set; next = next })

abbrev pub found_of : Read ℕ → Option (Standing ℕ)
found_of (found set next) = here set next
found_of (refused refusal) = None

-- the set at that place of the record: a number of the field of sets
unfoldable pub set_at : List ℕ → ℕ → Option (Standing ℕ)
set_at bytes offset = found_of (number_at bytes offset field.Set)

-- the sets that a reader meets, from what it finds on and in at most so many moves
abbrev pub met_from : ℕ → List ℕ → Option (Standing ℕ) → List ℕ
met_from zero bytes there = []
met_from (suc more) bytes None = []
met_from (suc more) bytes (Some there) = there.value ∷ met_from more bytes (set_at bytes there.next)
