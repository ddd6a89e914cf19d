-- How a number is written (01, "Records on disk").
use Rattle.std.specs.Prelude.{true, false, List, [], ◌∷◌, ◌++◌, ℕ, zero, suc, ◌+◌, ◌/◌, ◌%◌, ltb}

-- Groups of seven bits, lowest first: a number below 128 is its own last group, and any other has its lowest seven bits, with bit 7 set, and
-- then the groups of what is left. At most `more` of them follow the first.
unfoldable pub grouped : ℕ → ℕ → List ℕ
grouped zero value = value ∷ []
grouped (suc more) value =
    elim (ltb value 128) [ true ↦ value ∷ [] | false ↦ (value % 128 + 128) ∷ grouped more (value / 128) ]

-- the byte form of a number: 300 is AC 02. Its own value is more than enough for the groups that follow the first.
unfoldable pub bytes_of : ℕ → List ℕ
bytes_of value = grouped value value

-- numbers one after the other
unfoldable pub forms_of : List ℕ → List ℕ
forms_of [] = []
forms_of (number ∷ numbers) = bytes_of number ++ forms_of numbers
