-- A design named by its part numbers and not by positions.
use Rattle.std.specs.Prelude.{Bool, false, ◌||◌, ◌≡◌, ℕ, ◌-◌, get_or}
use mathlib.Core.List.{List, [], ◌∷◌, map, Memᴰ}
use Rattle.theory_sums.specs.Sums.{some}
use Rattle.record_numbers.specs.Numbering.{named, names}
use Rattle.record_parts.specs.PartLists.{numbers_of}
use Rattle.record_parts.specs.Lines.{In}
use Rattle.record.specs.Records.{Design}
use Rattle.record_lines.specs.Changes.{every}

-- the minimal sets of a design, each by its part numbers
abbrev pub named_sets : Design → List (List ℕ)
named_sets d = map (named (numbers_of d.parts)) d.sets

-- the number of the part at a position, from 1
abbrev pub part_number_at : Design → ℕ → ℕ
part_number_at d position = get_or (numbers_of d.parts) (position - 1) 0

-- some number stands twice on a list
abbrev pub repeated : List ℕ → Bool
repeated [] = false
repeated (number ∷ numbers) = names number numbers || repeated numbers

-- a set names some part of a group, given by its part numbers
abbrev pub names_some : List ℕ → List ℕ → Bool
names_some gone set = some (λ number. names number set) gone

-- a set of part numbers is least among some: none of these has all its numbers in it but itself
abbrev pub LeastNamed : List (List ℕ) → List ℕ → Type 0
LeastNamed sets set =
    Memᴰ set sets × ((other : List ℕ) → Memᴰ other sets → ((number : ℕ) → In number other → In number set) → set ≡ other)

-- The structure by part numbers: the machine runs while those parts work, since all parts of some minimal set do.
abbrev pub runs : Design → (ℕ → Bool) → Bool
runs d working = some (every working) (named_sets d)
