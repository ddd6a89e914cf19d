-- A set of parts by its positions, and the positions of a set (01, "Structures": the part at position i is bit i - 1).
use Rattle.std.specs.Prelude.{Bool, ◌&&◌, List, ℕ, suc, ◌+◌, ◌-◌, leb}
use Rattle.theory_sets.specs.Masks.{has, those}
use Rattle.theory_sets.specs.Tables.{packed}
use Rattle.record_numbers.specs.Numbering.{most_parts, names}

-- the set of some positions: bit i - 1 for each position i of them
unfoldable pub set_of : List ℕ → ℕ
set_of positions = packed most_parts (λ i. names (suc i) positions)

-- the part at a position is in a set
abbrev pub stands : ℕ → ℕ → Bool
stands set position = leb 1 position && has set (position - 1)

-- the positions of a set, ascending
unfoldable pub positions_of : ℕ → List ℕ
positions_of set = those (stands set) (most_parts + 1)

-- a position of a machine of n parts
abbrev pub within : ℕ → ℕ → Bool
within n position = leb 1 position && leb position n
