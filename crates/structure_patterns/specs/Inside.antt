-- What the private functions do: a reader of the promises may pass this file over.
use Rattle.std.specs.Prelude.{List, ℕ, ◌+◌, ◌%◌, leb}
use Rattle.numbers.specs.Tables.{tabulate}
use Rattle.theory_sets.specs.Masks.{size}
use Rattle.theory_sets.specs.Tables.{packed}
use Rattle.theory_patterns.specs.Patterns.{set_of}

-- k neighbours of a ring of n parts from bit i on; in a row too as far as they do not go beyond its end
abbrev pub neighbours_from : ℕ → ℕ → ℕ → ℕ
neighbours_from n k i = set_of n k (λ j. (i + j) % n)

-- so many of them, from the first bits on
abbrev pub first_neighbours : ℕ → ℕ → ℕ → List ℕ
first_neighbours n k count = tabulate count (neighbours_from n k)

-- the sets of the six parts that an index within a word has, by how many parts they have at least
abbrev pub six_with : ℕ → ℕ
six_with least = packed 64 (λ a. leb least (size a))
