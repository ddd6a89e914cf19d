-- Path sets of 16 parts counted by size, for each part those that have it, as rows in one list.
use Rattle.std.specs.Prelude.{Bool, ◌&&◌, ◌||◌, List, ℕ, ◌*◌, ◌/◌, ◌%◌, leb, take, drop}
use Rattle.numbers.specs.Tables.{tabulate}
use Rattle.theory_sets.specs.Masks.{has}
use Rattle.theory_orders.specs.Formulas.{path_count}

-- the set has the part; every set where the part is above the last
unfoldable pub has_part : ℕ → ℕ → Bool
has_part part a = leb 16 part || has a part

-- rows of 17 counts by size: row i for the path sets that have the part i, and row 16 for all
unfoldable pub rows_of : (ℕ → Bool) → List ℕ
rows_of works = tabulate 289 (λ i. path_count 16 (λ a. works a && has_part (i / 17) a) (i % 17))

-- the row of a part
abbrev pub row : ℕ → List ℕ → List ℕ
row part rows = take 17 (drop (17 * part) rows)
