-- What the private functions do: a reader of the promises may pass this file over.
use Rattle.std.specs.Prelude.{Bool, cond, List, ℕ, zero, suc, ◌+◌, ◌*◌, ◌/◌, ◌%◌, ◌^◌, ◌<◌, eqb, length, get_or}
use Rattle.numbers.specs.Tables.{tabulate}
use Rattle.theory_sums.specs.Sums.{indicator, gathered}
use Rattle.theory_sets.specs.Masks.{has, size}
use Rattle.theory_joint.specs.Formula.{nested_pairs}

-- 1 in the lane of a size, for the three sizes from 3 × third on; three lanes of 21 bits are in a word
unfoldable pub lane_of : ℕ → ℕ → ℕ
lane_of third s = cond (eqb (s / 3) third) (2 ^ (21 * (s % 3))) 0

-- what marks a set: the lane of its size if it works, and else 0
unfoldable pub mark_of : (ℕ → Bool) → List ℕ → ℕ → ℕ
mark_of works lanes a = indicator (works a) * get_or lanes (size a) 0

-- to each set without the part what the set with it has is added
unfoldable pub swept_over : ℕ → (ℕ → ℕ) → ℕ → ℕ
swept_over part f b = f b + cond (has b part) 0 (f (b + 2 ^ part))

-- so for each of the first parts, one after the other
unfoldable pub swept : ℕ → (ℕ → ℕ) → ℕ → ℕ
swept zero f = f
swept (suc part) f = swept_over part (swept part f)

-- the cell of a set
unfoldable pub cell_of : List ℕ → ℕ → ℕ
cell_of cells a = get_or cells a 0

-- the sum of the cells of the sets that work, by size
abbrev pub cells_by_size : (ℕ → Bool) → List ℕ → ℕ → ℕ → ℕ
cells_by_size works cells = gathered works size (cell_of cells)

-- it fits a word for every size
abbrev pub Fits : (ℕ → Bool) → List ℕ → Type 0
Fits works cells = (j : ℕ) → cells_by_size works cells (length cells) j < 2 ^ 64

-- the pairs of three sizes of outer sets, from 3 × third on, each in its lane
unfoldable pub packed_pairs : ℕ → (ℕ → Bool) → (ℕ → Bool) → ℕ → ℕ → ℕ
packed_pairs n outer inner third j =
    nested_pairs n outer inner (3 * third) j + 2 ^ 21 * nested_pairs n outer inner (3 * third + 1) j + 2 ^ 42 * nested_pairs n outer inner (3 * third + 2) j

-- a row of them, by the inner size
unfoldable pub packed_row : ℕ → (ℕ → Bool) → (ℕ → Bool) → ℕ → List ℕ
packed_row n outer inner third = tabulate 17 (packed_pairs n outer inner third)
