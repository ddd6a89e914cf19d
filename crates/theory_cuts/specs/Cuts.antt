-- Cut sets (02, §3) and the dual structure (000, section 3.5) of a structure of n parts as a set function.
use Rattle.std.specs.Prelude.{Bool, not, List, ℕ, ◌+◌, ◌-◌, ◌^◌}
use Rattle.theory_sets.specs.Masks.{has}
use Rattle.theory_sets.specs.Structures.{listed, minimal_sets}
use Rattle.theory_sets.specs.Tables.{packed, in_table, table_of}

-- the parts of n that remain when those of a set have failed
abbrev pub remaining : ℕ → ℕ → ℕ
remaining n a = 2 ^ n - 1 - a

-- a cut set: a set whose joint failure stops the machine, that is, the parts that remain are no path set
unfoldable pub cut : ℕ → (ℕ → Bool) → ℕ → Bool
cut n works a = not (works (remaining n a))

-- the minimal cut sets, ascending by mask: the cut sets that hold no other
abbrev pub minimal_cuts : ℕ → (ℕ → Bool) → List ℕ
minimal_cuts n works = minimal_sets n (cut n works)

-- The list form by cut sets: the machine runs on a set exactly if the parts outside the set, which have failed, hold no listed one.
unfoldable pub by_cuts : ℕ → List ℕ → ℕ → Bool
by_cuts n cuts a = not (listed cuts (remaining n a))

-- 000, section 3.5: 1 - x = (1 - x1, ..., 1 - xn), coordinate by coordinate
abbrev pub flipped : ℕ → ℕ → ℕ
flipped n a = packed n (λ i. not (has a i))

-- 000, section 3.5: φ^D(x) = 1 - φ(1 - x)
unfoldable pub dual : ℕ → (ℕ → Bool) → ℕ → Bool
dual n works a = not (works (flipped n a))

-- the dual of a table
abbrev pub dual_table : ℕ → List ℕ → List ℕ
dual_table n table = table_of n (dual n (in_table table))

-- the place of the k-th of m, both from 1, when they are counted from the last
abbrev pub from_last : ℕ → ℕ → ℕ
from_last m k = m + 1 - k
