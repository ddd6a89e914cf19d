-- What the private functions do: a reader of the promises may pass this file over.
use Rattle.std.specs.Prelude.{List, ℕ, suc, ◌+◌, ◌-◌, ◌*◌, ℤ, pos, ◌*ℤ◌, get_or}
use Rattle.numbers.specs.Counts.{choose}
use Rattle.theory_sums.specs.Sums.{sum_belowℤ}
use Rattle.theory_figures.specs.Figures.{sign, domination}
use Rattle.theory_sets.specs.Masks.{inside, outside}

-- a set's type as one number: its parts in the group and outside it, of which there are at most 16
abbrev pub type_of : ℕ → ℕ → ℕ
type_of group a = inside group a * 17 + outside group a

-- the term of the type a, b in the coefficient of x^i z^j, without its sign
unfoldable pub type_term : ℕ → ℕ → List ℕ → ℕ → ℕ → ℕ → ℕ → ℕ
type_term n m counts i j b a = choose (m - a) (i - a) * choose (n - m - b) (j - b) * get_or counts (a * 17 + b) 0

-- the coefficient of x^i z^j by the counts of path sets by type
unfoldable pub coefficient_of : ℕ → ℕ → List ℕ → ℕ → ℕ → ℤ
coefficient_of n m counts i j =
    sum_belowℤ (λ b. sign (j - b) *ℤ pos (choose (n - m - b) (j - b)) *ℤ domination m (λ a. get_or counts (a * 17 + b) 0) i) (suc j)
