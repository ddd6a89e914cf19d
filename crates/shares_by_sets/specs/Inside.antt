-- What the private functions do: a reader of the promises may pass this file over.
use Rattle.std.specs.Prelude.{cond, ℕ, zero, suc, ◌+◌, ◌-◌, ◌*◌, leb}
use Rattle.numbers.specs.Counts.{factorial}
use Rattle.theory_sets.specs.Masks.{size, inside}

-- (s-1)! × (n-s)!, for the sizes s from 1 to n
unfoldable pub weight : ℕ → ℕ → ℕ
weight n zero = 0
weight n (suc s) = cond (leb (suc s) n) (factorial s * factorial (n - suc s)) 0

-- what a path set with i parts in the group adds to the share for k = m - i + 1, and what it takes from the share for k = m - i
unfoldable pub added_by : ℕ → ℕ → ℕ → ℕ
added_by n group a = inside group a * weight n (size a)

unfoldable pub taken_by : ℕ → ℕ → ℕ → ℕ
taken_by n group a = (size group - inside group a) * weight n (size a + 1)
