-- What the private functions do: a reader of the promises may pass this file over.
use Rattle.std.specs.Prelude.{◌&&◌, ℕ, ◌+◌, eqb}
use Rattle.theory_sums.specs.Sums.{indicator, sum_below}
use Rattle.theory_sets.specs.Masks.{has, size}

-- how many sets of a word have size s, where bit m stands for a set of `base` parts and those of m
unfoldable pub in_word : ℕ → ℕ → ℕ → ℕ
in_word word base s = sum_below (λ m. indicator (has word m && eqb (base + size m) s)) 64
