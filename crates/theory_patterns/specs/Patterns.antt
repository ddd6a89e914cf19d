-- Stock patterns (02, §6) as set functions: the machines of n parts that designers draw again and again, each with its threshold k, 1 to n: how
-- many parts have to work, or how many neighbours have to fail. The part at position i is bit i - 1 of a mask, so the parts of neighbouring
-- positions are neighbouring bits.
use Rattle.std.specs.Prelude.{Bool, not, ◌≡◌, ℕ, ◌+◌, ◌-◌, ◌%◌, ◌^◌, ◌≤◌, ◌<◌, eqb, leb, length}
use mathlib.Core.List.{List, Memᴰ}
use Rattle.numbers.specs.Tables.{tabulate}
use Rattle.theory_sets.specs.Masks.{has, size, any, those}
use Rattle.theory_sets.specs.Tables.{packed}
use Rattle.theory_cuts.specs.Cuts.{by_cuts}

-- "at least k of n working"
unfoldable pub at_least : ℕ → ℕ → Bool
at_least k a = leb k (size a)

-- k parts have all failed: none of the bits `part 0` to `part (k - 1)` is set
unfoldable pub all_failed : ℕ → (ℕ → ℕ) → ℕ → Bool
all_failed k part a = not (any (λ j. has a (part j)) k)

-- "stopped exactly by k failed neighbours in a row": stopped if and only if some k neighbours, the bits i to i + k - 1 for an i
-- from 0 to n - k, have all failed
unfoldable pub row : ℕ → ℕ → ℕ → Bool
row n k a = not (any (λ i. all_failed k (λ j. i + j) a) (n + 1 - k))

-- "or in a ring": the same where "positions n and 1 are neighbours", so that behind bit n - 1 comes bit 0
unfoldable pub ring : ℕ → ℕ → ℕ → Bool
ring n k a = not (any (λ i. all_failed k (λ j. (i + j) % n) a) n)

-- the series machine runs if no part has failed, the parallel machine if some part works
unfoldable pub series : ℕ → ℕ → Bool
series n a = not (any (λ i. not (has a i)) n)

unfoldable pub parallel : ℕ → ℕ → Bool
parallel n a = any (has a) n

-- ---- what all patterns have in common

-- A machine is stopped exactly by a family of sets: it is stopped if and only if the failed parts hold one of them (`by_cuts` says so); each
-- is a set of the n parts, none of them is empty, and at least one of them is there.
pub record StoppedBy (n : ℕ) (family : List ℕ) (works : ℕ → Bool) : Type 0 where
  pub exactly : (a : ℕ) → a < 2 ^ n → works a ≡ by_cuts n family a
  pub sets : (b : ℕ) → Memᴰ b family → (b < 2 ^ n) × (0 < b)
  pub some : 1 ≤ length family

-- the set of k parts whose bits are `part 0` to `part (k - 1)`
abbrev pub set_of : ℕ → ℕ → (ℕ → ℕ) → ℕ
set_of n k part = packed n (λ bit. any (λ j. eqb bit (part j)) k)

-- the family of each pattern: all sets of n - k + 1 parts; all sets of k neighbours of a row; all sets of k neighbours of a ring
abbrev pub at_least_family : ℕ → ℕ → List ℕ
at_least_family n k = those (λ a. eqb (size a) (n + 1 - k)) (2 ^ n)

abbrev pub row_family : ℕ → ℕ → List ℕ
row_family n k = tabulate (n + 1 - k) (λ i. set_of n k (λ j. i + j))

abbrev pub ring_family : ℕ → ℕ → List ℕ
ring_family n k = tabulate n (λ i. set_of n k (λ j. (i + j) % n))
