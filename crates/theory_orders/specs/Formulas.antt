-- 001's formulas for the subsignatures, times n!, as sums over the sets of n parts. The count (Counting.antt) uses none of them; that it is
-- what they give is proved (proofs/Counting.antt).
use Rattle.std.specs.Prelude.{Bool, not, ◌&&◌, ℕ, ◌+◌, ◌-◌, ◌*◌, ◌^◌, eqb}
use Rattle.numbers.specs.Counts.{factorial}
use Rattle.theory_sums.specs.Sums.{indicator, sum_below, sum_sets}
use Rattle.theory_sets.specs.Masks.{has, size, inside}

-- φ(j), the number of path sets of size j (01, "Figures")
unfoldable pub path_count : ℕ → (ℕ → Bool) → ℕ → ℕ
path_count n works j = sum_sets n (λ a. works a && eqb (size a) j) (λ a. 1)

-- 001, eq. 1, first sum: over the path sets A with m-k+1 parts in M, (m-k+1) × (|A|-1)! × (n-|A|)!
unfoldable pub added : ℕ → (ℕ → Bool) → ℕ → ℕ → ℕ
added n works group k =
    sum_sets n (λ a. works a && eqb (inside group a) (size group - k + 1))
    (λ a. (size group - k + 1) * factorial (size a - 1) * factorial (n - size a))

-- 001, eq. 1, second sum: over the path sets A with m-k parts in M, k × |A|! × (n-|A|-1)!
unfoldable pub taken : ℕ → (ℕ → Bool) → ℕ → ℕ → ℕ
taken n works group k =
    sum_sets n (λ a. works a && eqb (inside group a) (size group - k)) (λ a. k * factorial (size a) * factorial (n - size a - 1))

-- 001, eq. 2: over the parts j of M and the sets A without j for which |M without A| is k, |A|! × (n-|A|-1)! × (φ(A with j) - φ(A))
unfoldable pub by_parts : ℕ → (ℕ → Bool) → ℕ → ℕ → ℕ
by_parts n works group k =
    sum_below (λ j. sum_sets n (λ a. has group j && not (has a j) && eqb (size group - inside group a) k)
    (λ a. factorial (size a) * factorial (n - size a - 1) * (indicator (works (a + 2 ^ j)) - indicator (works a)))) n
