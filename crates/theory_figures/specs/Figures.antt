-- The figures of 01, over a structure of n parts. Tail, signature and domination go by the path counts alone: φ j is the number of path sets of
-- size j, `path_count n works j` of theory_orders/specs/Formulas.antt.
use Rattle.std.specs.Prelude.{Bool, not, ◌&&◌, List, ℕ, suc, ◌+◌, ◌-◌, ◌*◌, ◌^◌, ℤ, pos, negsuc, ◌-ℤ◌, ◌*ℤ◌}
use Rattle.std.proofs.Math.IntN.{pow}
use Rattle.numbers.specs.Counts.{factorial, choose}
use Rattle.numbers.specs.Tables.{tabulate}
use Rattle.theory_sums.specs.Sums.{indicator, sum_sets, sum_belowℤ}
use Rattle.theory_sets.specs.Masks.{has, size, holds}
use Rattle.theory_orders.specs.Formulas.{path_count}

-- T(k), k = 0..n: φ(n-k) × (n-k)! × k! (003, eq. 5, times n!)
unfoldable pub tail : ℕ → (ℕ → ℕ) → ℕ → ℕ
tail n φ k = φ (n - k) * factorial (n - k) * factorial k

-- N(k), k = 1..n: T(k-1) - T(k)
unfoldable pub signature : ℕ → (ℕ → ℕ) → ℕ → ℤ
signature n φ k = pos (tail n φ (k - 1)) -ℤ pos (tail n φ k)

-- (-1)^k
abbrev pub sign : ℕ → ℤ
sign k = pow (negsuc 0) k

-- d(k), k = 0..n: the sum over j = 0..k of (-1)^(k-j) × C(n-j, k-j) × φ(j) (000, eq. 11)
unfoldable pub domination : ℕ → (ℕ → ℕ) → ℕ → ℤ
domination n φ k = sum_belowℤ (λ j. sign (k - j) *ℤ pos (choose (n - j) (k - j)) *ℤ pos (φ j)) (suc k)

-- d(A) by Möbius inversion (000, eq. 9): the sum over the sets B that A holds of (-1)^(|A|-|B|) × φ(B), where φ(B) is 1 for a path set and else 0
unfoldable pub set_domination : ℕ → (ℕ → Bool) → ℕ → ℤ
set_domination n works a = sum_belowℤ (λ b. pos (indicator (holds a b && works b)) *ℤ sign (size a - size b)) (2 ^ n)

-- The Barlow-Proschan count of position i, 1 to n: over the sets A without it, |A|! × (n-|A|-1)! × (φ(A with it) - φ(A)) (001, eq. 3, times n!).
-- In a semicoherent structure no difference is negative.
unfoldable pub importance : ℕ → (ℕ → Bool) → ℕ → ℕ
importance n works i =
    sum_sets n (λ a. not (has a (i - 1)))
    (λ a. factorial (size a) * factorial (n - size a - 1) * (indicator (works (a + 2 ^ (i - 1))) - indicator (works a)))

-- The vectors. Path counts, tail and domination have n + 1 cells from index 0 on, signature and importances n from index 1 on.
abbrev pub path_counts : ℕ → (ℕ → Bool) → List ℤ
path_counts n works = tabulate (n + 1) (λ j. pos (path_count n works j))

abbrev pub tails : ℕ → (ℕ → Bool) → List ℤ
tails n works = tabulate (n + 1) (λ k. pos (tail n (path_count n works) k))

abbrev pub signatures : ℕ → (ℕ → Bool) → List ℤ
signatures n works = tabulate n (λ k. signature n (path_count n works) (suc k))

abbrev pub dominations : ℕ → (ℕ → Bool) → List ℤ
dominations n works = tabulate (n + 1) (domination n (path_count n works))

abbrev pub importances : ℕ → (ℕ → Bool) → List ℕ
importances n works = tabulate n (λ i. importance n works (suc i))
