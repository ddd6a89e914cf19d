-- The steps of 001, Algorithm 2, on coefficients: a polynomial in x is given by its coefficients, f i that of x^i, and one in x and z by
-- h i j, that of x^i z^j. No set and no table is looked at.
use Rattle.std.specs.Prelude.{List, ℕ, suc, ◌+◌, ◌-◌, ◌*◌, ◌/◌, ℤ, pos, ◌*ℤ◌, get_or}
use Rattle.numbers.specs.Counts.{factorial, choose}
use Rattle.numbers.specs.Tables.{tabulate}
use Rattle.theory_sums.specs.Sums.{sum_belowℤ}

-- the derivative: the coefficient of x^i is i + 1 times that of x^(i+1)
unfoldable pub derivative : (ℕ → ℤ) → ℕ → ℤ
derivative f i = pos (i + 1) *ℤ f (i + 1)

-- the d-reflected of a polynomial of degree at most d, x^d f(1/x): the coefficient of x^i, i = 0..d, is that of x^(d-i)
unfoldable pub reflected : ℕ → (ℕ → ℤ) → ℕ → ℤ
reflected d f i = f (d - i)

-- f(x+1) for a polynomial of degree at most d: the coefficient of x^q is the sum over i = 0..d of C(i,q) × f i
unfoldable pub shifted : ℕ → (ℕ → ℤ) → ℕ → ℤ
shifted d f q = sum_belowℤ (λ i. pos (choose i q) *ℤ f i) (suc d)

-- Steps 2 and 3: the coefficient of z^j in c_(k-1)(z), which is the coefficient of x^(k-1) in (R^(m-1) g)(x+1, z), where g is the x-derivative
-- of h
unfoldable pub coefficient : ℕ → (ℕ → ℕ → ℤ) → ℕ → ℕ → ℤ
coefficient m h k j = shifted (m - 1) (reflected (m - 1) (derivative (λ i. h i j))) (k - 1)

-- n! times the integral of t^p (1-t)^q over t from 0 to 1, which is p! q! / (p+q+1)! (001, eq. 7). Where p + q < n the division leaves
-- nothing over (proofs/Integrals.antt).
unfoldable pub integral : ℕ → ℕ → ℕ → ℕ
integral n p q = factorial n * factorial p * factorial q / factorial (p + q + 1)

-- Step 4, times n!: the integral of t^(m-k) (1-t)^(k-1) c_(k-1)(t), power by power
unfoldable pub share_from : ℕ → ℕ → (ℕ → ℕ → ℤ) → ℕ → ℤ
share_from n m h k = sum_belowℤ (λ j. coefficient m h k j *ℤ pos (integral n (m - k + j) (k - 1))) (suc (n - m))

-- h comes in cells (01, "Figures"), a row for each power of x, and in a row the powers of z, 0 to n-m
abbrev pub row_length : ℕ → ℕ → ℕ
row_length n m = n - m + 1

-- the coefficient of x^i z^j that stands in cells: cell i × (n-m+1) + j
unfoldable pub in_cells : ℕ → ℕ → List ℤ → ℕ → ℕ → ℤ
in_cells n m cells i j = get_or cells (i * row_length n m + j) (pos 0)

-- the m shares, k = 1..m, from the cells of h, n and m alone
unfoldable pub shares_from_cells : ℕ → ℕ → List ℤ → List ℤ
shares_from_cells n m cells = tabulate m (λ k. share_from n m (in_cells n m cells) (suc k))
