-- The shares of a group M of m parts through h(x,z), of which x stands for the parts in M and z for the rest (01, "Figures"; 001, Algorithm 2).
-- A group is a mask, and m its size. What follows once h's cells are there is in Polynomials.antt, which knows no set.
use Rattle.std.specs.Prelude.{Bool, cond, ◌&&◌, List, ℕ, ◌+◌, ◌*◌, ◌/◌, ◌%◌, ◌^◌, eqb, ℤ, pos}
use Rattle.numbers.specs.Tables.{tabulate}
use Rattle.theory_sums.specs.Sums.{sum_belowℤ}
use Rattle.theory_sets.specs.Masks.{size, inside, outside}
use Rattle.theory_figures.specs.Figures.{set_domination}
use Rattle.shares_claim.specs.Polynomials.{row_length, shares_from_cells}

-- the coefficient of x^i z^j in h(x,z): the sum of d(A) over the sets A with i parts in M and j outside (001, eq. 5 and Algorithm 2, step 1)
unfoldable pub reliability : ℕ → (ℕ → Bool) → ℕ → ℕ → ℕ → ℤ
reliability n works group i j =
    sum_belowℤ (λ a. cond (eqb (inside group a) i && eqb (outside group a) j) (set_domination n works a) (pos 0)) (2 ^ n)

-- the cells of h: the coefficient of x^i z^j in cell i × (n-m+1) + j
unfoldable pub reliability_cells : ℕ → (ℕ → Bool) → ℕ → List ℤ
reliability_cells n works group =
    tabulate ((size group + 1) * row_length n (size group)) (λ c.
    reliability n works group (c / row_length n (size group)) (c % row_length n (size group)))

unfoldable pub shares_by_reliability : ℕ → (ℕ → Bool) → ℕ → List ℤ
shares_by_reliability n works group = shares_from_cells n (size group) (reliability_cells n works group)
