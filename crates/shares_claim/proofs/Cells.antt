-- The cells of h: the coefficient of x^i z^j stands in cell i × (n-m+1) + j, and the shares from the cells are those from the coefficients.
-- Assumes nothing.
use mathlib.Core.Path.{◌≡◌, sym, ap, ap₂, ◌∙◌}
use mathlib.Core.Bool.{Bool}
use Prim.Native.Nat.{ℕ, suc, ◌+◌, ◌-◌, ◌*◌, ◌/◌, ◌%◌, ◌≤◌, ◌<◌}
use native.Mathlib.Nat.{mul-add-div_right, mul-add-mod_self_right, div-eq_of_lt, mod-eq_of_lt, mul-le-mul_right, add-zero}
use native.Mathlib.Omega.{arith}
use lib.IntN.{ℤ, pos, ◌*ℤ◌}
use Rattle.numbers.proofs.Tables.{tabulate_at}
use Rattle.theory_sums.proofs.IntegerSums.{sum_belowℤ_same}
use Rattle.theory_sets.specs.Masks.{size}
use Rattle.shares_claim.specs.Polynomials.{integral, share_from, row_length, in_cells}
use Rattle.shares_claim.specs.Reliability.{reliability, reliability_cells}
use Rattle.shares_claim.proofs.Algorithm.{chosen, coefficient_weights}

-- the row of a cell, and the place in it
pub cell_row : (i j l : ℕ) → j < l → (i * l + j) / l ≡ i
cell_row i j l h = mul-add-div_right (omega arith) i j ∙ ap (λ (x : ℕ). i + x) (div-eq_of_lt h) ∙ add-zero i

pub cell_place : (i j l : ℕ) → j < l → (i * l + j) % l ≡ j
cell_place i j l h = mul-add-mod_self_right i l j ∙ mod-eq_of_lt h

-- the coefficients that stand in the cells of h are those of h
pub in_cells_lem : (n : ℕ) (works : ℕ → Bool) (group i j : ℕ) → i ≤ size group → j ≤ n - size group
    → in_cells n (size group) (reliability_cells n works group) i j ≡ reliability n works group i j
unfolding in_cells reliability_cells
in_cells_lem n works group i j few rest =
    let placed : j < row_length n (size group) = omega arith in
    let inside : i * row_length n (size group) + j < (size group + 1) * row_length n (size group)
    = omega (arith, mul-le-mul_right (row_length n (size group)) few) in
    tabulate_at ((size group + 1) * row_length n (size group)) (λ c.
    reliability n works group (c / row_length n (size group)) (c % row_length n (size group)))
    (i * row_length n (size group) + j) (pos 0) inside
    ∙ ap₂ (reliability n works group) (cell_row i j (row_length n (size group)) placed) (cell_place i j (row_length n (size group)) placed)

-- a share goes by the coefficients of x^0 to x^m and z^0 to z^(n-m)
pub share_from_same : (n m : ℕ) (h g : ℕ → ℕ → ℤ) (k : ℕ) → 1 ≤ m → ((i j : ℕ) → i ≤ m → j ≤ n - m → h i j ≡ g i j)
    → share_from n m h k ≡ share_from n m g k
unfolding share_from
share_from_same n m h g k some same =
    sum_belowℤ_same _ _ (suc (n - m)) (λ j l.
    ap (λ (u : ℤ). u *ℤ pos (integral n (m - k + j) (k - 1)))
    (coefficient_weights m some h k j
    ∙ sum_belowℤ_same _ _ (suc m) (λ i p. ap (λ (u : ℤ). chosen m k i *ℤ u) (same i j (omega arith) (omega arith)))
    ∙ sym (coefficient_weights m some g k j)))
