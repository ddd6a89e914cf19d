-- `shares_polynomial::Types::write_coefficients` meets its contract: the cells are filled from the front, and the rest is as it was.
-- Assumes nothing.
use mathlib.Core.Path.{◌≡◌}
use mathlib.Core.List.{List}
use Prim.Native.Nat.{ℕ, ◌/◌, ◌%◌}
use lib.IntN.{ℤ}
use Rattle.numbers.proofs.Tables.{filled}
use Rattle.shares_claim.specs.Polynomials.{row_length}
use Rattle.shares_polynomial.specs.Inside.{coefficient_of}
use Rattle.shares_polynomial.proofs.Types.write_coefficients.Given as goal

-- the coefficient in a cell
abbrev pub in_cell : ℕ → ℕ → List ℕ → ℕ → ℤ
in_cell n m counts c = coefficient_of n m counts (c / row_length n m) (c % row_length n m)

abbrev pub invariant-loop-c : goal.invariant-loop-c
invariant-loop-c l = l.cell-items ≡ filled (in_cell l.self.n l.self.m l.self.counts) l.initial.cell-items l.c
