-- `shares_by_polynomial::Place::share` meets its contract: what the cells add and take stays below 2^45, and the last product is the share, which is in
-- 0..n!.
-- Assumes nothing.
use mathlib.Core.Path.{◌≡◌}
use mathlib.Core.List.{List}
use Prim.Native.Nat.{ℕ, ◌+◌}
use lib.IntN.{ℤ, pos, ◌-ℤ◌}
use Rattle.theory_sums.specs.Sums.{sum_below, sum_belowℤ}
use Rattle.shares_claim.specs.Polynomials.{in_cells}
use Rattle.shares_by_polynomial.proofs.FromCells.{cell_term, cell_size}
use Rattle.shares_by_polynomial.proofs.Place.share.Given as goal

-- what is carried: the cells so far, by their terms and by the size of these
pub record Carried (n m : ℕ) (cells : List ℤ) (k added taken c : ℕ) : Type 0 where
  pub terms : pos added -ℤ pos taken ≡ sum_belowℤ (cell_term n m k (in_cells n m cells)) c
  pub sizes : added + taken ≡ sum_below (cell_size n m k (in_cells n m cells)) c

abbrev pub invariant-loop-c : goal.invariant-loop-c
invariant-loop-c l = Carried l.self.n l.self.m l.cells l.self.k l.added l.taken l.c
