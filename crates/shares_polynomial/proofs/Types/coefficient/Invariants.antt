-- `shares_polynomial::Types::coefficient` meets its contract: each term goes to the sum of its sign, and each sum stays far below 2^62.
-- Assumes nothing.
use mathlib.Core.Path.{◌≡◌}
use mathlib.Core.List.{List}
use Prim.Native.Nat.{ℕ, ◌+◌, ◌*◌, ◌/◌, ◌%◌, ◌^◌, ◌≤◌}
use lib.IntN.{pos, ◌-ℤ◌}
use Rattle.theory_sums.specs.Sums.{sum_belowℤ}
use Rattle.shares_polynomial.proofs.Coefficients.{signed_term}
use Rattle.shares_polynomial.proofs.Types.coefficient.Given as goal

-- what is carried: the terms so far, and sums of at most 2^48 a term
pub record Carried (n m : ℕ) (counts : List ℕ) (i j added taken t : ℕ) : Type 0 where
  pub few_added : added ≤ t * 2 ^ 48
  pub few_taken : taken ≤ t * 2 ^ 48
  pub terms : pos added -ℤ pos taken ≡ sum_belowℤ (λ t. signed_term n m counts i j (t / (i + 1)) (t % (i + 1))) t

abbrev pub invariant-loop-t : goal.invariant-loop-t
invariant-loop-t l = Carried l.self.n l.self.m l.self.counts l.i l.j l.added l.taken l.t
