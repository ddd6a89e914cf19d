-- `vector_conversion::signed_terms` meets its contract: each term goes to the sum of its sign, and each sum stays far below 2^60.
-- Assumes nothing.
use mathlib.Core.Path.{◌≡◌}
use Prim.Native.Nat.{ℕ, ◌*◌, ◌^◌, ◌≤◌}
use lib.IntN.{pos, ◌-ℤ◌}
use Rattle.theory_figures.proofs.Signs.{terms_below}
use Rattle.vector_conversion.specs.Inside.{cells_of}
use Rattle.vector_conversion.proofs.signed_terms.Given as goal

-- what is carried: the terms so far, and sums of at most 2^46 a term
pub record Carried (n : ℕ) (φ : ℕ → ℕ) (k added taken j : ℕ) : Type 0 where
  pub few_added : added ≤ j * 2 ^ 46
  pub few_taken : taken ≤ j * 2 ^ 46
  pub terms : pos added -ℤ pos taken ≡ terms_below n φ k j

abbrev pub invariant-loop-j : goal.invariant-loop-j
invariant-loop-j l = Carried l.n (cells_of l.counts) l.k l.added l.taken l.j
