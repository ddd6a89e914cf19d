-- `shares_by_polynomial::write_from_cells` meets its contract: the shares are filled from the front, and the rest is as it was.
-- Assumes nothing.
use mathlib.Core.Path.{◌≡◌}
use mathlib.Core.List.{List}
use Prim.Native.Nat.{ℕ, suc}
use lib.IntN.{ℤ}
use Rattle.numbers.proofs.Tables.{filled}
use Rattle.shares_by_polynomial.specs.Inside.{share_of_cells}
use Rattle.shares_by_polynomial.proofs.write_from_cells.Given as goal

-- the share in cell k
abbrev pub share : ℕ → ℕ → List ℤ → ℕ → ℤ
share n m cells k = share_of_cells n m cells (suc k)

abbrev pub invariant-loop-k : goal.invariant-loop-k
invariant-loop-k l = l.share-items ≡ filled (share l.n l.m l.cells) l.initial.share-items l.k
