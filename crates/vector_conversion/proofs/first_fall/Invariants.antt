-- `vector_conversion::first_fall` meets its contract: below the size reached no proportion falls. Counts of at most 12,870 times binomials fit.
-- Assumes nothing.
use mathlib.Core.Path.{◌≡◌}
use mathlib.Core.Bool.{false}
use Prim.Native.Nat.{ℕ, ◌<◌}
use Rattle.vector_conversion.specs.Vectors.{falls}
use Rattle.vector_conversion.specs.Inside.{cells_of}
use Rattle.vector_conversion.proofs.first_fall.Given as goal

abbrev pub invariant-loop-j : goal.invariant-loop-j
invariant-loop-j l = (i : ℕ) → i < l.j → falls l.n (cells_of l.counts) i ≡ false
