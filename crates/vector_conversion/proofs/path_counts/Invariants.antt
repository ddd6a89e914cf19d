-- `vector_conversion::path_counts` meets its contract: below the size reached the counts are right and found.
-- Assumes nothing.
use mathlib.Core.Path.{◌≡◌}
use Prim.Native.Nat.{◌+◌, ◌≤◌}
use lib.ListN.{length}
use Rattle.vector_conversion.specs.Inside.{Found}
use Rattle.vector_conversion.proofs.path_counts.Given as goal

abbrev pub invariant-loop-j : goal.invariant-loop-j
invariant-loop-j l = (l.j ≤ l.n + 1) × (length l.cells ≡ 17) × Found l.kind l.n l.entries l.cells l.j
