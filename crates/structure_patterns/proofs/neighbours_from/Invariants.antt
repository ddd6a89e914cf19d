-- `structure_patterns::neighbours_from` meets its contract: one neighbour after the other joins the set.
-- Assumes nothing.
use Rattle.std.proofs.Common.{◌≡◌}
use Rattle.structure_patterns.specs.Inside.{neighbours_from}
use Rattle.structure_patterns.proofs.neighbours_from.Given as goal

abbrev pub invariant-loop-j : goal.invariant-loop-j
invariant-loop-j l = l.set ≡ neighbours_from l.n l.j l.i
