-- `structure_patterns::neighbours` meets its contract: one set after the other.
-- Assumes nothing.
use Rattle.std.proofs.Common.{◌≡◌}
use Rattle.numbers.proofs.Tables.{filled}
use Rattle.structure_patterns.specs.Inside.{neighbours_from}
use Rattle.structure_patterns.proofs.neighbours.Given as goal

abbrev pub invariant-loop-i : goal.invariant-loop-i
invariant-loop-i l = l.set-items ≡ filled (neighbours_from l.n l.k) l.initial.set-items l.i
