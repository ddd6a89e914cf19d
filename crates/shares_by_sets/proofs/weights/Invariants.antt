-- `shares_by_sets::weights` meets its contract: each weight is stored at its own index.
-- Assumes nothing.
use mathlib.Core.Path.{◌≡◌}
use Rattle.numbers.proofs.Tables.{filled}
use Rattle.shares_by_sets.specs.Inside.{weight}
use Rattle.shares_by_sets.proofs.weights.Given as goal

abbrev pub invariant-loop-s : goal.invariant-loop-s
invariant-loop-s l = l.cell-items ≡ filled (weight l.n) l.initial.cell-items l.s
