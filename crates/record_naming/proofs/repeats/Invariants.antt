-- `record_naming::repeats` meets its contract. The loop's invariant: a number stands twice among those left exactly if one does among all.
-- Assumes nothing.
use mathlib.Core.Path.{◌≡◌}
use lib.ListN.{drop}
use Rattle.record_lines.specs.Names.{repeated}
use Rattle.record_naming.proofs.repeats.Given as goal

abbrev pub invariant-loop-at : goal.invariant-loop-at
invariant-loop-at l = repeated (drop l.at l.numbers) ≡ repeated l.numbers
