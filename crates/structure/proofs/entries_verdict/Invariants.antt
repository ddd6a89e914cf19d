-- `structure::entries_verdict` meets its contract: an entry that passes both checks leaves the verdict to the entries after it.
-- Assumes nothing.
use mathlib.Core.Path.{◌≡◌}
use lib.ListN.{drop}
use Rattle.structure.specs.Checks.{entries_refusal}
use Rattle.structure.proofs.entries_verdict.Given as goal

abbrev pub invariant-loop-i : goal.invariant-loop-i
invariant-loop-i l = entries_refusal l.n 0 l.list ≡ entries_refusal l.n l.i (drop l.i l.list)
