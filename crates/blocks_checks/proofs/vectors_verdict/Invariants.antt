-- `blocks_checks::vectors_verdict` meets its contract: a vector that is accepted leaves the verdict to those after it, and the
-- next one starts where it ends.
-- Assumes nothing.
use mathlib.Core.Path.{◌≡◌}
use Rattle.std.specs.Prelude.{Ok}
use Rattle.blocks_checks.specs.Given.{start_of}
use Rattle.blocks_checks.specs.Refusals.{vectors_refusal}
use Rattle.blocks_checks.proofs.vectors_verdict.Given as goal

abbrev pub invariant-loop-size : goal.invariant-loop-size
invariant-loop-size l = (l.start ≡ start_of l.sizes l.size-index) × (vectors_refusal l.sizes l.vectors l.size-index ≡ Ok tt)
