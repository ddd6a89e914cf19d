-- `blocks_checks::sizes_verdict` meets its contract: a size that passes leaves the verdict to those after it.
-- Assumes nothing.
use mathlib.Core.Path.{◌≡◌}
use Rattle.std.specs.Prelude.{Ok}
use Rattle.blocks_checks.specs.Refusals.{sizes_refusal}
use Rattle.blocks_checks.proofs.sizes_verdict.Given as goal

abbrev pub invariant-loop-size : goal.invariant-loop-size
invariant-loop-size l = sizes_refusal l.sizes l.size-index ≡ Ok tt
