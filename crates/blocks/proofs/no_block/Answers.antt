-- `blocks::no_block` meets its contract: the first number says whether the whole runs, and the others are 0.
-- Assumes nothing.
use mathlib.Core.Path.{◌≡◌, refl, ap, ◌∙◌}
use mathlib.Core.Bool.{Bool, true, false, cond}
use Prim.Native.Nat.{ℕ}
use lib.Dec.{eqb}
use lib.ListN.{set, replicate}
use Rattle.numbers.specs.Tables.{tabulate}
use Rattle.theory_sums.specs.Sums.{indicator}
use Rattle.blocks.proofs.no_block.Goals as goal

first_only : (runs : Bool) → set (replicate 17 0) 0 (indicator runs) ≡ tabulate 17 (λ j. cond runs (indicator (eqb j 0)) 0)
unfolding tabulate
first_only true = refl
first_only false = refl

pub returns : goal.returns
returns c = ap (λ (x : ℕ). set (replicate 17 0) 0 x) c.from.ensures ∙ first_only c.args.runs
