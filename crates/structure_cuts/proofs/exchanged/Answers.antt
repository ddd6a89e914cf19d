-- `structure_cuts::exchanged` meets its contract: the bits of the upper indexes move down and those of the lower ones up.
-- Assumes nothing.
use mathlib.Core.Path.{◌≡◌, sym, ap₂, ◌∙◌, subst}
use Prim.Native.Nat.{ℕ, ◌*◌, ◌/◌, ◌%◌, ◌^◌, ◌<◌}
use native.Mathlib.Omega.{arith}
use lib.Pow.{pow-lt}
use Rattle.numbers.proofs.Counts.{up_to_16_given}
use Rattle.theory_sets.specs.Masks.{meet, join}
use Rattle.structure_cuts.proofs.Reversal.{exchanged_word}
use Rattle.structure_cuts.proofs.exchanged.Goals as goal
use Rattle.structure_cuts.proofs.exchanged.Goals.{After-power_of_two-step}

weight : (c : After-power_of_two-step) → c.power_of_two-step.result ≡ 2 ^ c.args.part
weight c = c.power_of_two-step.ensures ∙ up_to_16_given c.args.part _ (omega (arith, c.requires))

near : (c : After-power_of_two-step) → c.power_of_two-step.result < 64
near c = subst (λ (x : ℕ). x < 64) (sym (weight c)) (pow-lt c.requires)

pub overflow_shr-result : goal.overflow_shr-result
overflow_shr-result c = near (goal.at.overflow_shr-result c).After-power_of_two-step

pub overflow_shl-result : goal.overflow_shl-result
overflow_shl-result c = near (goal.at.overflow_shl-result c).After-power_of_two-step

pub returns : goal.returns
returns c =
    let a = c.args in
    ap₂ (λ (lower s : ℕ). join (meet (a.word / 2 ^ s) lower) (meet a.word lower * 2 ^ s % 2 ^ 64)) c.lacking-lower.ensures (weight (goal.at.returns c).After-power_of_two-step)
    ∙ exchanged_word a.word a.part c.requires (omega arith)
