-- `structure_cuts::reversed` meets its contract: one part after the other is exchanged.
-- Assumes nothing.
use mathlib.Core.Path.{◌≡◌, ap, ◌∙◌}
use Prim.Native.Nat.{ℕ}
use native.Mathlib.Nat.{le_antisymm}
use native.Mathlib.Omega.{arith}
use Rattle.theory_sets.specs.Masks.{has}
use Rattle.theory_sets.specs.Tables.{packed}
use Rattle.structure_cuts.specs.Inside.{turned_index}
use Rattle.structure_cuts.proofs.Reversal.{turned_none, turned_more, turned_all}
use Rattle.structure_cuts.proofs.reversed.Goals as goal

pub loop-part-init : goal.loop-part-init
loop-part-init c = (omega arith, turned_none c.args.word (omega arith))

pub loop-part-preserved : goal.loop-part-preserved
loop-part-preserved c =
    (omega arith, turned_more c.args.word c.loop-part.turned c.exchanged-turned.result c.loop-part.part (omega arith) c.loop-part.invariant.1 c.exchanged-turned.ensures)

pub returns : goal.returns
returns c =
    let word = c.args.word in
    let all : c.loop-part.part ≡ 6 = le_antisymm c.loop-part.invariant.0 c.loop-part-test.false in
    c.loop-part.invariant.1 ∙ ap (λ (parts : ℕ). packed 64 (λ k. has word (turned_index parts k))) all ∙ turned_all word
