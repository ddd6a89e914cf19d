-- `figures_counts::of_size` meets its contract: for each of the seven sizes the word is computed.
-- Assumes nothing.
use mathlib.Core.Path.{◌≡◌, ap, sym}
use Prim.Native.Nat.{ℕ}
use native.Mathlib.Omega.{arith}
use lib.Count.{ones, ones_in}
use lib.Dec.{eqb}
use Rattle.theory_sets.specs.Masks.{size}
use Rattle.theory_sets.specs.Tables.{packed}
use Rattle.figures_counts.proofs.of_size.Goals as goal

word_for : ℕ → ℕ
word_for k = packed 64 (λ m. eqb (size m) k)

pub returns-in-0 : goal.returns-in-0
unfolding word_for packed ones ones_in
returns-in-0 c = ap word_for (sym c.in-0.is)

pub returns-in-1 : goal.returns-in-1
unfolding word_for packed ones ones_in
returns-in-1 c = ap word_for (sym c.in-1.is)

pub returns-in-2 : goal.returns-in-2
unfolding word_for packed ones ones_in
returns-in-2 c = ap word_for (sym c.in-2.is)

pub returns-in-3 : goal.returns-in-3
unfolding word_for packed ones ones_in
returns-in-3 c = ap word_for (sym c.in-3.is)

pub returns-in-4 : goal.returns-in-4
unfolding word_for packed ones ones_in
returns-in-4 c = ap word_for (sym c.in-4.is)

pub returns-in-5 : goal.returns-in-5
unfolding word_for packed ones ones_in
returns-in-5 c = ap word_for (sym c.in-5.is)

pub returns-in_default : goal.returns-in_default
unfolding word_for packed ones ones_in
returns-in_default c =
    let last : c.args.k ≡ 6 = omega arith in
    ap word_for (sym last)
