-- `structure::has_unused` meets its contract: for one and two parts a test computed over all bytes, and from three parts on a byte has
-- no unused bit.
-- Assumes nothing.
use mathlib.Core.Path.{refl, sym, ap, ◌∙◌}
use mathlib.Core.Bool.{Bool, ◌&&◌}
use Prim.Native.Nat.{ℕ, ◌^◌, ◌≤◌}
use native.Mathlib.Omega.{arith}
use lib.Dec.{leb}
use lib.Pow.{pow_mono}
use borrow.Author.Tests.{lt-leb}
use Rattle.numbers.specs.Tables.{tabulate}
use Rattle.numbers.proofs.Tables.{tabulate_agree}
use Rattle.theory_sets.specs.Masks.{has, any}
use Rattle.numbers.proofs.Bools.{and_left, clash}
use Rattle.theory_sets.proofs.Ranges.{any_false}
use Rattle.structure.proofs.has_unused.Goals as goal

abbrev unused_in : ℕ → ℕ → Bool
unused_in n byte = any (λ a. leb (2 ^ n) a && has byte a) 8

pub returns-in-1 : goal.returns-in-1
unfolding tabulate any has
returns-in-1 c =
    let a = c.args in
    tabulate_agree 256 (leb 4) (unused_in 1) refl a.byte (omega arith) ∙ ap (λ (n : ℕ). unused_in n a.byte) (sym c.in-1.is)

pub returns-in-2 : goal.returns-in-2
unfolding tabulate any has
returns-in-2 c =
    let a = c.args in
    tabulate_agree 256 (leb 16) (unused_in 2) refl a.byte (omega arith) ∙ ap (λ (n : ℕ). unused_in n a.byte) (sym c.in-2.is)

pub returns-in_default : goal.returns-in_default
returns-in_default c =
    let a = c.args in
    let three : 3 ≤ a.n = omega (arith, c.in_default) in
    let eight : 8 ≤ 2 ^ a.n = pow_mono three in
    sym (any_false (λ m. leb (2 ^ a.n) m && has a.byte m) 8 (λ m h t.
    clash (and_left (leb (2 ^ a.n) m) (has a.byte m) t) (lt-leb (2 ^ a.n) m (omega arith))))
