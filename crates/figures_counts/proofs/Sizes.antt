-- Path counts of n parts are those of 16 parts, where no set has a part beyond the n.
-- Assumes nothing.
use mathlib.Core.Path.{◌≡◌, sym, ap, ◌∙◌}
use mathlib.Core.Bool.{Bool, false, cond, ◌&&◌}
use Prim.Native.Nat.{ℕ, ◌+◌, ◌-◌, ◌^◌, ◌≤◌}
use native.Mathlib.Nat.{add-sub_of_le, add-zero}
use native.Mathlib.Omega.{arith}
use lib.Dec.{eqb}
use lib.Pow.{pow_mono}
use Rattle.theory_sums.specs.Sums.{sum_below}
use Rattle.theory_sums.proofs.Sums.{sum_below_same, sum_below_zero, sum_below_append}
use Rattle.theory_sets.specs.Masks.{size}
use Rattle.theory_orders.specs.Formulas.{path_count}

pub path_count_near : (n : ℕ) (test : ℕ → Bool) → n ≤ 16 → ((a : ℕ) → 2 ^ n ≤ a → test a ≡ false) → (s : ℕ) → path_count 16 test s ≡ path_count n test s
unfolding path_count
path_count_near n test few beyond s =
    ap (sum_below term) (sym (add-sub_of_le (pow_mono few)))
    ∙ sum_below_append term (2 ^ n) (65536 - 2 ^ n)
    ∙ ap (λ (u : ℕ). sum_below term (2 ^ n) + u)
    (sum_below_same _ (λ a. 0) (65536 - 2 ^ n) (λ a l. ap (λ (b : Bool). cond (b && eqb (size (2 ^ n + a)) s) 1 0) (beyond (2 ^ n + a) (omega arith)))
    ∙ sum_below_zero (65536 - 2 ^ n))
    ∙ add-zero (sum_below term (2 ^ n))
  where
    term : ℕ → ℕ
    term a = cond (test a && eqb (size a) s) 1 0
