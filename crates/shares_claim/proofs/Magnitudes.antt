-- Absolute values of sums and products of integers. Assumes nothing.
use mathlib.Core.Path.{◌≡◌, refl, ap, ◌∙◌}
use mathlib.Core.Bool.{Bool, true, false, cond}
use Prim.Native.Nat.{ℕ, zero, suc, ◌+◌, ◌-◌, ◌*◌, ◌≤◌}
use native.Mathlib.Nat.{le_refl, le_trans, add-le-add}
use native.Mathlib.Omega.{arith}
use lib.Dec.{ltb}
use lib.IntN.{ℤ, pos, negsuc, neg_ℤ, ◌+ℤ◌, ◌*ℤ◌, nat_abs, pow, one}
use Rattle.theory_sums.specs.Sums.{sum_below, sum_belowℤ}
use Rattle.theory_figures.specs.Figures.{sign}

nat_abs_neg : (x : ℤ) → nat_abs (neg_ℤ x) ≡ nat_abs x
nat_abs_neg (pos zero) = refl
nat_abs_neg (pos (suc n)) = refl
nat_abs_neg (negsuc n) = refl

pub nat_abs_product : (x y : ℤ) → nat_abs (x *ℤ y) ≡ nat_abs x * nat_abs y
nat_abs_product (pos a) (pos b) = refl
nat_abs_product (pos a) (negsuc b) = nat_abs_neg (pos (a * suc b))
nat_abs_product (negsuc a) (pos b) = nat_abs_neg (pos (suc a * b))
nat_abs_product (negsuc a) (negsuc b) = refl

pub nat_abs_add : (x y : ℤ) → nat_abs (x +ℤ y) ≤ nat_abs x + nat_abs y
nat_abs_add (pos a) (pos b) = le_refl (a + b)
nat_abs_add (pos a) (negsuc b) = either (ltb a (suc b))
  where
    either : (t : Bool) → nat_abs (cond t (negsuc (suc b - suc a)) (pos (a - suc b))) ≤ a + suc b
    either true = omega arith
    either false = omega arith
nat_abs_add (negsuc a) (pos b) = either (ltb b (suc a))
  where
    either : (t : Bool) → nat_abs (cond t (negsuc (suc a - suc b)) (pos (b - suc a))) ≤ suc a + b
    either true = omega arith
    either false = omega arith
nat_abs_add (negsuc a) (negsuc b) = omega arith

pub nat_abs_sum : (f : ℕ → ℤ) (k : ℕ) → nat_abs (sum_belowℤ f k) ≤ sum_below (λ i. nat_abs (f i)) k
unfolding sum_below sum_belowℤ
nat_abs_sum f zero = le_refl 0
nat_abs_sum f (suc k) = le_trans (nat_abs_add (sum_belowℤ f k) (f k)) (add-le-add (nat_abs_sum f k) (le_refl (nat_abs (f k))))

pub nat_abs_sign : (k : ℕ) → nat_abs (sign k) ≡ 1
unfolding pow one
nat_abs_sign zero = refl
nat_abs_sign (suc k) = nat_abs_product (sign k) (negsuc 0) ∙ ap (λ (u : ℕ). u * 1) (nat_abs_sign k)
