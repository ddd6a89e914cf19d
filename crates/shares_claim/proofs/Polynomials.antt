-- The steps on coefficients do what they are named for: at every whole number x the reflected polynomial has the value x^d f(1/x), and the shifted
-- one the value f(x+1). Assumes nothing.
use mathlib.Core.Path.{◌≡◌, sym, ap, ap₂, ◌∙◌}
use Prim.Native.Nat.{ℕ, zero, suc, ◌-◌, ◌<◌}
use native.Mathlib.Nat.{not-suc-le-zero, le_of_suc-le-suc, le_step}
use native.Mathlib.Omega.{arith}
use lib.IntN.{ℤ, pos, ◌+ℤ◌, ◌*ℤ◌, pow, one, *ℤ_comm, zero-*ℤ, pos-+ℤ-pos}
use Rattle.numbers.specs.Counts.{choose}
use Rattle.theory_sums.specs.Sums.{sum_belowℤ}
use Rattle.theory_sums.proofs.Integers.{ring}
use Rattle.theory_sums.proofs.IntegerSums.{sum_belowℤ_first, sum_belowℤ_reversed, sum_belowℤ_same, sum_belowℤ_zero, sum_belowℤ_add, sum_belowℤ_mul, sum_belowℤ_exchange}
use Rattle.shares_claim.specs.Polynomials.{reflected, shifted}

-- ---- the reflected polynomial

pub reflected_value : (d : ℕ) (f : ℕ → ℤ) (x : ℤ)
    → sum_belowℤ (λ i. reflected d f i *ℤ pow x i) (suc d) ≡ sum_belowℤ (λ i. f i *ℤ pow x (d - i)) (suc d)
unfolding reflected
reflected_value d f x =
    sum_belowℤ_same _ (λ i. f (d - i) *ℤ pow x (d - (d - i))) (suc d) (λ i l.
    let back : i ≡ d - (d - i) = omega arith in
    ap (λ (y : ℕ). f (d - i) *ℤ pow x y) back)
    ∙ sum_belowℤ_reversed (λ i. f i *ℤ pow x (d - i)) d

-- ---- the shifted polynomial

-- the binomial theorem for x + 1
binomial_theorem : (x : ℤ) (i k : ℕ) → i < k → sum_belowℤ (λ q. pos (choose i q) *ℤ pow x q) k ≡ pow (x +ℤ pos 1) i
unfolding choose pow one
binomial_theorem x i zero h = absurd (not-suc-le-zero h)
binomial_theorem x zero (suc k) h =
    sum_belowℤ_first (λ q. pos (choose 0 q) *ℤ pow x q) k
    ∙ ap (λ (u : ℤ). pos 1 +ℤ u) (sum_belowℤ_same _ (λ q. pos 0) k (λ q l. zero-*ℤ (pow x (suc q))) ∙ sum_belowℤ_zero k)
binomial_theorem x (suc i) (suc k) h =
    sum_belowℤ_first (λ q. pos (choose (suc i) q) *ℤ pow x q) k
    ∙ ap (λ (u : ℤ). pos 1 +ℤ u)
    (sum_belowℤ_same _ _ k (λ q l. both q)
    ∙ sum_belowℤ_add (λ q. x *ℤ (pos (choose i q) *ℤ pow x q)) (λ q. pos (choose i (suc q)) *ℤ pow x (suc q)) k
    ∙ ap (λ (u : ℤ). u +ℤ later) (sum_belowℤ_mul x (λ q. pos (choose i q) *ℤ pow x q) k))
    ∙ moved (x *ℤ sum_belowℤ (λ q. pos (choose i q) *ℤ pow x q) k) later
    ∙ ap₂ (λ (u v : ℤ). x *ℤ u +ℤ v) (binomial_theorem x i k (le_of_suc-le-suc h))
    (sym (sum_belowℤ_first (λ q. pos (choose i q) *ℤ pow x q) k) ∙ binomial_theorem x i (suc k) (le_step (le_of_suc-le-suc h)))
    ∙ joined x (pow (x +ℤ pos 1) i)
  where
    later : ℤ
    later = sum_belowℤ (λ q. pos (choose i (suc q)) *ℤ pow x (suc q)) k

    parted : (a b p x : ℤ) → (a +ℤ b) *ℤ (p *ℤ x) ≡ x *ℤ (a *ℤ p) +ℤ b *ℤ (p *ℤ x)
    parted a b p x = simp ring

    both : (q : ℕ) → pos (choose (suc i) (suc q)) *ℤ pow x (suc q) ≡ x *ℤ (pos (choose i q) *ℤ pow x q) +ℤ pos (choose i (suc q)) *ℤ pow x (suc q)
    both q =
        ap (λ (u : ℤ). u *ℤ pow x (suc q)) (sym (pos-+ℤ-pos (choose i q) (choose i (suc q))))
        ∙ parted (pos (choose i q)) (pos (choose i (suc q))) (pow x q) x

    moved : (u v : ℤ) → pos 1 +ℤ (u +ℤ v) ≡ u +ℤ (pos 1 +ℤ v)
    moved u v = simp ring

    joined : (x p : ℤ) → x *ℤ p +ℤ p ≡ p *ℤ (x +ℤ pos 1)
    joined x p = simp ring

pub shifted_value : (d : ℕ) (f : ℕ → ℤ) (x : ℤ)
    → sum_belowℤ (λ q. shifted d f q *ℤ pow x q) (suc d) ≡ sum_belowℤ (λ i. f i *ℤ pow (x +ℤ pos 1) i) (suc d)
unfolding shifted
shifted_value d f x =
    sum_belowℤ_same _ _ (suc d) (λ q l.
    *ℤ_comm (sum_belowℤ (λ i. pos (choose i q) *ℤ f i) (suc d)) (pow x q)
    ∙ sym (sum_belowℤ_mul (pow x q) (λ i. pos (choose i q) *ℤ f i) (suc d)))
    ∙ sum_belowℤ_exchange (λ q i. pow x q *ℤ (pos (choose i q) *ℤ f i)) (suc d) (suc d)
    ∙ sum_belowℤ_same _ _ (suc d) (λ i l.
    sum_belowℤ_same _ (λ q. f i *ℤ (pos (choose i q) *ℤ pow x q)) (suc d) (λ q m. turned (pow x q) (pos (choose i q)) (f i))
    ∙ sum_belowℤ_mul (f i) (λ q. pos (choose i q) *ℤ pow x q) (suc d)
    ∙ ap (λ (u : ℤ). f i *ℤ u) (binomial_theorem x i (suc d) l))
  where
    turned : (p c y : ℤ) → p *ℤ (c *ℤ y) ≡ y *ℤ (c *ℤ p)
    turned p c y = simp ring
