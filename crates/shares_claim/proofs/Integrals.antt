-- n! times the integral of t^p (1-t)^q is a whole number where p + q < n. It is 001's eq. 7; and it is what the rules of integration make it:
-- n!/(p+1) for t^p, and for t^p (1-t)^q the sum of those for t^(p+1) (1-t)^q and t^p (1-t)^(q+1). Assumes nothing.
use mathlib.Core.Path.{◌≡◌, sym, ap, ap₂, ◌∙◌}
use Prim.Native.Nat.{ℕ, suc, ◌+◌, ◌-◌, ◌*◌, ◌/◌, ◌<◌}
use native.Mathlib.Nat.{mul-div_cancel, mul-pos}
use native.Mathlib.Omega.{arith}
use Rattle.numbers.specs.Counts.{factorial, choose}
use Rattle.numbers.proofs.Counts.{factor_same, factorial_suc, factorial_next, factorial_pos, choose_factorials}
use Rattle.shares_claim.specs.Polynomials.{integral}

-- the division leaves nothing over
pub integral_exact : (n p q : ℕ) → p + q < n → integral n p q * factorial (p + q + 1) ≡ factorial n * factorial p * factorial q
unfolding integral
integral_exact n p q h =
    ap (λ (u : ℕ). u / factorial (p + q + 1) * factorial (p + q + 1)) whole
    ∙ ap (λ (u : ℕ). u * factorial (p + q + 1)) (mul-div_cancel quotient (factorial_pos (p + q + 1))) ∙ sym whole
  where
    quotient : ℕ
    quotient = choose n (p + q + 1) * factorial (n - (p + q + 1)) * (factorial p * factorial q)

    turned : (c r d x y : ℕ) → c * (r * d) * x * y ≡ c * r * (x * y) * d
    turned c r d x y = omega arith

    whole : factorial n * factorial p * factorial q ≡ quotient * factorial (p + q + 1)
    whole =
        ap (λ (u : ℕ). u * factorial p * factorial q) (sym (choose_factorials n (n - (p + q + 1)) (p + q + 1) (omega arith)))
        ∙ turned (choose n (p + q + 1)) (factorial (n - (p + q + 1))) (factorial (p + q + 1)) (factorial p) (factorial q)

-- 001, eq. 7, times n!
pub integral_binomial : (n p q : ℕ) → p + q < n → integral n p q * ((p + q + 1) * choose (p + q) p) ≡ factorial n
integral_binomial n p q h =
    factor_same _ _ (factorial q * factorial p) (mul-pos (factorial_pos q) (factorial_pos p))
    (left (integral n p q) (p + q + 1) (choose (p + q) p) (factorial q * factorial p)
    ∙ ap (λ (u : ℕ). integral n p q * ((p + q + 1) * u)) (choose_factorials (p + q) q p (omega arith))
    ∙ ap (λ (u : ℕ). integral n p q * u) (sym (factorial_next (p + q))) ∙ integral_exact n p q h
    ∙ right (factorial n) (factorial p) (factorial q))
  where
    left : (x s c d : ℕ) → x * (s * c) * d ≡ x * (s * (c * d))
    left x s c d = omega arith

    right : (x y z : ℕ) → x * y * z ≡ x * (z * y)
    right x y z = omega arith

-- the same with the factors of 001, Algorithm 1, step 3: k = q + 1, and p + q + 1 parts
pub integral_choose : (n p q : ℕ) → p + q < n → integral n p q * (suc q * choose (p + q + 1) (suc q)) ≡ factorial n
integral_choose n p q h =
    factor_same _ _ (factorial p * factorial q) (mul-pos (factorial_pos p) (factorial_pos q))
    (left (integral n p q) (suc q) (choose (p + q + 1) (suc q)) (factorial p) (factorial q)
    ∙ ap (λ (u : ℕ). integral n p q * (choose (p + q + 1) (suc q) * (factorial p * u))) (sym (factorial_suc q))
    ∙ ap (λ (u : ℕ). integral n p q * u) (choose_factorials (p + q + 1) p (suc q) (omega arith)) ∙ integral_exact n p q h
    ∙ right (factorial n) (factorial p) (factorial q))
  where
    left : (x s c p q : ℕ) → x * (s * c) * (p * q) ≡ x * (c * (p * (s * q)))
    left x s c p q = omega arith

    right : (x y z : ℕ) → x * y * z ≡ x * (y * z)
    right x y z = omega arith

-- t^p
pub integral_power : (n p : ℕ) → p < n → integral n p 0 * (p + 1) ≡ factorial n
unfolding factorial
integral_power n p h =
    factor_same _ _ (factorial p) (factorial_pos p)
    (left (integral n p 0) (p + 1) (factorial p) ∙ ap (λ (u : ℕ). integral n p 0 * u) (sym next) ∙ integral_exact n p 0 (omega arith)
    ∙ right (factorial n) (factorial p))
  where
    next : factorial (p + 0 + 1) ≡ (p + 1) * factorial p
    next =
        let row : p + 0 + 1 ≡ suc p = omega arith in
        let same : p + 1 ≡ suc p = omega arith in
        rw (row, same) (factorial_suc p)

    left : (x s d : ℕ) → x * s * d ≡ x * (s * d)
    left x s d = omega arith

    right : (x y : ℕ) → x * y * 1 ≡ x * y
    right x y = omega arith

-- t^p (1-t)^q = t^(p+1) (1-t)^q + t^p (1-t)^(q+1)
pub integral_falls : (n p q : ℕ) → p + q + 1 < n → integral n p q ≡ integral n (suc p) q + integral n p (suc q)
integral_falls n p q h =
    factor_same _ _ (factorial (p + q + 1 + 1)) (factorial_pos (p + q + 1 + 1))
    (ap (λ (u : ℕ). integral n p q * u) (factorial_next (p + q + 1)) ∙ whole (integral n p q) (p + q + 1 + 1) (factorial (p + q + 1))
    ∙ ap (λ (u : ℕ). (p + q + 1 + 1) * u) (integral_exact n p q (omega arith))
    ∙ split (factorial n) (factorial p) (factorial q) p q
    ∙ ap₂ (λ (u v : ℕ). u + v) (sym first) (sym second)
    ∙ joined (integral n (suc p) q) (integral n p (suc q)) (factorial (p + q + 1 + 1)))
  where
    first : integral n (suc p) q * factorial (p + q + 1 + 1) ≡ factorial n * (suc p * factorial p) * factorial q
    first =
        let row : p + q + 1 + 1 ≡ suc p + q + 1 = omega arith in
        rw row (integral_exact n (suc p) q (omega arith) ∙ ap (λ (u : ℕ). factorial n * u * factorial q) (factorial_suc p))

    second : integral n p (suc q) * factorial (p + q + 1 + 1) ≡ factorial n * factorial p * (suc q * factorial q)
    second =
        let row : p + q + 1 + 1 ≡ p + suc q + 1 = omega arith in
        rw row (integral_exact n p (suc q) (omega arith) ∙ ap (λ (u : ℕ). factorial n * factorial p * u) (factorial_suc q))

    whole : (x s d : ℕ) → x * (s * d) ≡ s * (x * d)
    whole x s d = omega arith

    split : (x y z p q : ℕ) → (p + q + 1 + 1) * (x * y * z) ≡ x * (suc p * y) * z + x * y * (suc q * z)
    split x y z p q = omega arith

    joined : (x y d : ℕ) → x * d + y * d ≡ (x + y) * d
    joined x y d = omega arith

-- the highest powers, p + q = n - 1: p! q!
pub integral_last : (n p q : ℕ) → p + q + 1 ≡ n → integral n p q ≡ factorial p * factorial q
integral_last n p q e =
    factor_same _ _ (factorial n) (factorial_pos n)
    (ap (λ (x : ℕ). integral n p q * factorial x) (sym e) ∙ integral_exact n p q (omega arith) ∙ turned (factorial n) (factorial p) (factorial q))
  where
    turned : (x y z : ℕ) → x * y * z ≡ y * z * x
    turned x y z = omega arith
