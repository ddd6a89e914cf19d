-- Laws of factorials and binomials, and what `up_to_16` gives on either side of its bound.
-- Assumes nothing.
use mathlib.Core.Path.{◌≡◌, refl, sym, ap, ap₂, ◌∙◌}
use mathlib.Core.Bool.{Bool, cond}
use mathlib.Core.Logic.{◌⊎◌, inl, inr}
use Prim.Native.Nat.{ℕ, zero, suc, zero-le, ◌+◌, ◌-◌, ◌*◌, ◌/◌, ◌%◌, ◌^◌, ◌≤◌, ◌<◌}
use native.Mathlib.Nat.{le_trans, le_of_eq, le_of_suc-le-suc, le_of_lt, not-suc-le-zero, lt-suc_self, zero-lt-suc, eq-or-lt_of_le, sub-add_cancel, zero-mul, mul_comm, mul-pos, mul-le-mul, mul-div_cancel, mul-mod_left, le-div_iff_mul-le, two-pow-succ}
use native.Mathlib.Numerals.{add-one}
use native.Mathlib.Omega.{arith}
use lib.Arith.{le-zero}
use lib.Pow.{pow_pos, pow_mono}
use borrow.Author.Tests.{le-leb, lt-leb}
use Rattle.numbers.specs.Counts.{factorial, choose, up_to_16}

pub up_to_16_given : (n count : ℕ) → n ≤ 16 → up_to_16 n count ≡ count
up_to_16_given n count h = ap (λ (t : Bool). cond t count 0) (le-leb n 16 h)

pub up_to_16_above : (n count : ℕ) → 16 < n → up_to_16 n count ≡ 0
up_to_16_above n count h = ap (λ (t : Bool). cond t count 0) (lt-leb n 16 h)

-- ---- a positive factor cancels

pub factor_same : (x y c : ℕ) → 0 < c → x * c ≡ y * c → x ≡ y
factor_same x y c h e = sym (mul-div_cancel x h) ∙ ap (λ (u : ℕ). u / c) e ∙ mul-div_cancel y h

pub factor_le : (x y c : ℕ) → 0 < c → x * c ≤ y * c → x ≤ y
factor_le x y c h e = le_trans ((le-div_iff_mul-le h).1 e) (le_of_eq (mul-div_cancel y h))

-- ---- factorials

pub factorial_suc : (k : ℕ) → factorial (suc k) ≡ suc k * factorial k
unfolding factorial
factorial_suc k = refl

pub factorial_next : (k : ℕ) → factorial (k + 1) ≡ (k + 1) * factorial k
factorial_next k = rw (add-one k) (factorial_suc k)

pub factorial_rest : (n j : ℕ) → j < n → factorial (n - j) ≡ (n - j) * factorial (n - (j + 1))
factorial_rest n j h = let rest : n - j ≡ suc (n - (j + 1)) = omega arith in rw rest (factorial_suc (n - (j + 1)))

pub factorial_pos : (n : ℕ) → 0 < factorial n
unfolding factorial
factorial_pos zero = zero-lt-suc 0
factorial_pos (suc n) = mul-pos (zero-lt-suc n) (factorial_pos n)

pub factorial_rises : (n m : ℕ) → n ≤ m → factorial n ≤ factorial m
unfolding factorial
factorial_rises n zero h = le_of_eq (ap factorial (le-zero h))
factorial_rises n (suc m) h = cases (eq-or-lt_of_le h) (factorial_rises n m)
  where
    more : factorial m ≤ suc m * factorial m
    more = omega arith

    cases : (n ≡ suc m) ⊎ (n < suc m) → (n ≤ m → factorial n ≤ factorial m) → factorial n ≤ suc m * factorial m
    cases (inl e) below = le_of_eq (ap factorial e)
    cases (inr l) below = le_trans (below (le_of_suc-le-suc l)) more

-- ---- binomials

pub choose_none : (n : ℕ) → choose n 0 ≡ 1
unfolding choose
choose_none zero = refl
choose_none (suc n) = refl

-- no set of n parts has more than n
pub choose_above : (n k : ℕ) → n < k → choose n k ≡ 0
unfolding choose
choose_above n zero h = absurd (not-suc-le-zero h)
choose_above zero (suc k) h = refl
choose_above (suc n) (suc k) h =
    ap₂ (λ (x y : ℕ). x + y) (choose_above n k (le_of_suc-le-suc h)) (choose_above n (suc k) (le_of_lt h))

-- all parts are one set
pub choose_all : (n : ℕ) → choose n n ≡ 1
unfolding choose
choose_all zero = refl
choose_all (suc n) = ap₂ (λ (u v : ℕ). u + v) (choose_all n) (choose_above n (suc n) (lt-suc_self n))

-- what there is at most once for each set has none beyond the number of parts
pub none_beyond : {x : ℕ} (n k : ℕ) → x ≤ choose n k → n < k → x ≡ 0
none_beyond n k most beyond = le-zero (le_trans most (le_of_eq (choose_above n k beyond)))

-- more parts to choose from
pub choose_rises : (n m k : ℕ) → n ≤ m → choose n k ≤ choose m k
unfolding choose
choose_rises n zero k h = le_of_eq (ap (λ (x : ℕ). choose x k) (le-zero h))
choose_rises n (suc m) k h = cases (eq-or-lt_of_le h) (choose_rises n m k)
  where
    more : (j : ℕ) → choose m j ≤ choose (suc m) j
    more zero = le_of_eq (choose_none m)
    more (suc j) = omega arith

    cases : (n ≡ suc m) ⊎ (n < suc m) → (n ≤ m → choose n k ≤ choose m k) → choose n k ≤ choose (suc m) k
    cases (inl e) below = le_of_eq (ap (λ (x : ℕ). choose x k) e)
    cases (inr l) below = le_trans (below (le_of_suc-le-suc l)) (more k)

-- no more sets of k parts than sets
choose_within : (n k : ℕ) → choose n k ≤ 2 ^ n
unfolding choose
choose_within n zero = pow_pos n
choose_within zero (suc k) = zero-le
choose_within (suc n) (suc k) = omega (arith, choose_within n k, choose_within n (suc k), two-pow-succ n)

pub choose_small : (n k : ℕ) → n ≤ 16 → choose n k ≤ 65536
choose_small n k few = le_trans (choose_within n k) (pow_mono few)

-- ---- binomials by factorials

pub choose_factorials : (n a b : ℕ) → a + b ≡ n → choose n b * (factorial a * factorial b) ≡ factorial n
unfolding choose factorial
choose_factorials zero a zero e = let none : a ≡ 0 = omega arith in rw none
choose_factorials zero a (suc b) e = absurd (omega arith)
choose_factorials (suc n) a zero e = let all : a ≡ suc n = omega arith in rw all (omega arith)
choose_factorials (suc n) zero (suc b) e =
    let all : suc b ≡ suc n = omega arith in
    ap (λ (u : ℕ). choose (suc n) u * (1 * factorial u)) all ∙ ap (λ (u : ℕ). u * (1 * factorial (suc n))) (choose_all (suc n)) ∙ omega arith
choose_factorials (suc n) (suc a) (suc b) e =
    joined (choose n b) (choose n (suc b)) (factorial a) (factorial b) (factorial n) (choose_factorials n (suc a) b (omega arith))
    (choose_factorials n a (suc b) (omega arith))
  where
    split : (x y p q s t : ℕ) → (x + y) * (s * p * (t * q)) ≡ t * (x * (s * p * q)) + s * (y * (p * (t * q)))
    split x y p q s t = omega arith

    joined : (x y p q m : ℕ) → x * (suc a * p * q) ≡ m → y * (p * (suc b * q)) ≡ m → (x + y) * (suc a * p * (suc b * q)) ≡ suc n * m
    joined x y p q m f g =
        split x y p q (suc a) (suc b) ∙ ap₂ (λ (u v : ℕ). suc b * u + suc a * v) f g
        ∙ (let all : suc n ≡ suc b + suc a = omega arith in rw all (omega arith))

pub choose_pos : (n j : ℕ) → j ≤ n → 0 < choose n j
choose_pos n j h = cases (choose n j) (choose_factorials n (n - j) j (sub-add_cancel h))
  where
    cases : (c : ℕ) → c * (factorial (n - j) * factorial j) ≡ factorial n → 0 < c
    cases zero e = absurd (omega (arith, factorial_pos n, sym (zero-mul (factorial (n - j) * factorial j)) ∙ e))
    cases (suc c) e = omega arith

-- a! × b! divides (a+b)!, so it is no larger
pub factorials_few : (a b m : ℕ) → a + b ≤ m → factorial a * factorial b ≤ factorial m
factorials_few a b m h =
    le_trans (once (choose (a + b) b) (factorial a * factorial b) (choose_pos (a + b) b (omega arith)))
    (le_trans (le_of_eq (choose_factorials (a + b) a b refl)) (factorial_rises (a + b) m h))
  where
    once : (c x : ℕ) → 0 < c → x ≤ c * x
    once zero x h = absurd (omega arith)
    once (suc c) x h = omega arith

pub choose_mirror : (n a b : ℕ) → a + b ≡ n → choose n a ≡ choose n b
choose_mirror n a b e =
    factor_same (choose n a) (choose n b) (factorial a * factorial b) (mul-pos (factorial_pos a) (factorial_pos b))
    (ap (λ (u : ℕ). choose n a * u) (mul_comm (factorial a) (factorial b)) ∙ choose_factorials n b a (omega arith)
    ∙ sym (choose_factorials n a b e))

-- of the sets of size j each leads by one part more to n - j sets of size j + 1, and each of these arises j + 1 times
pub choose_next : (n j : ℕ) → j < n → choose n (j + 1) * (j + 1) ≡ choose n j * (n - j)
choose_next n j h =
    factor_same (choose n (j + 1) * (j + 1)) (choose n j * (n - j)) (factorial (n - (j + 1)) * factorial j)
    (mul-pos (factorial_pos (n - (j + 1))) (factorial_pos j))
    (upper (choose n (j + 1)) (j + 1) (factorial (n - (j + 1))) (factorial j)
    ∙ ap (λ (u : ℕ). choose n (j + 1) * (factorial (n - (j + 1)) * u)) (sym (factorial_next j))
    ∙ choose_factorials n (n - (j + 1)) (j + 1) (omega arith) ∙ sym (choose_factorials n (n - j) j (omega arith))
    ∙ ap (λ (u : ℕ). choose n j * (u * factorial j)) (factorial_rest n j h)
    ∙ lower (choose n j) (n - j) (factorial (n - (j + 1))) (factorial j))
  where
    upper : (x s p q : ℕ) → x * s * (p * q) ≡ x * (p * (s * q))
    upper x s p q = omega arith

    lower : (x r p q : ℕ) → x * (r * p * q) ≡ x * r * (p * q)
    lower x r p q = omega arith

-- ---- the product formula: c(0) = 1, c(i) = c(i-1) × (n-i+1) / i

-- the law of the formula, which is `choose_next` counted by i = j + 1: i × C(n,i) = (n-i+1) × C(n,i-1)
pub choose_product : (n i : ℕ) → 1 ≤ i → i ≤ n → i * choose n i ≡ (n - i + 1) * choose n (i - 1)
choose_product n i first within =
    let before : i ≡ i - 1 + 1 = omega arith in
    let left : n - i + 1 ≡ n - (i - 1) = omega arith in
    mul_comm i (choose n i) ∙ ap (λ (x : ℕ). choose n x * x) before ∙ choose_next n (i - 1) (omega arith) ∙ mul_comm (choose n (i - 1)) (n - (i - 1))
    ∙ ap (λ (x : ℕ). x * choose n (i - 1)) (sym left)

-- what a step of the formula divides is i × C(n,i): the division by i leaves nothing over, and gives C(n,i)
module _ (n i : ℕ) (first : 1 ≤ i) (within : i ≤ n) where
  divided : choose n (i - 1) * (n - i + 1) ≡ choose n i * i
  divided = omega (arith, choose_product n i first within)

  pub choose_exact : choose n (i - 1) * (n - i + 1) % i ≡ 0
  choose_exact = ap (λ (x : ℕ). x % i) divided ∙ mul-mod_left (choose n i) i

  pub choose_quotient : choose n (i - 1) * (n - i + 1) / i ≡ choose n i
  choose_quotient = ap (λ (x : ℕ). x / i) divided ∙ mul-div_cancel (choose n i) first

-- the same of a number that is C(n,i-1), and what a step divides is small
module _ (n i c : ℕ) (before : c ≡ choose n (i - 1)) where
  pub step_next : 1 ≤ i → i ≤ n → c * (n - i + 1) / i ≡ choose n i
  step_next first within = ap (λ (x : ℕ). x * (n - i + 1) / i) before ∙ choose_quotient n i first within

  pub step_small : n ≤ 16 → c * (n - i + 1) < 2 ^ 32
  step_small few =
      let factor : n - i + 1 ≤ 17 = omega arith in
      let most : c ≤ 65536 = omega (arith, before, choose_small n (i - 1) few) in
      omega (arith, mul-le-mul most factor)

-- of i + q + 1 + r parts: to choose one, i others and q of the rest
pub choose_parts : (q i r m : ℕ) → i + suc q + r ≡ m
    → choose (q + r) q * (suc i * choose m (suc i)) ≡ suc q * choose m (suc q) * choose (i + r) i
choose_parts q i r m e =
    factor_same _ _ (factorial r * factorial q * factorial i) (mul-pos (mul-pos (factorial_pos r) (factorial_pos q)) (factorial_pos i))
    (left (choose (q + r) q) (suc i) (choose m (suc i)) (factorial r) (factorial q) (factorial i)
    ∙ ap₂ (λ (u v : ℕ). choose m (suc i) * (u * v)) (choose_factorials (q + r) r q (omega arith)) (sym (factorial_suc i))
    ∙ choose_factorials m (q + r) (suc i) (omega arith)
    ∙ sym (right (suc q) (choose m (suc q)) (choose (i + r) i) (factorial r) (factorial q) (factorial i)
    ∙ ap₂ (λ (u v : ℕ). choose m (suc q) * (u * v)) (choose_factorials (i + r) r i (omega arith)) (sym (factorial_suc q))
    ∙ choose_factorials m (i + r) (suc q) (omega arith)))
  where
    left : (a s b r q i : ℕ) → a * (s * b) * (r * q * i) ≡ b * (a * (r * q) * (s * i))
    left a s b r q i = omega arith

    right : (t c d r q i : ℕ) → t * c * d * (r * q * i) ≡ c * (d * (r * i) * (t * q))
    right t c d r q i = omega arith
