-- Differences and binomials: the coefficients of x^a (1-x)^n are binomials with alternating signs, a binomial as a function of its row falls to
-- a single 1, and a function of two numbers that falls by its neighbour has that neighbour's values for differences. Assumes nothing.
use mathlib.Core.Path.{◌≡◌, refl, sym, ap, ap₂, ◌∙◌}
use mathlib.Core.Bool.{Bool, cond}
use Prim.Native.Nat.{ℕ, zero, suc, ◌+◌, ◌-◌, ◌<◌, ◌≤◌}
use native.Mathlib.Nat.{zero-add, add-zero, add-suc, suc-add}
use native.Mathlib.Numerals.{add-one}
use native.Mathlib.Omega.{arith}
use lib.Dec.{eqb-zero-suc, eqb-suc-zero, eqb-suc-suc}
use lib.IntN.{ℤ, pos, negsuc, neg_ℤ, ◌+ℤ◌, ◌-ℤ◌, ◌*ℤ◌, one, pow, +ℤ-neg_ℤ_cancel, *ℤ-zero}
use Rattle.numbers.specs.Counts.{choose}
use Rattle.theory_sums.proofs.Differences.{difference, monomial, monomial_same, monomial_other, difference_same, difference_zero, difference_difference}
use Rattle.theory_sums.proofs.Integers.{*ℤ-unit, *ℤ-negℤ, ring}

-- the difference of one order more is that of the first differences
first : (n : ℕ) (f : ℕ → ℤ) (a : ℕ) → difference n (λ i. f i -ℤ f (suc i)) a ≡ difference (suc n) f a
unfolding difference
first n f a = difference_difference n 1 f a ∙ ap (λ (x : ℕ). difference x f a) (add-one n)

-- ---- the coefficients of x^a (1-x)^n

-- there is none below x^a
pub difference_below : (n i a : ℕ) → i < a → difference n (monomial i) a ≡ pos 0
unfolding difference
difference_below zero i a h = monomial_other i a (λ e. omega arith)
difference_below (suc n) i a h = ap₂ (λ (u v : ℤ). u -ℤ v) (difference_below n i a h) (difference_below n i (suc a) (omega arith))

pub difference_monomial : (n a k : ℕ) → difference n (monomial (a + k)) a ≡ pow (negsuc 0) k *ℤ pos (choose n k)
unfolding difference choose pow one
difference_monomial zero a zero = ap (λ (x : ℕ). monomial x a) (add-zero a) ∙ monomial_same a
difference_monomial zero a (suc k) = monomial_other (a + suc k) a (λ e. omega arith) ∙ sym (*ℤ-zero (pow (negsuc 0) k *ℤ negsuc 0))
difference_monomial (suc n) a zero =
    ap₂ (λ (u v : ℤ). u -ℤ v) (difference_monomial n a zero) (difference_below n (a + 0) (suc a) (omega arith))
difference_monomial (suc n) a (suc k) =
    ap₂ (λ (u v : ℤ). u -ℤ v) (difference_monomial n a (suc k))
    (ap (λ (x : ℕ). difference n (monomial x) (suc a)) (add-suc a k ∙ sym (suc-add a k)) ∙ difference_monomial n (suc a) k)
    ∙ pascal (pow (negsuc 0) k) (pos (choose n k)) (pos (choose n (suc k)))
  where
    minus : (x : ℤ) → x *ℤ negsuc 0 ≡ neg_ℤ x
    minus x = *ℤ-negℤ x (pos 1) ∙ ap neg_ℤ (*ℤ-unit x)

    joined : (s x y : ℤ) → neg_ℤ s *ℤ y -ℤ s *ℤ x ≡ neg_ℤ s *ℤ (x +ℤ y)
    joined s x y = simp ring

    pascal : (s x y : ℤ) → s *ℤ negsuc 0 *ℤ y -ℤ s *ℤ x ≡ s *ℤ negsuc 0 *ℤ (x +ℤ y)
    pascal s x y =
        ap (λ (u : ℤ). u *ℤ y -ℤ s *ℤ x) (minus s) ∙ joined s x y ∙ ap (λ (u : ℤ). u *ℤ (x +ℤ y)) (sym (minus s))

-- ---- a binomial by its row

-- of a machine of m parts: the number of ways to choose q of the parts left after i, and of that the difference down to no part left
pub difference_choose : (m q a n : ℕ) → a + n ≡ m → difference n (λ i. pos (choose (m - i) q)) a ≡ monomial q n
unfolding difference choose monomial
difference_choose m q a zero h = ap (λ (x : ℕ). pos (choose x q)) (omega arith) ∙ none q
  where
    none : (k : ℕ) → pos (choose 0 k) ≡ monomial k 0
    none zero = refl
    none (suc k) = ap (λ (b : Bool). cond b (pos 1) (pos 0)) (sym (eqb-suc-zero k))
difference_choose m zero a (suc n) h =
    sym (first n (λ i. pos (choose (m - i) 0)) a) ∙ difference_zero n a ∙ ap (λ (b : Bool). cond b (pos 1) (pos 0)) (sym (eqb-zero-suc n))
difference_choose m (suc q) a (suc n) h =
    sym (first n (λ i. pos (choose (m - i) (suc q))) a)
    ∙ difference_same n _ (λ i. pos (choose (a + n - i) q)) a (λ i l k. row i k)
    ∙ difference_choose (a + n) q a n refl
    ∙ ap (λ (b : Bool). cond b (pos 1) (pos 0)) (sym (eqb-suc-suc q n))
  where
    row : (i : ℕ) → i ≤ a + n → pos (choose (m - i) (suc q)) -ℤ pos (choose (m - suc i) (suc q)) ≡ pos (choose (a + n - i) q)
    row i k =
        let above : m - i ≡ suc (a + n - i) = omega arith in
        let below : m - suc i ≡ a + n - i = omega arith in
        rw (above, below) (+ℤ-neg_ℤ_cancel (pos (choose (a + n - i) q)) (pos (choose (a + n - i) (suc q))))

-- ---- a function that falls by its neighbour

pub difference_falls : (f : ℕ → ℕ → ℤ) (most : ℕ) → ((p q : ℕ) → p + q < most → f p q ≡ f (suc p) q +ℤ f p (suc q))
    → (n a q : ℕ) → a + n + q ≤ most → difference n (λ p. f p q) a ≡ f a (n + q)
unfolding difference
difference_falls f most falls zero a q h = ap (f a) (sym (zero-add q))
difference_falls f most falls (suc n) a q h =
    ap₂ (λ (u v : ℤ). u -ℤ v) (difference_falls f most falls n a q (omega arith)) (difference_falls f most falls n (suc a) q (omega arith))
    ∙ ap (λ (u : ℤ). u -ℤ f (suc a) (n + q)) (falls a (n + q) (omega arith)) ∙ left (f (suc a) (n + q)) (f a (suc (n + q)))
    ∙ ap (f a) (sym (suc-add n q))
  where
    left : (x y : ℤ) → x +ℤ y -ℤ x ≡ y
    left x y = simp ring
