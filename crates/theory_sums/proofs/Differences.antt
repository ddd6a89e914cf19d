-- Repeated differences and their laws: a difference of differences is one, a factor i comes out by Leibniz' rule, and a sum over the coefficients
-- of an expansion is a sum of differences. Assumes nothing.
use mathlib.Core.Path.{◌≡◌, refl, sym, ap, ap₂, ◌∙◌}
use mathlib.Core.Bool.{Bool, cond}
use mathlib.Core.Logic.{◌⊎◌, inl, inr}
use Prim.Native.Nat.{ℕ, zero, suc, ◌+◌, ◌-◌, ◌<◌, ◌≤◌}
use native.Mathlib.Nat.{le_refl, zero-add, suc-add, not-suc-le-zero, le_of_suc-le-suc, eq-or-lt_of_le}
use native.Mathlib.Numerals.{add-one}
use native.Mathlib.Omega.{arith}
use lib.Dec.{eqb}
use lib.IntN.{ℤ, pos, neg_ℤ, ◌+ℤ◌, ◌-ℤ◌, ◌*ℤ◌, +ℤ_idl, +ℤ_idr, *ℤ-zero}
use borrow.Author.Tests.{eq-eqb, ne_eqb}
use Rattle.theory_sums.specs.Sums.{sum_belowℤ}
use Rattle.theory_sums.proofs.IntegerSums.{sum_belowℤ_same, sum_belowℤ_zero, sum_belowℤ_add, sum_belowℤ_mul, sum_belowℤ_neg, sum_belowℤ_exchange}
use Rattle.theory_sums.proofs.Integers.{*ℤ-unit, *ℤ-left-comm, ring}

-- ---- the definitions: whatever is linear in polynomials and gives f i at x^i gives the difference of order n of f at a, at x^a (1-x)^n

-- the difference of order n of f at a
unfoldable pub difference : ℕ → (ℕ → ℤ) → ℕ → ℤ
difference zero f a = f a
difference (suc n) f a = difference n f a -ℤ difference n f (suc a)

-- the coefficient of x^i in x^a
unfoldable pub monomial : ℕ → ℕ → ℤ
monomial i a = cond (eqb i a) (pos 1) (pos 0)

-- the coefficient of x^i in the sum over a from 0 to m of u a × x^a (1-x)^(m-a)
unfoldable pub expansion : ℕ → (ℕ → ℤ) → ℕ → ℤ
expansion m u i = sum_belowℤ (λ a. u a *ℤ difference (m - a) (monomial i) a) (suc m)

-- ---- differences

pos_suc : (n : ℕ) → pos (suc n) ≡ pos n +ℤ pos 1
pos_suc n = ap pos (sym (add-one n))

pub difference_same : (n : ℕ) (f g : ℕ → ℤ) (a : ℕ) → ((i : ℕ) → a ≤ i → i ≤ a + n → f i ≡ g i) → difference n f a ≡ difference n g a
unfolding difference
difference_same zero f g a h = h a (le_refl a) (omega arith)
difference_same (suc n) f g a h =
    ap₂ (λ (u v : ℤ). u -ℤ v) (difference_same n f g a (λ i l m. h i l (omega arith)))
    (difference_same n f g (suc a) (λ i l m. h i (omega arith) (omega arith)))

pub difference_zero : (n a : ℕ) → difference n (λ i. pos 0) a ≡ pos 0
unfolding difference
difference_zero zero a = refl
difference_zero (suc n) a = ap₂ (λ (u v : ℤ). u -ℤ v) (difference_zero n a) (difference_zero n (suc a))

-- the difference of a difference
pub difference_difference : (n k : ℕ) (f : ℕ → ℤ) (a : ℕ) → difference n (difference k f) a ≡ difference (n + k) f a
unfolding difference
difference_difference zero k f a = ap (λ (x : ℕ). difference x f a) (sym (zero-add k))
difference_difference (suc n) k f a =
    ap₂ (λ (u v : ℤ). u -ℤ v) (difference_difference n k f a) (difference_difference n k f (suc a))
    ∙ ap (λ (x : ℕ). difference x f a) (sym (suc-add n k))

-- Leibniz' rule for a factor i
pub difference_factor : (n : ℕ) (f : ℕ → ℤ) (a : ℕ)
    → difference (suc n) (λ i. pos i *ℤ f i) a ≡ pos a *ℤ difference (suc n) f a -ℤ pos (suc n) *ℤ difference n f (suc a)
unfolding difference
difference_factor zero f a =
    ap (λ (x : ℤ). pos a *ℤ f a -ℤ x *ℤ f (suc a)) (pos_suc a) ∙ first (pos a) (f a) (f (suc a))
  where
    first : (a x y : ℤ) → a *ℤ x -ℤ (a +ℤ pos 1) *ℤ y ≡ a *ℤ (x -ℤ y) -ℤ pos 1 *ℤ y
    first a x y = simp ring
difference_factor (suc n) f a =
    ap₂ (λ (u v : ℤ). u -ℤ v) (difference_factor n f a)
    (difference_factor n f (suc a)
    ∙ ap (λ (x : ℤ). x *ℤ difference (suc n) f (suc a) -ℤ pos (suc n) *ℤ difference n f (suc (suc a))) (pos_suc a))
    ∙ next (pos a) (pos (suc n)) (difference (suc n) f a) (difference n f (suc a)) (difference n f (suc (suc a)))
    ∙ ap (λ (x : ℤ). pos a *ℤ difference (suc (suc n)) f a -ℤ x *ℤ difference (suc n) f (suc a)) (sym (pos_suc (suc n)))
  where
    next : (a n x y z : ℤ) → a *ℤ x -ℤ n *ℤ y -ℤ ((a +ℤ pos 1) *ℤ (y -ℤ z) -ℤ n *ℤ z) ≡ a *ℤ (x -ℤ (y -ℤ z)) -ℤ (n +ℤ pos 1) *ℤ (y -ℤ z)
    next a n x y z = simp ring

-- ---- polynomials

pub monomial_same : (a : ℕ) → monomial a a ≡ pos 1
unfolding monomial
monomial_same a = ap (λ (b : Bool). cond b (pos 1) (pos 0)) (eq-eqb a a refl)

pub monomial_other : (i a : ℕ) → (i ≡ a → ⊥) → monomial i a ≡ pos 0
unfolding monomial
monomial_other i a h = rw (ne_eqb i a h)

-- a sum of values at powers, by the coefficients of a single power
sum_monomial : (f : ℕ → ℤ) (a k : ℕ) → a < k → sum_belowℤ (λ i. f i *ℤ monomial i a) k ≡ f a
unfolding sum_belowℤ monomial
sum_monomial f a zero h = absurd (not-suc-le-zero h)
sum_monomial f a (suc k) h = cases (eq-or-lt_of_le (le_of_suc-le-suc h)) (sum_monomial f a k)
  where
    other : (i : ℕ) → (i ≡ a → ⊥) → f i *ℤ monomial i a ≡ pos 0
    other i h = ap (λ (u : ℤ). f i *ℤ u) (monomial_other i a h) ∙ *ℤ-zero (f i)

    cases : (a ≡ k) ⊎ (a < k) → (a < k → sum_belowℤ (λ i. f i *ℤ monomial i a) k ≡ f a)
        → sum_belowℤ (λ i. f i *ℤ monomial i a) k +ℤ f k *ℤ monomial k a ≡ f a
    cases (inl e) ih =
        ap₂ (λ (u v : ℤ). u +ℤ v)
        (sum_belowℤ_same _ (λ i. pos 0) k (λ i l. other i (λ p. omega arith)) ∙ sum_belowℤ_zero k)
        (ap (λ (x : ℕ). f k *ℤ monomial k x) e ∙ ap (λ (u : ℤ). f k *ℤ u) (monomial_same k) ∙ *ℤ-unit (f k))
        ∙ +ℤ_idl (f k) ∙ ap f (sym e)
    cases (inr l) ih = ap₂ (λ (u v : ℤ). u +ℤ v) (ih l) (other k (λ p. omega arith)) ∙ +ℤ_idr (f a)

-- whatever gives f i at x^i gives the difference at x^a (1-x)^n
pub sum_difference : (n : ℕ) (f : ℕ → ℤ) (a k : ℕ) → a + n < k → sum_belowℤ (λ i. f i *ℤ difference n (monomial i) a) k ≡ difference n f a
unfolding difference
sum_difference zero f a k h = sum_monomial f a k (omega arith)
sum_difference (suc n) f a k h =
    sum_belowℤ_same _ (λ i. f i *ℤ difference n (monomial i) a +ℤ neg_ℤ (f i *ℤ difference n (monomial i) (suc a))) k (λ i l.
    out (f i) (difference n (monomial i) a) (difference n (monomial i) (suc a)))
    ∙ sum_belowℤ_add (λ i. f i *ℤ difference n (monomial i) a) (λ i. neg_ℤ (f i *ℤ difference n (monomial i) (suc a))) k
    ∙ ap₂ (λ (u v : ℤ). u +ℤ v) (sum_difference n f a k (omega arith))
    (sum_belowℤ_neg (λ i. f i *ℤ difference n (monomial i) (suc a)) k ∙ ap neg_ℤ (sum_difference n f (suc a) k (omega arith)))
  where
    out : (c x y : ℤ) → c *ℤ (x -ℤ y) ≡ c *ℤ x +ℤ neg_ℤ (c *ℤ y)
    out c x y = simp ring

pub sum_expansion : (m : ℕ) (f u : ℕ → ℤ)
    → sum_belowℤ (λ i. f i *ℤ expansion m u i) (suc m) ≡ sum_belowℤ (λ a. u a *ℤ difference (m - a) f a) (suc m)
unfolding expansion
sum_expansion m f u =
    sum_belowℤ_same _ (λ i. sum_belowℤ (λ a. u a *ℤ (f i *ℤ difference (m - a) (monomial i) a)) (suc m)) (suc m) (λ i l.
    sym (sum_belowℤ_mul (f i) (λ a. u a *ℤ difference (m - a) (monomial i) a) (suc m))
    ∙ sum_belowℤ_same _ _ (suc m) (λ a h. *ℤ-left-comm (f i) (u a) (difference (m - a) (monomial i) a)))
    ∙ sum_belowℤ_exchange (λ i a. u a *ℤ (f i *ℤ difference (m - a) (monomial i) a)) (suc m) (suc m)
    ∙ sum_belowℤ_same _ _ (suc m) (λ a h.
    sum_belowℤ_mul (u a) (λ i. f i *ℤ difference (m - a) (monomial i) a) (suc m)
    ∙ ap (λ (x : ℤ). u a *ℤ x) (sum_difference (m - a) f a (suc m) (omega arith)))
