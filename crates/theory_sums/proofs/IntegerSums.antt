-- Laws of sums of integers over the numbers below a bound: equal, added, multiplied and negated terms, two sums exchanged, the terms from the
-- first on and in the opposite order, joined ranges, a sum of which a single term is left, and a sum of counts as one of integers.
-- Assumes nothing.
use mathlib.Core.Path.{◌≡◌, refl, sym, ap, ap₂, ◌∙◌}
use mathlib.Core.Logic.{◌⊎◌, inl, inr}
use Prim.Native.Nat.{ℕ, zero, suc, ◌+◌, ◌-◌, ◌^◌, ◌≤◌, ◌<◌}
use native.Mathlib.Nat.{not-suc-le-zero, le_of_suc-le-suc, eq-or-lt_of_le, le_step, lt-suc_self, add-zero, add-suc, add_comm, two-pow-succ, sub-zero, suc-sub-suc}
use native.Mathlib.Omega.{arith}
use lib.Arith.{le-zero}
use lib.IntN.{ℤ, pos, neg_ℤ, ◌+ℤ◌, ◌*ℤ◌, pos-+ℤ-pos, +ℤ_idl, +ℤ_idr, +ℤ_assoc, +ℤ_comm, *ℤ-zero, neg_ℤ-+ℤ}
use Rattle.theory_sums.specs.Sums.{sum_below, sum_belowℤ}
use Rattle.theory_sums.proofs.Integers.{*ℤ-+ℤ, ring}

pub sum_belowℤ_same : (f g : ℕ → ℤ) (k : ℕ) → ((i : ℕ) → i < k → f i ≡ g i) → sum_belowℤ f k ≡ sum_belowℤ g k
unfolding sum_belowℤ
sum_belowℤ_same f g zero h = refl
sum_belowℤ_same f g (suc k) h = ap₂ (λ (u v : ℤ). u +ℤ v) (sum_belowℤ_same f g k (λ i l. h i (le_step l))) (h k (lt-suc_self k))

pub sum_belowℤ_zero : (k : ℕ) → sum_belowℤ (λ i. pos 0) k ≡ pos 0
unfolding sum_belowℤ
sum_belowℤ_zero zero = refl
sum_belowℤ_zero (suc k) = ap (λ (u : ℤ). u +ℤ pos 0) (sum_belowℤ_zero k)

pub sum_belowℤ_add : (f g : ℕ → ℤ) (k : ℕ) → sum_belowℤ (λ i. f i +ℤ g i) k ≡ sum_belowℤ f k +ℤ sum_belowℤ g k
unfolding sum_belowℤ
sum_belowℤ_add f g zero = refl
sum_belowℤ_add f g (suc k) = ap (λ (u : ℤ). u +ℤ (f k +ℤ g k)) (sum_belowℤ_add f g k) ∙ swap (sum_belowℤ f k) (sum_belowℤ g k) (f k) (g k)
  where
    swap : (a b c d : ℤ) → a +ℤ b +ℤ (c +ℤ d) ≡ a +ℤ c +ℤ (b +ℤ d)
    swap a b c d = simp ring

pub sum_belowℤ_mul : (c : ℤ) (f : ℕ → ℤ) (k : ℕ) → sum_belowℤ (λ i. c *ℤ f i) k ≡ c *ℤ sum_belowℤ f k
unfolding sum_belowℤ
sum_belowℤ_mul c f zero = sym (*ℤ-zero c)
sum_belowℤ_mul c f (suc k) = ap (λ (u : ℤ). u +ℤ c *ℤ f k) (sum_belowℤ_mul c f k) ∙ sym (*ℤ-+ℤ c (sum_belowℤ f k) (f k))

pub sum_belowℤ_neg : (f : ℕ → ℤ) (k : ℕ) → sum_belowℤ (λ i. neg_ℤ (f i)) k ≡ neg_ℤ (sum_belowℤ f k)
unfolding sum_belowℤ
sum_belowℤ_neg f zero = refl
sum_belowℤ_neg f (suc k) = ap (λ (u : ℤ). u +ℤ neg_ℤ (f k)) (sum_belowℤ_neg f k) ∙ sym (neg_ℤ-+ℤ (sum_belowℤ f k) (f k))

pub sum_belowℤ_exchange : (f : ℕ → ℕ → ℤ) (k l : ℕ) → sum_belowℤ (λ i. sum_belowℤ (f i) l) k ≡ sum_belowℤ (λ j. sum_belowℤ (λ i. f i j) k) l
unfolding sum_belowℤ
sum_belowℤ_exchange f zero l = sym (sum_belowℤ_zero l)
sum_belowℤ_exchange f (suc k) l =
    ap (λ (u : ℤ). u +ℤ sum_belowℤ (f k) l) (sum_belowℤ_exchange f k l) ∙ sym (sum_belowℤ_add (λ j. sum_belowℤ (λ i. f i j) k) (f k) l)

-- the first term apart
pub sum_belowℤ_first : (f : ℕ → ℤ) (k : ℕ) → sum_belowℤ f (suc k) ≡ f 0 +ℤ sum_belowℤ (λ i. f (suc i)) k
unfolding sum_belowℤ
sum_belowℤ_first f zero = +ℤ_idl (f 0) ∙ sym (+ℤ_idr (f 0))
sum_belowℤ_first f (suc k) =
    ap (λ (u : ℤ). u +ℤ f (suc k)) (sum_belowℤ_first f k) ∙ +ℤ_assoc (f 0) (sum_belowℤ (λ i. f (suc i)) k) (f (suc k))

-- the terms in the opposite order
pub sum_belowℤ_reversed : (f : ℕ → ℤ) (d : ℕ) → sum_belowℤ (λ i. f (d - i)) (suc d) ≡ sum_belowℤ f (suc d)
unfolding sum_belowℤ
sum_belowℤ_reversed f zero = ap (λ (u : ℤ). pos 0 +ℤ u) (ap f (sub-zero 0))
sum_belowℤ_reversed f (suc d) =
    sum_belowℤ_first (λ i. f (suc d - i)) (suc d)
    ∙ ap₂ (λ (u v : ℤ). u +ℤ v) (ap f (sub-zero (suc d)))
    (sum_belowℤ_same _ (λ i. f (d - i)) (suc d) (λ i l. ap f (suc-sub-suc d i)) ∙ sum_belowℤ_reversed f d)
    ∙ +ℤ_comm (f (suc d)) (sum_belowℤ f (suc d))

-- ---- joined ranges

pub sum_belowℤ_beyond : (f : ℕ → ℤ) (k m : ℕ) → k ≤ m → ((i : ℕ) → k ≤ i → i < m → f i ≡ pos 0) → sum_belowℤ f k ≡ sum_belowℤ f m
unfolding sum_belowℤ
sum_belowℤ_beyond f k zero h none = ap (sum_belowℤ f) (le-zero h)
sum_belowℤ_beyond f k (suc m) h none = cases (eq-or-lt_of_le h) (sum_belowℤ_beyond f k m)
  where
    cases : (k ≡ suc m) ⊎ (k < suc m) → (k ≤ m → ((i : ℕ) → k ≤ i → i < m → f i ≡ pos 0) → sum_belowℤ f k ≡ sum_belowℤ f m)
        → sum_belowℤ f k ≡ sum_belowℤ f m +ℤ f m
    cases (inl e) ih = ap (sum_belowℤ f) e
    cases (inr l) ih =
        ih (le_of_suc-le-suc l) (λ i a b. none i a (le_step b)) ∙ sym (+ℤ_idr (sum_belowℤ f m))
        ∙ ap (λ (u : ℤ). sum_belowℤ f m +ℤ u) (sym (none m (le_of_suc-le-suc l) (lt-suc_self m)))

pub sum_belowℤ_append : (f : ℕ → ℤ) (k l : ℕ) → sum_belowℤ f (k + l) ≡ sum_belowℤ f k +ℤ sum_belowℤ (λ i. f (k + i)) l
unfolding sum_belowℤ
sum_belowℤ_append f k zero = ap (sum_belowℤ f) (add-zero k) ∙ sym (+ℤ_idr (sum_belowℤ f k))
sum_belowℤ_append f k (suc l) =
    ap (sum_belowℤ f) (add-suc k l) ∙ ap (λ (u : ℤ). u +ℤ f (k + l)) (sum_belowℤ_append f k l)
    ∙ +ℤ_assoc (sum_belowℤ f k) (sum_belowℤ (λ i. f (k + i)) l) (f (k + l))

-- the masks of n + 1 parts: those of n parts, without and with the last part
pub sum_belowℤ_masks : (f : ℕ → ℤ) (n : ℕ) → sum_belowℤ f (2 ^ suc n) ≡ sum_belowℤ f (2 ^ n) +ℤ sum_belowℤ (λ a. f (a + 2 ^ n)) (2 ^ n)
sum_belowℤ_masks f n =
    ap (sum_belowℤ f) (two-pow-succ n) ∙ sum_belowℤ_append f (2 ^ n) (2 ^ n)
    ∙ ap (λ (u : ℤ). sum_belowℤ f (2 ^ n) +ℤ u)
    (sum_belowℤ_same (λ i. f (2 ^ n + i)) (λ a. f (a + 2 ^ n)) (2 ^ n) (λ i h. ap f (add_comm (2 ^ n) i)))

-- ---- single terms

pub sum_belowℤ_only : (f : ℕ → ℤ) (x k : ℕ) → x < k → ((i : ℕ) → i < k → (i ≡ x → ⊥) → f i ≡ pos 0) → sum_belowℤ f k ≡ f x
unfolding sum_belowℤ
sum_belowℤ_only f x zero h none = absurd (not-suc-le-zero h)
sum_belowℤ_only f x (suc k) h none = cases (eq-or-lt_of_le (le_of_suc-le-suc h)) (sum_belowℤ_only f x k)
  where
    cases : (x ≡ k) ⊎ (x < k) → (x < k → ((i : ℕ) → i < k → (i ≡ x → ⊥) → f i ≡ pos 0) → sum_belowℤ f k ≡ f x)
        → sum_belowℤ f k +ℤ f k ≡ f x
    cases (inl e) ih =
        ap (λ (u : ℤ). u +ℤ f k) (sum_belowℤ_same f (λ i. pos 0) k (λ i l. none i (le_step l) (λ p. omega arith)) ∙ sum_belowℤ_zero k)
        ∙ +ℤ_idl (f k) ∙ ap f (sym e)
    cases (inr l) ih =
        ap₂ (λ (u v : ℤ). u +ℤ v) (ih l (λ i m. none i (le_step m))) (none k (lt-suc_self k) (λ p. omega arith)) ∙ +ℤ_idr (f x)

pub sum_below_pos : (f : ℕ → ℕ) (k : ℕ) → pos (sum_below f k) ≡ sum_belowℤ (λ i. pos (f i)) k
unfolding sum_below sum_belowℤ
sum_below_pos f zero = refl
sum_below_pos f (suc k) = sym (pos-+ℤ-pos (sum_below f k) (f k)) ∙ ap (λ (u : ℤ). u +ℤ pos (f k)) (sum_below_pos f k)
