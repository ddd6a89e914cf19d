-- The two routes give the same share, for any set function: through h each path set gets the very weights of 001's eq. 1. Set by set the share is
-- the count (theory_orders/proofs/Counting.antt), so both are. Assumes nothing.
use mathlib.Core.Path.{◌≡◌, refl, sym, ap, ap₂, ◌∙◌}
use mathlib.Core.Bool.{Bool, true, false, cond, ◌&&◌}
use mathlib.Core.Logic.{◌⊎◌, inl, inr}
use Prim.Native.Nat.{ℕ, zero, suc, ◌+◌, ◌-◌, ◌*◌, ◌^◌, ◌≤◌, ◌<◌}
use native.Mathlib.Nat.{add-sub_of_le}
use native.Mathlib.Omega.{arith}
use lib.Count.{ones-le}
use lib.Dec.{eqb}
use lib.IntN.{ℤ, pos, neg_ℤ, ◌+ℤ◌, ◌-ℤ◌, ◌*ℤ◌, *ℤ-zero, zero-*ℤ, pos-+ℤ-pos, pos-*ℤ-pos, +ℤ-neg_ℤ_cancel}
use borrow.Author.Tests.{eqb-true, eqb-false}
use Rattle.numbers.specs.Counts.{factorial}
use Rattle.theory_sums.specs.Sums.{indicator}
use Rattle.theory_sums.proofs.Integers.{*ℤ-unit, unit-*ℤ, ring}
use Rattle.theory_sums.proofs.IntegerSums.{sum_belowℤ_same, sum_belowℤ_add, sum_belowℤ_neg}
use Rattle.theory_sums.proofs.Differences.{difference, monomial, monomial_same, monomial_other}
use Rattle.theory_sets.specs.Masks.{size, inside, outside}
use Rattle.theory_sets.specs.Structures.{Semicoherent}
use Rattle.numbers.proofs.Bools.{true_or_false}
use Rattle.theory_orders.specs.Counting.{count}
use Rattle.theory_orders.specs.Formulas.{added, taken}
use Rattle.theory_orders.proofs.Counting.{count_and_taken}
use Rattle.theory_sums.proofs.IntegerSums.{sum_below_pos}
use Rattle.shares_claim.specs.Polynomials.{integral, share_from}
use Rattle.shares_claim.specs.SetBySet.{share_of}
use Rattle.shares_claim.specs.Reliability.{reliability}
use Rattle.shares_claim.proofs.Integrals.{integral_last}
use Rattle.shares_claim.proofs.Types.{inside_most, outside_most, inside_and_outside, sum_reliability}
use Rattle.shares_claim.proofs.Algorithm.{chosen, coefficient_weights, chosen_difference, integral_difference}

-- ---- set by set

pub share_is_count : (n : ℕ) (works : ℕ → Bool) → Semicoherent n works → (group : ℕ) → group < 2 ^ n → (k : ℕ) → k ≤ size group
    → share_of n works group k ≡ pos (count n works group k)
unfolding share_of
share_is_count n works coherent group within k most =
    ap (λ (u : ℕ). pos u -ℤ pos (taken n works group k)) (sym (count_and_taken n works coherent group within k most))
    ∙ ap (λ (u : ℤ). u -ℤ pos (taken n works group k)) (sym (pos-+ℤ-pos (count n works group k) (taken n works group k)))
    ∙ +ℤ-neg_ℤ_cancel (pos (count n works group k)) (pos (taken n works group k))

-- ---- the weight of a set

-- a set with a parts in the group and b outside, s in all
module _ (n m k a b s : ℕ) (some : 1 ≤ k) (most : k ≤ m) (within : m ≤ n) (few : a ≤ m) (rest : b ≤ n - m) (all : a + b ≡ s) where
  -- what the integral gives it
  left : ℕ
  left = integral n (m - k + b) (n - m - b + (k - 1))

  left_last : left ≡ factorial (m - k + b) * factorial (n - m - b + (k - 1))
  unfolding left
  left_last = integral_last n (m - k + b) (n - m - b + (k - 1)) (omega arith)

  -- what is left of a coefficient x of the power that is met
  met : (x y r before after : ℕ) → x ≡ y → r ≡ k - 1 → m - k + b ≡ before → n - m - b + (k - 1) ≡ after
      → pos x *ℤ monomial (k - 1) r *ℤ pos left ≡ pos (y * factorial before * factorial after)
  met x y r before after own lacks first second =
      ap₂ (λ (u : ℤ) (v : ℕ). pos x *ℤ u *ℤ pos v) (ap (monomial (k - 1)) lacks ∙ monomial_same (k - 1))
      (left_last ∙ ap₂ (λ (p q : ℕ). factorial p * factorial q) first second)
      ∙ ap (λ (u : ℤ). u *ℤ pos (factorial before * factorial after)) (*ℤ-unit (pos x))
      ∙ pos-*ℤ-pos x (factorial before * factorial after)
      ∙ ap pos (ap (λ (z : ℕ). z * (factorial before * factorial after)) own ∙ joined y (factorial before) (factorial after))
    where
      joined : (x p q : ℕ) → x * (p * q) ≡ x * p * q
      joined x p q = omega arith

  after_added : a ≡ m - k + 1 → n - m - b + (k - 1) ≡ n - s
  after_added own = omega arith

  after_taken : a ≡ m - k → n - m - b + (k - 1) ≡ n - s - 1
  after_taken own = omega arith

  weight_added : pos a *ℤ monomial (k - 1) (m - a) *ℤ pos left ≡ pos (cond (eqb a (m - k + 1)) ((m - k + 1) * factorial (s - 1) * factorial (n - s)) 0)
  weight_added = cases (true_or_false (eqb a (m - k + 1)))
    where
      cases : (eqb a (m - k + 1) ≡ true) ⊎ (eqb a (m - k + 1) ≡ false)
          → pos a *ℤ monomial (k - 1) (m - a) *ℤ pos left ≡ pos (cond (eqb a (m - k + 1)) ((m - k + 1) * factorial (s - 1) * factorial (n - s)) 0)
      cases (inl t) =
          let own : a ≡ m - k + 1 = eqb-true a (m - k + 1) t in
          rw t (met a (m - k + 1) (m - a) (s - 1) (n - s) own (omega arith) (omega arith) (after_added own))
      cases (inr t) =
          let other : a ≡ m - k + 1 → ⊥ = eqb-false a (m - k + 1) t in
          rw t (ap (λ (u : ℤ). pos a *ℤ u *ℤ pos left) (monomial_other (k - 1) (m - a) (λ e. other (omega arith)))
          ∙ ap (λ (u : ℤ). u *ℤ pos left) (*ℤ-zero (pos a)) ∙ zero-*ℤ (pos left))

  weight_taken : pos (m - a) *ℤ monomial (k - 1) (m - a - 1) *ℤ pos left ≡ pos (cond (eqb a (m - k)) (k * factorial s * factorial (n - s - 1)) 0)
  weight_taken = cases (true_or_false (eqb a (m - k)))
    where
      none : (a ≡ m - k → ⊥) → (lacks : ℕ) → lacks ≡ m - a → pos lacks *ℤ monomial (k - 1) (lacks - 1) ≡ pos 0
      none other zero e = zero-*ℤ (monomial (k - 1) (0 - 1))
      none other (suc lacks) e =
          ap (λ (u : ℤ). pos (suc lacks) *ℤ u) (monomial_other (k - 1) (suc lacks - 1) (λ p. other (omega arith))) ∙ *ℤ-zero (pos (suc lacks))

      cases : (eqb a (m - k) ≡ true) ⊎ (eqb a (m - k) ≡ false)
          → pos (m - a) *ℤ monomial (k - 1) (m - a - 1) *ℤ pos left ≡ pos (cond (eqb a (m - k)) (k * factorial s * factorial (n - s - 1)) 0)
      cases (inl t) =
          let own : a ≡ m - k = eqb-true a (m - k) t in
          rw t (met (m - a) k (m - a - 1) s (n - s - 1) (omega arith) (omega arith) (omega arith) (after_taken own))
      cases (inr t) =
          rw t (ap (λ (u : ℤ). u *ℤ pos left) (none (eqb-false a (m - k) t) (m - a) refl) ∙ zero-*ℤ (pos left))

  -- the differences of the weights in x and in z
  pub weight_of_type : difference (m - a) (chosen m k) a *ℤ difference (n - m - b) (λ j. pos (integral n (m - k + j) (k - 1))) b
      ≡ pos (cond (eqb a (m - k + 1)) ((m - k + 1) * factorial (s - 1) * factorial (n - s)) 0)
      -ℤ pos (cond (eqb a (m - k)) (k * factorial s * factorial (n - s - 1)) 0)
  unfolding left
  weight_of_type =
      ap₂ (λ (u v : ℤ). u *ℤ v) (chosen_difference m k a (m - a) (add-sub_of_le few)) (integral_difference n m k b some most within rest)
      ∙ apart (pos a *ℤ monomial (k - 1) (m - a)) (pos (m - a) *ℤ monomial (k - 1) (m - a - 1)) (pos left)
      ∙ ap₂ (λ (u v : ℤ). u -ℤ v) weight_added weight_taken
    where
      apart : (x y z : ℤ) → (x -ℤ y) *ℤ z ≡ x *ℤ z -ℤ y *ℤ z
      apart x y z = simp ring

-- ---- through h

pub routes_agree : (n : ℕ) (works : ℕ → Bool) (group : ℕ) → group < 2 ^ n → (k : ℕ) → 1 ≤ k → k ≤ size group
    → share_from n (size group) (reliability n works group) k ≡ share_of n works group k
unfolding share_from share_of added taken
routes_agree n works group within k some most =
    sum_belowℤ_same _ _ (suc (n - size group)) (λ j l.
    ap (λ (u : ℤ). u *ℤ pos (integral n (size group - k + j) (k - 1))) (coefficient_weights (size group) (omega arith) (reliability n works group) k j))
    ∙ sum_reliability n works group within (chosen (size group) k) (λ j. pos (integral n (size group - k + j) (k - 1)))
    ∙ sum_belowℤ_same _ (λ b. pos (plus b) +ℤ neg_ℤ (pos (minus b))) (2 ^ n) (λ b l.
    ap (λ (u : ℤ). pos (indicator (works b)) *ℤ u)
    (weight_of_type n (size group) k (inside group b) (outside group b) (size b) some most (ones-le n group within)
    (inside_most n group b within l) (outside_most n group b within l) (inside_and_outside n group b within l))
    ∙ of_path_sets (works b) (eqb (inside group b) (size group - k + 1)) (eqb (inside group b) (size group - k))
    ((size group - k + 1) * factorial (size b - 1) * factorial (n - size b)) (k * factorial (size b) * factorial (n - size b - 1)))
    ∙ sum_belowℤ_add (λ b. pos (plus b)) (λ b. neg_ℤ (pos (minus b))) (2 ^ n)
    ∙ ap₂ (λ (u v : ℤ). u +ℤ v) (sym (sum_below_pos plus (2 ^ n)))
    (sum_belowℤ_neg (λ b. pos (minus b)) (2 ^ n) ∙ ap neg_ℤ (sym (sum_below_pos minus (2 ^ n))))
  where
    plus : ℕ → ℕ
    plus b =
        cond (works b && eqb (inside group b) (size group - k + 1)) ((size group - k + 1) * factorial (size b - 1) * factorial (n - size b)) 0

    minus : ℕ → ℕ
    minus b = cond (works b && eqb (inside group b) (size group - k)) (k * factorial (size b) * factorial (n - size b - 1)) 0

    of_path_sets : (w p q : Bool) (x y : ℕ)
        → pos (indicator w) *ℤ (pos (cond p x 0) -ℤ pos (cond q y 0)) ≡ pos (cond (w && p) x 0) +ℤ neg_ℤ (pos (cond (w && q) y 0))
    of_path_sets true p q x y = unit-*ℤ (pos (cond p x 0) -ℤ pos (cond q y 0))
    of_path_sets false p q x y = zero-*ℤ (pos (cond p x 0) -ℤ pos (cond q y 0))
