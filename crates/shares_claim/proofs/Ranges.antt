-- How large the sums of the set-by-set route can be: neither the added nor the taken weights are over n!, nor is a share. All sets with s parts in
-- the group together weigh what they weigh in the machine that runs while s parts of the group do, and there nothing is taken.
-- Assumes nothing.
use mathlib.Core.Path.{◌≡◌, refl, sym, ap, ◌∙◌}
use mathlib.Core.Bool.{Bool, true, false, cond, ◌&&◌, and-false}
use mathlib.Core.Logic.{◌⊎◌, inl, inr}
use Prim.Native.Nat.{ℕ, zero-le, ◌+◌, ◌-◌, ◌*◌, ◌^◌, ◌≤◌, ◌<◌}
use native.Mathlib.Nat.{le_refl, le_trans, le_of_eq, add-zero}
use native.Mathlib.Omega.{arith}
use lib.Count.{ones, ones_in, ones-ones, ones-le}
use lib.Dec.{leb, eqb}
use lib.Pow.{ones_lt, pow_pos}
use borrow.Author.Tests.{leb-true, le-leb, lt-leb, eqb-true}
use Rattle.numbers.specs.Counts.{factorial}
use Rattle.theory_sums.specs.Sums.{indicator, some}
use Rattle.theory_sums.proofs.Sums.{sum_le, sum_ones, sum_below_same, sum_below_le, sum_below_zero}
use Rattle.theory_sets.specs.Masks.{has, size, holds, inside}
use Rattle.theory_sets.specs.Structures.{Semicoherent}
use Rattle.numbers.proofs.Bools.{clash, true_or_false}
use Rattle.theory_sets.proofs.Masks.{holds_part}
use Rattle.theory_orders.specs.Orders.{orders}
use Rattle.theory_orders.specs.Counting.{count, entries, stops_as_kth}
use Rattle.theory_orders.specs.Formulas.{added, taken}
use Rattle.theory_orders.proofs.Orders.{orders_length}
use Rattle.theory_orders.proofs.Counting.{count_and_taken}
use Rattle.theory_orders.proofs.Sizes.{size_meet}
use Rattle.shares_claim.proofs.Types.{outside_most, inside_and_outside}

-- there are no more orders than n!
pub count_most : (n : ℕ) (works : ℕ → Bool) (group k : ℕ) → count n works group k ≤ factorial n
unfolding count
count_most n works group k =
    le_trans (sum_le _ (λ order. 1) (orders n) (λ order m. one_most (some (stops_as_kth works group k) (entries order))))
    (le_of_eq (sum_ones (orders n) ∙ orders_length n))
  where
    one_most : (t : Bool) → indicator t ≤ 1
    one_most true = le_refl 1
    one_most false = zero-le

module _ (n group : ℕ) (within : group < 2 ^ n) where
  inside_more : (a b : ℕ) → a < 2 ^ n → b < 2 ^ n → holds b a ≡ true → inside group a ≤ inside group b
  inside_more a b ha hb h =
      le_trans (le_of_eq (size_meet n group a ha))
      (le_trans (sum_below_le _ _ n (λ i l. fewer (has a i) (has b i) (has group i) (holds_part b a h i))) (le_of_eq (sym (size_meet n group b hb))))
    where
      fewer : (p q r : Bool) → (p ≡ true → q ≡ true) → indicator (p && r) ≤ indicator (q && r)
      fewer true true r f = le_refl (indicator r)
      fewer true false r f = clash (f refl) refl
      fewer false q r f = zero-le

  -- the machine that runs while s parts of the group do
  threshold : ℕ → ℕ → Bool
  threshold s a = leb s (inside group a)

  threshold_coherent : (s : ℕ) → 1 ≤ s → s ≤ size group → Semicoherent n (threshold s)
  unfolding threshold ones ones_in
  threshold_coherent s one most = record {
    upward = λ a b ha hb h t.
        le-leb s (inside group b) (le_trans (leb-true s (inside group a) t) (inside_more a b ha hb h));
    empty = lt-leb s (inside group 0) (omega (arith, inside_and_outside n group 0 within (pow_pos n)));
    full = le-leb s (inside group (2 ^ n - 1))
        (omega (arith, inside_and_outside n group (2 ^ n - 1) within (ones_lt n), outside_most n group (2 ^ n - 1) within (ones_lt n), ones-ones n, ones-le n group within));
  }

  pub added_most : (works : ℕ → Bool) (k : ℕ) → 1 ≤ k → k ≤ size group → added n works group k ≤ factorial n
  unfolding added taken threshold
  added_most works k one most =
      le_trans (sum_below_le _ _ (2 ^ n) (λ a l. more (works a) (inside group a) (size group - k + 1)
      ((size group - k + 1) * factorial (size a - 1) * factorial (n - size a))))
      (le_trans (le_of_eq (sym (count_and_taken n (threshold (size group - k + 1)) (threshold_coherent (size group - k + 1) (omega arith) (omega arith))
      group within k most)))
      (le_trans (le_of_eq (ap (λ (x : ℕ). count n (threshold (size group - k + 1)) group k + x) none ∙ add-zero _))
      (count_most n (threshold (size group - k + 1)) group k)))
    where
      more : (w : Bool) (x s y : ℕ) → cond (w && eqb x s) y 0 ≤ cond (leb s x && eqb x s) y 0
      more true x s y = cases (true_or_false (eqb x s))
        where
          cases : (eqb x s ≡ true) ⊎ (eqb x s ≡ false) → cond (eqb x s) y 0 ≤ cond (leb s x && eqb x s) y 0
          cases (inl t) = rw (t, le-leb s x (le_of_eq (sym (eqb-true x s t)))) (le_refl y)
          cases (inr t) = rw t zero-le
      more false x s y = zero-le

      none : taken n (threshold (size group - k + 1)) group k ≡ 0
      none = sum_below_same _ (λ a. 0) (2 ^ n) (λ a l. fewer (inside group a) (size group - k) (k * factorial (size a) * factorial (n - size a - 1)))
          ∙ sum_below_zero (2 ^ n)
        where
          fewer : (x s y : ℕ) → cond (leb (s + 1) x && eqb x s) y 0 ≡ 0
          fewer x s y = cases (true_or_false (eqb x s))
            where
              cases : (eqb x s ≡ true) ⊎ (eqb x s ≡ false) → cond (leb (s + 1) x && eqb x s) y 0 ≡ 0
              cases (inl t) = let same : x ≡ s = eqb-true x s t in rw (lt-leb (s + 1) x (omega arith))
              cases (inr t) = rw (t, and-false (leb (s + 1) x))

  pub taken_most : (works : ℕ → Bool) → Semicoherent n works → (k : ℕ) → 1 ≤ k → k ≤ size group → taken n works group k ≤ factorial n
  taken_most works coherent k one most = omega (arith, count_and_taken n works coherent group within k most, added_most works k one most)
