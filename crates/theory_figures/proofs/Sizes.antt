-- Sums over sets by their size: what goes by the size alone is summed over the path counts; and how many sets of a size there are.
-- Assumes nothing.
use mathlib.Core.Path.{◌≡◌, refl, sym, ap, ap₂, ◌∙◌}
use mathlib.Core.Bool.{Bool, true, false, cond, not, ◌&&◌, and-true}
use mathlib.Core.Logic.{◌⊎◌, inl, inr}
use Prim.Native.Nat.{ℕ, zero, suc, suc-le-suc, ◌+◌, ◌-◌, ◌*◌, ◌^◌, ◌≤◌, ◌<◌}
use native.Mathlib.Nat.{not-suc-le-zero, le_of_suc-le-suc, eq-or-lt_of_le, le_step, lt-suc_self, le_refl, le_trans, le_of_eq, zero-add, add-zero, mul_comm, zero-mul, sub-add_cancel, add_comm}
use native.Mathlib.Omega.{arith}
use lib.Count.{ones, ones_in, ones-le}
use lib.Dec.{eqb, eqb-zero-suc, eqb-suc-zero, eqb-suc-suc}
use lib.IntN.{ℤ, pos, ◌*ℤ◌, *ℤ_comm, *ℤ-zero}
use borrow.Author.Tests.{eq-eqb, ne_eqb}
use Rattle.numbers.specs.Counts.{choose}
use Rattle.numbers.proofs.Counts.{choose_none, none_beyond}
use Rattle.theory_sums.specs.Sums.{indicator, sum_below, sum_sets, sum_belowℤ}
use Rattle.theory_sums.proofs.Sums.{sum_below_same, sum_below_le, sum_below_zero, sum_below_ones, sum_below_mul, sum_below_exchange, sum_below_masks}
use Rattle.theory_sums.proofs.IntegerSums.{sum_belowℤ_same, sum_belowℤ_mul, sum_belowℤ_exchange}
use Rattle.theory_sets.specs.Masks.{has, size, meet}
use Rattle.numbers.proofs.Bools.{false_of}
use Rattle.theory_sets.proofs.Masks.{has_full, has_le, has_sub, has_empty, same_bits}
use Rattle.theory_orders.specs.Formulas.{path_count}
use Rattle.theory_orders.proofs.Sizes.{size_add, size_bits, size_meet, size_last}
use Rattle.theory_sums.proofs.IntegerSums.{sum_belowℤ_only, sum_below_pos}

-- ---- a sum of which a single term is left

pub sum_below_only : (f : ℕ → ℕ) (x k : ℕ) → x < k → ((i : ℕ) → i < k → (i ≡ x → ⊥) → f i ≡ 0) → sum_below f k ≡ f x
unfolding sum_below
sum_below_only f x zero h none = absurd (not-suc-le-zero h)
sum_below_only f x (suc k) h none = cases (eq-or-lt_of_le (le_of_suc-le-suc h)) (sum_below_only f x k)
  where
    cases : (x ≡ k) ⊎ (x < k) → (x < k → ((i : ℕ) → i < k → (i ≡ x → ⊥) → f i ≡ 0) → sum_below f k ≡ f x) → sum_below f k + f k ≡ f x
    cases (inl e) ih =
        ap (λ (u : ℕ). u + f k) (sum_below_same f (λ i. 0) k (λ i l. none i (le_step l) (λ p. omega arith)) ∙ sum_below_zero k) ∙ zero-add (f k)
        ∙ ap f (sym e)
    cases (inr l) ih =
        ap₂ (λ (u v : ℕ). u + v) (ih l (λ i m. none i (le_step m))) (none k (lt-suc_self k) (λ p. omega arith)) ∙ add-zero (f x)

-- ---- sizes

-- only the empty set has no part
pub size_none : (a : ℕ) → size a ≡ 0 → a ≡ 0
size_none a h = same_bits a 0 (λ i. lacks i ∙ sym (has_empty i))
  where
    lacks : (i : ℕ) → has a i ≡ false
    lacks i =
        false_of (has a i) (λ t.
        let whole : a - 2 ^ i + 2 ^ i ≡ a = sub-add_cancel (has_le a i t) in
        let own : has (a - 2 ^ i) i ≡ false = has_sub a i t i ∙ ap (λ (b : Bool). not b && has a i) (eq-eqb i i refl) in
        omega (arith, size_add (a - 2 ^ i) i own, ap ones whole))

-- all parts of a set are among all parts
pub size_meet_all : (n a : ℕ) → a < 2 ^ n → size (meet a (2 ^ n - 1)) ≡ size a
size_meet_all n a h =
    size_meet n (2 ^ n - 1) a h
    ∙ sum_below_same _ (λ i. indicator (has a i)) n (λ i l. ap (λ (b : Bool). indicator (has a i && b)) (has_full n i l) ∙ ap indicator (and-true (has a i)))
    ∙ sym (size_bits n a h)

-- ---- by size

-- the sizes of sets of n parts are 0 to n
size_within : (n a : ℕ) → a < 2 ^ n → size a < suc n
size_within n a h = suc-le-suc (ones-le n a h)

-- the test of a size class, at the set's own size and at another
at_size : (t : Bool) (x : ℕ) → cond (t && eqb x x) 1 0 ≡ indicator t
at_size true x = rw (eq-eqb x x refl)
at_size false x = refl

off_size : (t : Bool) (x s : ℕ) → (s ≡ x → ⊥) → ◌≡◌ {A = ℕ} (cond (t && eqb x s) 1 0) 0
off_size true x s h = rw (ne_eqb x s (λ e. h (sym e)))
off_size false x s h = refl

weighed : (t : Bool) (w : ℕ) → w * indicator t ≡ cond t w 0
weighed true w = omega arith
weighed false w = omega arith

module _ (n : ℕ) (test : ℕ → Bool) where
  pub sum_by_size : (w : ℕ → ℕ) → sum_sets n test (λ a. w (size a)) ≡ sum_below (λ s. path_count n test s * w s) (suc n)
  unfolding path_count
  sum_by_size w =
      sum_below_same _ (λ a. sum_below (λ s. w s * cond (test a && eqb (size a) s) 1 0) (suc n)) (2 ^ n) (λ a h.
      sym (sum_below_only (λ s. w s * cond (test a && eqb (size a) s) 1 0) (size a) (suc n) (size_within n a h)
      (λ s l other. ap (λ (u : ℕ). w s * u) (off_size (test a) (size a) s other) ∙ mul_comm (w s) 0 ∙ zero-mul (w s))
      ∙ ap (λ (u : ℕ). w (size a) * u) (at_size (test a) (size a)) ∙ weighed (test a) (w (size a))))
      ∙ sum_below_exchange (λ a s. w s * cond (test a && eqb (size a) s) 1 0) (2 ^ n) (suc n)
      ∙ sum_below_same _ _ (suc n) (λ s l.
      sum_below_mul (w s) (λ a. cond (test a && eqb (size a) s) 1 0) (2 ^ n) ∙ mul_comm (w s) (path_count n test s))

  pub sum_by_sizeℤ : (w : ℕ → ℤ)
      → sum_belowℤ (λ a. pos (indicator (test a)) *ℤ w (size a)) (2 ^ n) ≡ sum_belowℤ (λ s. pos (path_count n test s) *ℤ w s) (suc n)
  unfolding path_count
  sum_by_sizeℤ w =
      sum_belowℤ_same _ (λ a. sum_belowℤ (λ s. w s *ℤ pos (cond (test a && eqb (size a) s) 1 0)) (suc n)) (2 ^ n) (λ a h.
      sym (sum_belowℤ_only (λ s. w s *ℤ pos (cond (test a && eqb (size a) s) 1 0)) (size a) (suc n) (size_within n a h)
      (λ s l other. ap (λ (u : ℕ). w s *ℤ pos u) (off_size (test a) (size a) s other) ∙ *ℤ-zero (w s))
      ∙ ap (λ (u : ℕ). w (size a) *ℤ pos u) (at_size (test a) (size a)) ∙ *ℤ_comm (w (size a)) (pos (indicator (test a)))))
      ∙ sum_belowℤ_exchange (λ a s. w s *ℤ pos (cond (test a && eqb (size a) s) 1 0)) (2 ^ n) (suc n)
      ∙ sum_belowℤ_same _ _ (suc n) (λ s l.
      sum_belowℤ_mul (w s) (λ a. pos (cond (test a && eqb (size a) s) 1 0)) (2 ^ n)
      ∙ ap (λ (u : ℤ). w s *ℤ u) (sym (sum_below_pos (λ a. cond (test a && eqb (size a) s) 1 0) (2 ^ n)))
      ∙ *ℤ_comm (w s) (pos (path_count n test s)))

  -- there are no more path sets of a size than sets
  pub path_count_few : (s : ℕ) → path_count n test s ≤ 2 ^ n
  unfolding path_count
  path_count_few s =
      le_trans (sum_below_le _ (λ a. 1) (2 ^ n) (λ a h. one_most (test a && eqb (size a) s))) (le_of_eq (sum_below_ones (2 ^ n)))
    where
      one_most : (t : Bool) → cond t 1 0 ≤ 1
      one_most true = omega arith
      one_most false = omega arith

-- ---- all sets

-- there are C(n,j) sets of size j
pub sets_of_size : (n j : ℕ) → path_count n (λ a. true) j ≡ choose n j
unfolding path_count sum_below choose ones ones_in
sets_of_size zero zero = omega arith
sets_of_size zero (suc j) = rw (eqb-zero-suc j) (omega arith)
sets_of_size (suc n) zero =
    sum_below_masks (λ a. cond (eqb (size a) 0) 1 0) n
    ∙ ap₂ (λ (u v : ℕ). u + v) (sets_of_size n zero)
    (sum_below_same _ (λ a. 0) (2 ^ n) (λ a h. rw (size_last n a h, eqb-suc-zero (size a))) ∙ sum_below_zero (2 ^ n))
    ∙ ap (λ (u : ℕ). u + 0) (choose_none n)
sets_of_size (suc n) (suc j) =
    sum_below_masks (λ a. cond (eqb (size a) (suc j)) 1 0) n
    ∙ ap₂ (λ (u v : ℕ). u + v) (sets_of_size n (suc j))
    (sum_below_same _ (λ a. cond (eqb (size a) j) 1 0) (2 ^ n) (λ a h. rw (size_last n a h, eqb-suc-suc (size a) j)) ∙ sets_of_size n j)
    ∙ add_comm (choose n (suc j)) (choose n j)

-- and no more path sets of that size
pub path_count_most : (n : ℕ) (works : ℕ → Bool) (j : ℕ) → path_count n works j ≤ choose n j
unfolding path_count
path_count_most n works j =
    le_trans (sum_below_le _ (λ a. cond (eqb (size a) j) 1 0) (2 ^ n) (λ a h. one_most (works a) (eqb (size a) j))) (le_of_eq (sets_of_size n j))
  where
    one_most : (p q : Bool) → cond (p && q) 1 0 ≤ cond q 1 0
    one_most true q = le_refl _
    one_most false true = omega arith
    one_most false false = omega arith

-- and none beyond n
pub path_count_beyond : (n : ℕ) (works : ℕ → Bool) (j : ℕ) → n < j → path_count n works j ≡ 0
path_count_beyond n works j beyond = none_beyond n j (path_count_most n works j) beyond
