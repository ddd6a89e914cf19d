-- Pairs of a set and a part outside it: each path set of size j lacks n-j parts, with each of which it is a path set of size j+1, and each of
-- these arises so at most j+1 times. So (n-j) φ(j) ≤ (j+1) φ(j+1): the proportion of path sets does not fall, and the tail does not rise.
-- Assumes nothing.
use mathlib.Core.Path.{◌≡◌, refl, sym, ap, ◌∙◌}
use mathlib.Core.Bool.{Bool, true, false, cond, not, ◌&&◌}
use mathlib.Core.Logic.{◌⊎◌, inl, inr}
use Prim.Native.Nat.{ℕ, ◌+◌, ◌-◌, ◌*◌, ◌^◌, ◌≤◌, ◌<◌}
use native.Mathlib.Nat.{le_refl, le_trans, le_of_eq, mul-le-mul_right}
use native.Mathlib.Omega.{arith}
use lib.Dec.{eqb}
use borrow.Author.Tests.{eqb-true, eq-eqb}
use Rattle.numbers.specs.Counts.{factorial}
use Rattle.numbers.proofs.Counts.{factorial_next, factorial_rest}
use Rattle.theory_sums.specs.Sums.{indicator, sum_below}
use Rattle.theory_sums.proofs.Sums.{sum_below_same, sum_below_le, sum_below_mul, sum_below_weights}
use Rattle.theory_sets.specs.Masks.{has, size}
use Rattle.theory_sets.specs.Structures.{Semicoherent}
use Rattle.numbers.proofs.Bools.{and_left, and_right, true_or_false}
use Rattle.theory_sets.proofs.Structures.{upward_by_parts}
use Rattle.theory_orders.specs.Formulas.{path_count}
use Rattle.theory_orders.proofs.Sizes.{size_bits, size_rest, size_add, part_more}

-- the path sets of size j all have the weight that goes with j
same_weight : (s c : ℕ) (b : Bool) → (b ≡ true → s ≡ c) → c * cond b 1 0 ≡ s * cond b 1 0
same_weight s c true h = ap (λ (u : ℕ). u * 1) (sym (h refl))
same_weight s c false h = omega arith

-- 1 for a path set of size j
is_path : (ℕ → Bool) → ℕ → ℕ → ℕ
is_path works j a = cond (works a && eqb (size a) j) 1 0

of_size_lem : (works : ℕ → Bool) (j a : ℕ) → works a && eqb (size a) j ≡ true → size a ≡ j
of_size_lem works j a h = eqb-true (size a) j (and_right (works a) (eqb (size a) j) h)

-- a path set of size j with a part more is a path set of size j + 1
path_more : (n : ℕ) (works : ℕ → Bool) → Semicoherent n works → (j i : ℕ) → i < n → (a : ℕ) → a < 2 ^ n
    → indicator (not (has a i)) * is_path works j a ≤ indicator (not (has a i)) * is_path works (j + 1) (a + 2 ^ i)
unfolding is_path
path_more n works coherent j i l a h = cases (true_or_false (has a i)) (true_or_false (works a && eqb (size a) j))
  where
    cases : (has a i ≡ true) ⊎ (has a i ≡ false) → (works a && eqb (size a) j ≡ true) ⊎ (works a && eqb (size a) j ≡ false)
        → indicator (not (has a i)) * is_path works j a ≤ indicator (not (has a i)) * is_path works (j + 1) (a + 2 ^ i)
    cases (inl b) p = rw b (omega arith)
    cases (inr b) (inr p) = rw p (omega arith)
    cases (inr b) (inl p) =
        let runs : works (a + 2 ^ i) ≡ true = upward_by_parts n works coherent.upward a i h l b (and_left (works a) (eqb (size a) j) p) in
        let larger : size (a + 2 ^ i) ≡ j + 1 = omega (arith, size_add a i b, of_size_lem works j a p) in
        rw (b, p, runs, eq-eqb (size (a + 2 ^ i)) (j + 1) larger) (le_refl 1)

pub pairs : (n : ℕ) (works : ℕ → Bool) → Semicoherent n works → (j : ℕ) → (n - j) * path_count n works j ≤ (j + 1) * path_count n works (j + 1)
unfolding path_count is_path
pairs n works coherent j =
    le_trans (le_of_eq without)
    (le_trans (sum_below_le _ _ n (λ i l. sum_below_le _ _ (2 ^ n) (path_more n works coherent j i l))) (le_of_eq with_one_more))
  where
    lacked : ℕ → ℕ
    lacked a = sum_below (λ i. indicator (not (has a i))) n

    without : (n - j) * path_count n works j ≡ sum_below (λ i. sum_below (λ a. indicator (not (has a i)) * is_path works j a) (2 ^ n)) n
    without =
        sym (sum_below_mul (n - j) (is_path works j) (2 ^ n))
        ∙ sum_below_same _ (λ a. lacked a * is_path works j a) (2 ^ n) (λ a h.
        same_weight (lacked a) (n - j) (works a && eqb (size a) j) (λ p. omega (arith, size_rest n a h, of_size_lem works j a p)))
        ∙ sym (sum_below_weights (λ i a. indicator (not (has a i))) (is_path works j) n (2 ^ n))

    with_one_more : sum_below (λ i. sum_below (λ a. indicator (not (has a i)) * is_path works (j + 1) (a + 2 ^ i)) (2 ^ n)) n
        ≡ (j + 1) * path_count n works (j + 1)
    with_one_more =
        sum_below_same _ _ n (λ i l. part_more n i (is_path works (j + 1)) l)
        ∙ sum_below_weights (λ i a. indicator (has a i)) (is_path works (j + 1)) n (2 ^ n)
        ∙ sum_below_same _ (λ a. (j + 1) * is_path works (j + 1) a) (2 ^ n) (λ a h.
        sym (same_weight (sum_below (λ i. indicator (has a i)) n) (j + 1) (works a && eqb (size a) (j + 1))
        (λ p. sym (size_bits n a h) ∙ of_size_lem works (j + 1) a p)))
        ∙ sum_below_mul (j + 1) (is_path works (j + 1)) (2 ^ n)

-- T(n-j) is not over T(n-j-1): the tail falls
pub tail_falls : (n : ℕ) (works : ℕ → Bool) → Semicoherent n works → (j : ℕ) → j < n
    → path_count n works j * factorial j * factorial (n - j) ≤ path_count n works (j + 1) * factorial (j + 1) * factorial (n - (j + 1))
tail_falls n works coherent j l =
    rw (factorial_rest n j l, factorial_next j)
    (le_trans (le_of_eq (falling (path_count n works j) (factorial j) (n - j) (factorial (n - (j + 1)))))
    (le_trans (mul-le-mul_right (factorial j * factorial (n - (j + 1))) (pairs n works coherent j))
    (le_of_eq (rising (path_count n works (j + 1)) (factorial j) (j + 1) (factorial (n - (j + 1)))))))
  where
    falling : (x p r q : ℕ) → x * p * (r * q) ≡ r * x * (p * q)
    falling x p r q = omega arith

    rising : (x p r q : ℕ) → r * x * (p * q) ≡ x * (r * p) * q
    rising x p r q = omega arith
