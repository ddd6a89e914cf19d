-- The shares of particular groups, and of a group together: with all parts they are the signature, with one part its importance, and together the
-- importances of the group's parts. With all parts h is the domination vector. And the weights are those of 001's eq. 1 times n!.
-- Assumes nothing.
use mathlib.Core.Path.{◌≡◌, refl, sym, ap, ap₂, ◌∙◌}
use mathlib.Core.Bool.{Bool, true, false, cond, not, ◌&&◌, and-true}
use mathlib.Core.List.{[], ◌∷◌}
use mathlib.Core.Logic.{◌⊎◌, inl, inr}
use Prim.Native.Nat.{ℕ, suc, ◌+◌, ◌-◌, ◌*◌, ◌^◌, ◌≤◌, ◌<◌}
use native.Mathlib.Nat.{div-one, mod-one}
use native.Mathlib.Numerals.{sub-one}
use native.Mathlib.Omega.{arith}
use lib.Count.{ones-ones}
use lib.Dec.{eqb}
use lib.IntN.{pos}
use lib.Pow.{ones_lt, pow-lt}
use borrow.Author.Tests.{eq-eqb, ne_eqb}
use Rattle.numbers.specs.Counts.{factorial, choose}
use Rattle.numbers.specs.Tables.{tabulate}
use Rattle.theory_sums.specs.Sums.{indicator, sum_below, sum_belowℤ}
use Rattle.theory_sums.proofs.Sums.{sum_below_same, sum_below_zero, sum_below_exchange, sum_below_term}
use Rattle.theory_sums.proofs.IntegerSums.{sum_belowℤ_same}
use Rattle.theory_sets.specs.Masks.{has, size, inside, outside}
use Rattle.theory_sets.specs.Structures.{Semicoherent}
use Rattle.numbers.proofs.Bools.{true_or_false}
use Rattle.theory_orders.specs.Counting.{count}
use Rattle.theory_orders.specs.Formulas.{path_count, by_parts}
use Rattle.theory_orders.proofs.Counting.{count_is_by_parts}
use Rattle.theory_orders.proofs.Sizes.{missing_inside}
use Rattle.theory_figures.specs.Figures.{signatures, set_domination, domination, dominations, importance}
use Rattle.numbers.proofs.Counts.{choose_factorials, factorial_suc}
use Rattle.theory_sums.proofs.IntegerSums.{sum_below_pos}
use Rattle.theory_figures.proofs.Sizes.{sum_below_only, size_meet_all}
use Rattle.numbers.proofs.Tables.{tabulate_same}
use Rattle.theory_figures.proofs.Tails.{signature_is_count}
use Rattle.theory_figures.proofs.Importances.{size_single, importance_is_count}
use Rattle.theory_figures.proofs.Dominations.{domination_of_sets}
use Rattle.shares_claim.specs.Polynomials.{row_length}
use Rattle.shares_claim.specs.SetBySet.{share_of, shares_by_sets}
use Rattle.shares_claim.specs.Reliability.{reliability, reliability_cells, shares_by_reliability}
use Rattle.shares_claim.specs.Claim.{group_counts}
use Rattle.shares_claim.proofs.Routes.{share_is_count}
use Rattle.shares_claim.proofs.Claim.{by_sets_counts, by_reliability_counts}

-- ---- the weights of 001, eq. 1

-- n × C(n-1,a-1) × (a-1)! × (n-a)! = n!: (a-1)! (n-a)! is n! divided by n C(n-1,a-1); and with a + 1 for a, a! (n-a-1)! is n! divided by n C(n-1,a)
pub weight_of_equation : (n a : ℕ) → 1 ≤ a → a ≤ n → n * choose (n - 1) (a - 1) * (factorial (a - 1) * factorial (n - a)) ≡ factorial n
weight_of_equation n a some most =
    joined n (choose (n - 1) (a - 1)) (factorial (a - 1)) (factorial (n - a))
    ∙ ap (λ (u : ℕ). n * u) (choose_factorials (n - 1) (n - a) (a - 1) (omega arith))
    ∙ (let row : n ≡ suc (n - 1) = omega arith in ap (λ (x : ℕ). x * factorial (n - 1)) row ∙ sym (ap factorial row ∙ factorial_suc (n - 1)))
  where
    joined : (x c p q : ℕ) → x * c * (p * q) ≡ x * (c * (q * p))
    joined x c p q = omega arith

-- ---- all parts

module _ (n : ℕ) (works : ℕ → Bool) where
  -- with all parts the counts are the signature
  counts_of_all : Semicoherent n works → group_counts n works (2 ^ n - 1) ≡ signatures n works
  unfolding group_counts
  counts_of_all coherent =
      ap (λ (x : ℕ). tabulate x (λ k. pos (count n works (2 ^ n - 1) (suc k)))) (ones-ones n)
      ∙ tabulate_same n _ _ (λ k l. sym (signature_is_count n works coherent (suc k) (omega arith) l))

  pub by_sets_of_all : Semicoherent n works → shares_by_sets n works (2 ^ n - 1) ≡ signatures n works
  by_sets_of_all coherent = by_sets_counts n works coherent (2 ^ n - 1) (ones_lt n) ∙ counts_of_all coherent

  pub by_reliability_of_all : Semicoherent n works → shares_by_reliability n works (2 ^ n - 1) ≡ signatures n works
  by_reliability_of_all coherent = by_reliability_counts n works coherent (2 ^ n - 1) (ones_lt n) ∙ counts_of_all coherent

  -- with all parts the coefficient of x^i is d(i), for any set function
  reliability_of_all : (i : ℕ) → i ≤ n → reliability n works (2 ^ n - 1) i 0 ≡ domination n (path_count n works) i
  unfolding reliability
  reliability_of_all i h =
      sum_belowℤ_same _ _ (2 ^ n) (λ a l.
      let all : inside (2 ^ n - 1) a ≡ size a = size_meet_all n a l in
      let none : outside (2 ^ n - 1) a ≡ 0 = omega arith in
      ap₂ (λ (x y : ℕ). cond (eqb x i && eqb y 0) (set_domination n works a) (pos 0)) all none
      ∙ ap (λ (t : Bool). cond t (set_domination n works a) (pos 0)) (and-true (eqb (size a) i)))
      ∙ sym (domination_of_sets n works i h)

  pub cells_of_all : reliability_cells n works (2 ^ n - 1) ≡ dominations n works
  unfolding reliability_cells
  cells_of_all =
      let row : row_length n (size (2 ^ n - 1)) ≡ 1 = omega (arith, ones-ones n) in
      let cells : (size (2 ^ n - 1) + 1) * 1 ≡ n + 1 = omega (arith, ones-ones n) in
      rw (row, cells)
      (tabulate_same (n + 1) _ _ (λ c l. ap₂ (reliability n works (2 ^ n - 1)) (div-one c) (mod-one c) ∙ reliability_of_all c (omega arith)))

-- ---- one part

module _ (n : ℕ) (works : ℕ → Bool) (coherent : Semicoherent n works) (i : ℕ) (some : 1 ≤ i) (most : i ≤ n) where
  within_one : 2 ^ (i - 1) < 2 ^ n
  within_one = pow-lt (omega arith)

  counts_of_one : group_counts n works (2 ^ (i - 1)) ≡ pos (importance n works i) ∷ []
  unfolding group_counts tabulate
  counts_of_one =
      ap (λ (x : ℕ). tabulate x (λ k. pos (count n works (2 ^ (i - 1)) (suc k)))) (size_single (i - 1))
      ∙ ap (λ (x : ℕ). pos x ∷ []) (sym (importance_is_count n works coherent i some most))

  pub by_sets_of_one : shares_by_sets n works (2 ^ (i - 1)) ≡ pos (importance n works i) ∷ []
  by_sets_of_one = by_sets_counts n works coherent (2 ^ (i - 1)) within_one ∙ counts_of_one

  pub by_reliability_of_one : shares_by_reliability n works (2 ^ (i - 1)) ≡ pos (importance n works i) ∷ []
  by_reliability_of_one = by_reliability_counts n works coherent (2 ^ (i - 1)) within_one ∙ counts_of_one

-- ---- the shares of a group together

module _ (n : ℕ) (works : ℕ → Bool) (group : ℕ) (within : group < 2 ^ n) where
  -- a set that lacks a part of the group leaves 1 to m of them
  leaves_some : (j a : ℕ) → j < n → a < 2 ^ n → has group j ≡ true → has a j ≡ false → inside group a < size group
  leaves_some j a l h own lacks =
      let one : indicator (has group j && not (has a j)) ≡ 1 = rw (own, lacks) in
      omega (arith, missing_inside n group a within h, sum_below_term (λ i. indicator (has group i && not (has a i))) j n l)

  -- so a part and a set give their weight for one k
  once : (j a x : ℕ) → j < n → a < 2 ^ n
      → sum_below (λ k. cond (has group j && not (has a j) && eqb (size group - inside group a) (suc k)) x 0) (size group)
      ≡ cond (has group j) (cond (not (has a j)) x 0) 0
  once j a x l h = cases (true_or_false (has group j)) (true_or_false (has a j))
    where
      cases : (has group j ≡ true) ⊎ (has group j ≡ false) → (has a j ≡ true) ⊎ (has a j ≡ false)
          → sum_below (λ k. cond (has group j && not (has a j) && eqb (size group - inside group a) (suc k)) x 0) (size group)
          ≡ cond (has group j) (cond (not (has a j)) x 0) 0
      cases (inl own) (inl there) = rw (own, there) (sum_below_zero (size group))
      cases (inl own) (inr lacks) =
          let some : inside group a < size group = leaves_some j a l h own lacks in
          rw (own, lacks)
          (sum_below_only (λ k. cond (eqb (size group - inside group a) (suc k)) x 0) (size group - inside group a - 1) (size group)
          (omega arith) (λ k m other.
          ap (λ (t : Bool). cond t x 0) (ne_eqb (size group - inside group a) (suc k) (λ e. other (omega arith))))
          ∙ ap (λ (t : Bool). cond t x 0)
          (eq-eqb (size group - inside group a) (suc (size group - inside group a - 1)) (omega arith)))
      cases (inr not_own) there = rw not_own (sum_below_zero (size group))

  counts_together : Semicoherent n works
      → sum_below (λ k. count n works group (suc k)) (size group) ≡ sum_below (λ j. cond (has group j) (importance n works (suc j)) 0) n
  unfolding by_parts importance
  counts_together coherent =
      sum_below_same _ _ (size group) (λ k l. count_is_by_parts n works coherent group within (suc k))
      ∙ sum_below_exchange _ (size group) n
      ∙ sum_below_same _ _ n (λ j l.
      sum_below_exchange _ (size group) (2 ^ n)
      ∙ sum_below_same _ (λ a. cond (has group j) (cond (not (has a j)) (weight j a) 0) 0) (2 ^ n) (λ a h. once j a (weight j a) l h)
      ∙ outwards (has group j) (λ a. cond (not (has a j)) (weight j a) 0)
      ∙ ap (λ (x : ℕ). cond (has group j) (sum_below (λ a. cond (not (has a x)) (weight x a) 0) (2 ^ n)) 0) (sym (sub-one (suc j))))
    where
      weight : ℕ → ℕ → ℕ
      weight j a = factorial (size a) * factorial (n - size a - 1) * (indicator (works (a + 2 ^ j)) - indicator (works a))

      outwards : (t : Bool) (f : ℕ → ℕ) → sum_below (λ a. cond t (f a) 0) (2 ^ n) ≡ cond t (sum_below f (2 ^ n)) 0
      outwards true f = refl
      outwards false f = sum_below_zero (2 ^ n)

  -- the shares total the importances of the group's parts
  pub shares_together : Semicoherent n works
      → sum_belowℤ (λ k. share_of n works group (suc k)) (size group) ≡ pos (sum_below (λ j. cond (has group j) (importance n works (suc j)) 0) n)
  shares_together coherent =
      sum_belowℤ_same _ _ (size group) (λ k l. share_is_count n works coherent group within (suc k) l)
      ∙ sym (sum_below_pos (λ k. count n works group (suc k)) (size group)) ∙ ap pos (counts_together coherent)
