-- A part of a semicoherent structure is idle exactly if its Barlow-Proschan count is 0 (02, §9), and that is the count of the failure orders in
-- which its failure stops the machine. Assumes nothing.
use mathlib.Core.Path.{◌≡◌, refl, ap, ◌∙◌}
use mathlib.Core.Bool.{Bool, true, false, cond, not}
use mathlib.Core.Logic.{◌⊎◌, inl, inr}
use Prim.Native.Nat.{ℕ, suc, ◌+◌, ◌-◌, ◌*◌, ◌^◌, ◌<◌}
use native.Mathlib.Nat.{sub_self, mul-zero, mul-pos}
use native.Mathlib.Numerals.{sub-one}
use native.Mathlib.Omega.{arith}
use lib.Dec.{eqb}
use borrow.Author.Tests.{eqb-true, eq-eqb}
use Rattle.numbers.specs.Counts.{factorial}
use Rattle.numbers.proofs.Bools.{same_test, true_or_false}
use Rattle.numbers.proofs.Counts.{factorial_pos}
use Rattle.theory_sums.specs.Sums.{indicator, sum_below}
use Rattle.theory_sums.proofs.Sums.{sum_below_same, sum_below_zero, sum_below_term}
use Rattle.theory_sets.specs.Masks.{has, size}
use Rattle.theory_sets.specs.Structures.{Semicoherent}
use Rattle.theory_sets.specs.Idle.{idle}
use Rattle.theory_sets.proofs.Structures.{upward_by_parts}
use Rattle.theory_sets.proofs.Idle.{idle_more, idle_of_more}
use Rattle.theory_orders.specs.Counting.{count}
use Rattle.theory_figures.specs.Figures.{importance}
use Rattle.theory_figures.proofs.Importances.{importance_is_count}

module _ (n : ℕ) (works : ℕ → Bool) (part : ℕ) where
  -- in how many orders just the parts of the set remain when the part has failed
  weight : ℕ → ℕ
  weight a = factorial (size a) * factorial (n - size a - 1)

  weight_pos : (a : ℕ) → 0 < weight a
  unfolding weight
  weight_pos a = mul-pos (factorial_pos (size a)) (factorial_pos (n - size a - 1))

  -- what the set gives to the importance
  term : ℕ → ℕ
  term a = cond (not (has a part)) (weight a * (indicator (works (a + 2 ^ part)) - indicator (works a))) 0

  importance_terms : importance n works (suc part) ≡ sum_below term (2 ^ n)
  unfolding importance term weight
  importance_terms =
      ap (λ (i : ℕ). sum_below (λ a. cond (not (has a i)) (factorial (size a) * factorial (n - size a - 1) * (indicator (works (a + 2 ^ i)) - indicator (works a))) 0) (2 ^ n))
      (sub-one (suc part))

  idle_none : idle n works part ≡ true → importance n works (suc part) ≡ 0
  unfolding term
  idle_none h = importance_terms ∙ sum_below_same term (λ a. 0) (2 ^ n) (λ a l. cases a l (true_or_false (has a part))) ∙ sum_below_zero (2 ^ n)
    where
      cases : (a : ℕ) → a < 2 ^ n → (has a part ≡ true) ⊎ (has a part ≡ false) → term a ≡ 0
      cases a l (inl here) = rw here
      cases a l (inr lacks) =
          rw (lacks, idle_more n works part h a l lacks) (ap (λ (d : ℕ). weight a * d) (sub_self (indicator (works a))) ∙ mul-zero (weight a))

  -- two tests that rise together are the same if what one has more than the other weighs nothing
  risen_same : (w : ℕ) → 0 < w → (p q : Bool) → (q ≡ true → p ≡ true) → w * (indicator p - indicator q) ≡ 0 → p ≡ q
  risen_same w some true true up none = refl
  risen_same w some true false up none = absurd (omega arith)
  risen_same w some false true up none = up refl
  risen_same w some false false up none = refl

  none_idle : Semicoherent n works → part < n → importance n works (suc part) ≡ 0 → idle n works part ≡ true
  unfolding term
  none_idle coherent l none =
      idle_of_more n works part (λ a k lacks.
      let least : term a ≡ 0 = omega (arith, sum_below_term term a (2 ^ n) k, importance_terms) in
      risen_same (weight a) (weight_pos a) (works (a + 2 ^ part)) (works a) (upward_by_parts n works coherent.upward a part k l lacks)
      (rw lacks at least))

  pub idle_importance : Semicoherent n works → part < n → idle n works part ≡ eqb (importance n works (suc part)) 0
  idle_importance coherent l =
      same_test (idle n works part) (eqb (importance n works (suc part)) 0)
      (λ h. eq-eqb (importance n works (suc part)) 0 (idle_none h)) (λ h. none_idle coherent l (eqb-true (importance n works (suc part)) 0 h))

  pub idle_count : Semicoherent n works → part < n → idle n works part ≡ eqb (count n works (2 ^ part) 1) 0
  idle_count coherent l =
      idle_importance coherent l
      ∙ ap (λ (x : ℕ). eqb x 0)
      (importance_is_count n works coherent (suc part) (omega arith) l ∙ ap (λ (i : ℕ). count n works (2 ^ i) 1) (sub-one (suc part)))
