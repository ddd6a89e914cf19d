-- No part is idle if d(n) is not 0 (02, §9; 003, Proposition 6): over the sets with an idle part and without it the signs cancel.
-- Assumes nothing.
use mathlib.Core.Path.{◌≡◌, sym, ap, ap₂, ◌∙◌}
use mathlib.Core.Bool.{Bool, true, false}
use mathlib.Core.Logic.{◌⊎◌, inl, inr}
use Prim.Native.Nat.{ℕ, zero, suc, ◌+◌, ◌-◌, ◌^◌, ◌≤◌, ◌<◌}
use native.Mathlib.Nat.{not-suc-le-zero, le_of_suc-le-suc, le_refl, eq-or-lt_of_le, add_right_comm, add-zero, two-pow-succ}
use native.Mathlib.Omega.{arith}
use lib.IntN.{ℤ, pos, neg_ℤ, ◌+ℤ◌, ◌*ℤ◌, pow, +ℤ_invr, *ℤ_comm}
use Rattle.numbers.proofs.Bools.{false_of}
use Rattle.numbers.proofs.Bounds.{below_or_above}
use Rattle.numbers.proofs.Counts.{choose_none, choose_mirror}
use Rattle.theory_sums.specs.Sums.{indicator, sum_belowℤ}
use Rattle.theory_sums.proofs.Integers.{*ℤ-unit, *ℤ-negℤ, ring}
use Rattle.theory_sums.proofs.IntegerSums.{sum_belowℤ_same, sum_belowℤ_neg, sum_belowℤ_masks}
use Rattle.theory_sets.specs.Masks.{has, size}
use Rattle.theory_sets.specs.Idle.{idle, idle_parts}
use Rattle.theory_sets.proofs.Masks.{has_above, has_empty, same_bits}
use Rattle.theory_sets.proofs.Idle.{idle_more, has_idle_parts, idle_parts_below}
use Rattle.theory_orders.specs.Formulas.{path_count}
use Rattle.theory_orders.proofs.Sizes.{size_add, size_lacking, has_others}
use Rattle.theory_figures.specs.Figures.{sign, domination}
use Rattle.theory_figures.proofs.Sizes.{sum_by_sizeℤ}

-- a sum over sets is 0 if the part turns the sign of each set that lacks it
sum_turned : (n part : ℕ) (f : ℕ → ℤ) → part < n → ((a : ℕ) → a < 2 ^ n → has a part ≡ false → f (a + 2 ^ part) ≡ neg_ℤ (f a)) → sum_belowℤ f (2 ^ n) ≡ pos 0
sum_turned zero part f l turned = absurd (not-suc-le-zero l)
sum_turned (suc n) part f l turned = sum_belowℤ_masks f n ∙ cases (eq-or-lt_of_le (le_of_suc-le-suc l)) (sum_turned n part)
  where
    low : (a : ℕ) → a < 2 ^ n → a < 2 ^ suc n
    low a h = omega (arith, two-pow-succ n)

    cases : (part ≡ n) ⊎ (part < n)
        → ((g : ℕ → ℤ) → part < n → ((a : ℕ) → a < 2 ^ n → has a part ≡ false → g (a + 2 ^ part) ≡ neg_ℤ (g a)) → sum_belowℤ g (2 ^ n) ≡ pos 0)
        → sum_belowℤ f (2 ^ n) +ℤ sum_belowℤ (λ a. f (a + 2 ^ n)) (2 ^ n) ≡ pos 0
    cases (inl e) rest =
        ap (λ (u : ℤ). sum_belowℤ f (2 ^ n) +ℤ u)
        (sum_belowℤ_same _ (λ a. neg_ℤ (f a)) (2 ^ n) (λ a h.
        ap (λ (i : ℕ). f (a + 2 ^ i)) (sym e) ∙ turned a (low a h) (ap (has a) e ∙ has_above a n n h (le_refl n)))
        ∙ sum_belowℤ_neg f (2 ^ n))
        ∙ +ℤ_invr (sum_belowℤ f (2 ^ n))
    cases (inr k) rest =
        ap₂ (λ (u v : ℤ). u +ℤ v) (rest f k (λ a h. turned a (low a h)))
        (rest (λ a. f (a + 2 ^ n)) k (λ a h lacks.
        ap f (add_right_comm a (2 ^ part) (2 ^ n)) ∙ turned (a + 2 ^ n) (omega (arith, two-pow-succ n)) (has_others n a h part k ∙ lacks)))

module _ (n : ℕ) (works : ℕ → Bool) where
  -- d(n) as a sum over the path sets: each gives the sign of the parts that it lacks
  signed : ℕ → ℤ
  signed a = pos (indicator (works a)) *ℤ sign (n - size a)

  domination_signed : domination n (path_count n works) n ≡ sum_belowℤ signed (2 ^ n)
  unfolding domination signed
  domination_signed =
      sum_belowℤ_same _ (λ s. pos (path_count n works s) *ℤ sign (n - s)) (suc n) (λ s l.
      ap (λ (x : ℕ). sign (n - s) *ℤ pos x *ℤ pos (path_count n works s)) (choose_mirror (n - s) (n - s) 0 (add-zero (n - s)) ∙ choose_none (n - s))
      ∙ ap (λ (u : ℤ). u *ℤ pos (path_count n works s)) (*ℤ-unit (sign (n - s)))
      ∙ *ℤ_comm (sign (n - s)) (pos (path_count n works s)))
      ∙ sym (sum_by_sizeℤ n works (λ s. sign (n - s)))

  -- an idle part leaves nothing of it
  pub idle_domination : (part : ℕ) → part < n → idle n works part ≡ true → domination n (path_count n works) n ≡ pos 0
  unfolding signed pow
  idle_domination part l h =
      domination_signed ∙ sum_turned n part signed l (λ a k lacks.
      let less : n - size a ≡ suc (n - size (a + 2 ^ part)) = omega (arith, size_add a part lacks, size_lacking n a part k l lacks) in
      let turned : sign (n - size a) ≡ neg_ℤ (sign (n - size (a + 2 ^ part))) =
      ap sign less ∙ *ℤ-negℤ (sign (n - size (a + 2 ^ part))) (pos 1) ∙ ap neg_ℤ (*ℤ-unit (sign (n - size (a + 2 ^ part)))) in
      rw (idle_more n works part h a k lacks, turned) (simp ring))

  -- so no part is idle if d(n) is not 0
  pub full_domination : (domination n (path_count n works) n ≡ pos 0 → ⊥) → idle_parts n works ≡ 0
  full_domination other = same_bits (idle_parts n works) 0 (λ part. cases part (below_or_above part n) ∙ sym (has_empty part))
    where
      cases : (part : ℕ) → (part < n) ⊎ (n ≤ part) → has (idle_parts n works) part ≡ false
      cases part (inl l) = has_idle_parts n works part l ∙ false_of (idle n works part) (λ h. other (idle_domination part l h))
      cases part (inr high) = has_above (idle_parts n works) n part (idle_parts_below n works) high
