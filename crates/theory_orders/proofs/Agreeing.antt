-- Structures that agree on the sets of n parts have the same path counts and the same differences by a part, and so, where they are semicoherent,
-- the same counts of failure orders. Assumes nothing.
use mathlib.Core.Path.{◌≡◌, refl, sym, ap, ap₂, ◌∙◌}
use mathlib.Core.Bool.{Bool, true, false, cond, not, ◌&&◌}
use mathlib.Core.Logic.{◌⊎◌, inl, inr}
use Prim.Native.Nat.{ℕ, ◌+◌, ◌-◌, ◌*◌, ◌^◌, ◌<◌}
use lib.Dec.{eqb}
use Rattle.numbers.specs.Counts.{factorial}
use Rattle.numbers.proofs.Bools.{true_or_false}
use Rattle.theory_sums.specs.Sums.{indicator}
use Rattle.theory_sums.proofs.Sums.{sum_below_same}
use Rattle.theory_sets.specs.Masks.{has, size, inside}
use Rattle.theory_sets.specs.Structures.{Semicoherent}
use Rattle.theory_sets.proofs.Masks.{add_below}
use Rattle.theory_sets.proofs.Structures.{semicoherent_same}
use Rattle.theory_orders.specs.Counting.{count}
use Rattle.theory_orders.specs.Formulas.{path_count, by_parts}
use Rattle.theory_orders.proofs.Counting.{count_is_by_parts}

-- the term of 001's eq. 2 for a part and a set
abbrev pub by_part : ℕ → (ℕ → Bool) → ℕ → ℕ → ℕ → ℕ → ℕ
by_part n works group k j a =
    cond (has group j && not (has a j) && eqb (size group - inside group a) k)
    (factorial (size a) * factorial (n - size a - 1) * (indicator (works (a + 2 ^ j)) - indicator (works a))) 0

-- it is 0 for a set that has the part
pub by_part_none : (n : ℕ) (works : ℕ → Bool) (group k j a : ℕ) → has a j ≡ true → by_part n works group k j a ≡ 0
by_part_none n works group k j a here = none (has group j) (has a j) (eqb (size group - inside group a) k) _ here
  where
    none : (p q r : Bool) (x : ℕ) → q ≡ true → cond (p && not q && r) x 0 ≡ 0
    none false q r x e = refl
    none true q r x e = rw e

module _ (n : ℕ) (f g : ℕ → Bool) (same : (a : ℕ) → a < 2 ^ n → f a ≡ g a) where
  pub path_count_same : (j : ℕ) → path_count n f j ≡ path_count n g j
  unfolding path_count
  path_count_same j = sum_below_same _ _ (2 ^ n) (λ a h. ap (λ (b : Bool). cond (b && eqb (size a) j) 1 0) (same a h))

  -- what a part makes of a set that lacks it
  pub difference_same : (a j : ℕ) → a < 2 ^ n → j < n → has a j ≡ false
      → indicator (f (a + 2 ^ j)) - indicator (f a) ≡ indicator (g (a + 2 ^ j)) - indicator (g a)
  difference_same a j h l lacks = ap₂ (λ (p q : Bool). indicator p - indicator q) (same (a + 2 ^ j) (add_below n a j h l lacks)) (same a h)

  pub count_same : Semicoherent n f → (group : ℕ) → group < 2 ^ n → (k : ℕ) → count n f group k ≡ count n g group k
  unfolding by_parts
  count_same coherent group within k =
      count_is_by_parts n f coherent group within k
      ∙ sum_below_same _ _ n (λ j l. sum_below_same (by_part n f group k j) (by_part n g group k j) (2 ^ n) (λ a h. step j a l h (true_or_false (has a j))))
      ∙ sym (count_is_by_parts n g (semicoherent_same n f g same coherent) group within k)
    where
      step : (j a : ℕ) → j < n → a < 2 ^ n → (has a j ≡ true) ⊎ (has a j ≡ false) → by_part n f group k j a ≡ by_part n g group k j a
      step j a l h (inl here) = by_part_none n f group k j a here ∙ sym (by_part_none n g group k j a here)
      step j a l h (inr lacks) =
          ap (λ (d : ℕ). cond (has group j && not (has a j) && eqb (size group - inside group a) k) (factorial (size a) * factorial (n - size a - 1) * d) 0)
          (difference_same a j h l lacks)
