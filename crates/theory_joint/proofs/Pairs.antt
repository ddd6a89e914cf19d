-- Pairs of nested path sets: none where the outer size is below the inner or above n, fewer than 2^21 of any two sizes of up to 16 parts, and those
-- of machines that agree on the sets of n parts. Assumes nothing.
use mathlib.Core.Path.{◌≡◌, refl, sym, ap, ap₂, ◌∙◌}
use mathlib.Core.Bool.{Bool, true, false, cond, not, ◌&&◌}
use mathlib.Core.Logic.{◌⊎◌, inl, inr}
use Prim.Native.Nat.{ℕ, ◌-◌, ◌*◌, ◌^◌, ◌≤◌, ◌<◌}
use native.Mathlib.Nat.{le_trans, le_of_eq, lt_of_le_of_lt, mul_comm, lt_of_mul-lt-mul_right}
use native.Mathlib.Omega.{arith}
use lib.Count.{ones-le}
use lib.Dec.{leb, ltb, eqb}
use borrow.Author.Tests.{eqb-true, le-leb, ltb-true, not-false}
use Rattle.numbers.specs.Counts.{factorial}
use Rattle.numbers.proofs.Bools.{and_left, and_right, true_or_false, false_of}
use Rattle.numbers.proofs.Bounds.{below_or_above}
use Rattle.theory_sums.specs.Sums.{sum_sets}
use Rattle.theory_sums.proofs.Sums.{sum_below_same, sum_below_zero}
use Rattle.theory_sets.specs.Masks.{size, holds, any}
use Rattle.theory_sets.proofs.Ranges.{any_none}
use Rattle.theory_figures.proofs.Holding.{size_holds}
use Rattle.theory_joint.specs.Formula.{nestings, path_of, nested_pairs}
use Rattle.theory_joint.proofs.Nested.{survivals_most, survivals_nested}

module _ (n : ℕ) (outer inner : ℕ → Bool) (i j : ℕ) where
  -- no two sets are such a pair
  pairs_none : ((a b : ℕ) → a < 2 ^ n → b < 2 ^ n → size a ≡ i → size b ≡ j → holds a b ≡ true → ⊥) → nested_pairs n outer inner i j ≡ 0
  unfolding nested_pairs
  pairs_none never = sum_below_same _ (λ a. 0) (2 ^ n) (λ a ha. row a ha (true_or_false (path_of outer i a))) ∙ sum_below_zero (2 ^ n)
    where
      row : (a : ℕ) → a < 2 ^ n → (path_of outer i a ≡ true) ⊎ (path_of outer i a ≡ false)
          → cond (path_of outer i a) (sum_sets n (λ b. path_of inner j b && holds a b) (λ b. 1)) 0 ≡ 0
      row a ha (inr p) = rw p
      row a ha (inl p) =
          rw p (sum_below_same _ (λ b. 0) (2 ^ n) (λ b hb. ap (λ (t : Bool). cond t 1 0) (false_of _ (λ t.
          never a b ha hb (eqb-true (size a) i (and_right (outer a) (eqb (size a) i) p))
          (eqb-true (size b) j (and_right (inner b) (eqb (size b) j) (and_left (path_of inner j b) (holds a b) t)))
          (and_right (path_of inner j b) (holds a b) t)))) ∙ sum_below_zero (2 ^ n))

  pub pairs_smaller : i < j → nested_pairs n outer inner i j ≡ 0
  pairs_smaller less = pairs_none (λ a b ha hb sa sb h. omega (arith, sa, sb, size_holds n a b ha hb h))

  pub pairs_beyond : n < i → nested_pairs n outer inner i j ≡ 0
  pairs_beyond more = pairs_none (λ a b ha hb sa sb h. omega (arith, sa, ones-le n a ha))

-- 16!/(5! 5! 6!) is 2,018,016: of up to 16 parts no two sizes have 2^21 pairs
too_many : ℕ → ℕ → ℕ → Bool
too_many n i j = leb j i && (leb i n && not (ltb (factorial n) (2 ^ 21 * nestings n i j)))

few_nestings : (n i j : ℕ) → n ≤ 16 → i ≤ n → j ≤ i → factorial n < 2 ^ 21 * nestings n i j
unfolding too_many any factorial
few_nestings n i j h k l =
    ltb-true (factorial n) (2 ^ 21 * nestings n i j)
    (not-false (ltb (factorial n) (2 ^ 21 * nestings n i j)) (rw (le-leb j i l, le-leb i n k) at none))
  where
    none : too_many n i j ≡ false
    none = any_none (too_many n i) 17 j (any_none (λ y. any (too_many n y) 17) 17 i (any_none (λ x. any (λ y. any (too_many x y) 17) 17) 17 n refl (omega arith)) (omega arith)) (omega arith)

pub pairs_few : (n : ℕ) (outer inner : ℕ → Bool) (i j : ℕ) → n ≤ 16 → nested_pairs n outer inner i j < 2 ^ 21
pairs_few n outer inner i j few = cases (below_or_above n i) (below_or_above i j)
  where
    nested : i ≤ n → j ≤ i → nested_pairs n outer inner i j < 2 ^ 21
    nested k l = lt_of_mul-lt-mul_right (nestings n i j)
        (lt_of_le_of_lt (le_trans (le_of_eq (mul_comm (nested_pairs n outer inner i j) (nestings n i j) ∙ sym (survivals_nested n outer inner i j l k)))
        (survivals_most n outer inner (n - i) (n - j))) (few_nestings n i j few k l))

    cases : (n < i) ⊎ (i ≤ n) → (i < j) ⊎ (j ≤ i) → nested_pairs n outer inner i j < 2 ^ 21
    cases (inl beyond) small = omega (arith, pairs_beyond n outer inner i j beyond)
    cases (inr within) (inl small) = omega (arith, pairs_smaller n outer inner i j small)
    cases (inr within) (inr nest) = nested within nest

pub pairs_same : (n : ℕ) (f g p q : ℕ → Bool) → ((a : ℕ) → a < 2 ^ n → f a ≡ g a) → ((a : ℕ) → a < 2 ^ n → p a ≡ q a) → (i j : ℕ)
    → nested_pairs n f p i j ≡ nested_pairs n g q i j
unfolding nested_pairs
pairs_same n f g p q outer inner i j =
    sum_below_same _ _ (2 ^ n) (λ a ha.
    ap₂ (λ (t : Bool) (u : ℕ). cond (t && eqb (size a) i) u 0) (outer a ha)
    (sum_below_same _ _ (2 ^ n) (λ b hb. ap (λ (t : Bool). cond ((t && eqb (size b) j) && holds a b) 1 0) (inner b hb))))
