-- A set that holds another: it is no smaller, and the last part for sets of the others. Assumes nothing.
use mathlib.Core.Path.{◌≡◌, refl, sym, ap, ◌∙◌, subst}
use mathlib.Core.Bool.{Bool, true, false}
use mathlib.Core.Logic.{◌⊎◌, inl, inr}
use Prim.Native.Nat.{ℕ, suc, ◌+◌, ◌^◌, ◌≤◌, ◌<◌}
use native.Mathlib.Nat.{le_refl, two-pow-succ, eq-or-lt_of_le}
use native.Mathlib.Omega.{arith}
use lib.Dec.{eqb}
use borrow.Author.Tests.{eqb-true, eqb-false}
use Rattle.theory_sums.specs.Sums.{indicator}
use Rattle.theory_sums.proofs.Sums.{sum_below_le}
use Rattle.theory_sets.specs.Masks.{has, size, holds}
use Rattle.numbers.proofs.Bools.{true_or_false, clash, false_of, same_test}
use Rattle.theory_sets.proofs.Masks.{has_above, holds_part, holds_of_parts, holds_refl, holds_with, lacking, add_below}
use Rattle.numbers.proofs.Bounds.{below_or_above}
use Rattle.theory_orders.proofs.Sizes.{size_add, size_bits, has_last, has_others}

-- a set that holds another is no smaller
pub size_holds : (n a b : ℕ) → a < 2 ^ n → b < 2 ^ n → holds a b ≡ true → size b ≤ size a
size_holds n a b ha hb h =
    rw (size_bits n a ha, size_bits n b hb)
    (sum_below_le (λ i. indicator (has b i)) (λ i. indicator (has a i)) n (λ i l. fewer (has b i) (has a i) (holds_part a b h i)))
  where
    fewer : (p q : Bool) → (p ≡ true → q ≡ true) → indicator p ≤ indicator q
    fewer true true h = le_refl 1
    fewer true false h = absurd (clash (h refl) refl)
    fewer false true h = omega arith
    fewer false false h = le_refl 0

-- a set that is no larger than one that it holds is that one, and is held by it
pub holds_same_size : (n a b : ℕ) → a < 2 ^ n → b < 2 ^ n → holds a b ≡ true → size a ≤ size b → holds b a ≡ true
holds_same_size n a b ha hb within small = cases (true_or_false (eqb a b))
  where
    cases : (eqb a b ≡ true) ⊎ (eqb a b ≡ false) → holds b a ≡ true
    cases (inl e) = subst (λ (x : ℕ). holds x a ≡ true) (eqb-true a b e) (holds_refl a)
    cases (inr differ) =
        let part = lacking n a b ha within (eqb-false a b differ) in
        let i = part.0 in
        let larger = size_holds n a (b + 2 ^ i) ha (add_below n b i hb part.1 part.3) (holds_with a b i within part.2 part.3) in
        absurd (omega (arith, larger, size_add b i part.3))

-- the last part, for sets of the others
module _ (n a b : ℕ) (ha : a < 2 ^ n) (hb : b < 2 ^ n) where
  -- the parts of b are among the first n
  within : (i : ℕ) → has b i ≡ true → i < n
  within i h = cases (below_or_above i n)
    where
      cases : (i < n) ⊎ (n ≤ i) → i < n
      cases (inl l) = l
      cases (inr l) = clash h (has_above b n i hb l)

  pub holds_more : holds (a + 2 ^ n) b ≡ holds a b
  holds_more =
      same_test (holds (a + 2 ^ n) b) (holds a b)
      (λ h. holds_of_parts a b (λ i p. sym (has_others n a ha i (within i p)) ∙ holds_part (a + 2 ^ n) b h i p))
      (λ h. holds_of_parts (a + 2 ^ n) b (λ i p. has_others n a ha i (within i p) ∙ holds_part a b h i p))

  pub holds_never : holds a (b + 2 ^ n) ≡ false
  holds_never =
      false_of (holds a (b + 2 ^ n)) (λ h. clash (holds_part a (b + 2 ^ n) h n (has_last n b hb)) (has_above a n n ha (le_refl n)))

  pub holds_last : holds (a + 2 ^ n) (b + 2 ^ n) ≡ holds a b
  holds_last =
      same_test (holds (a + 2 ^ n) (b + 2 ^ n)) (holds a b)
      (λ h. holds_of_parts a b (λ i p.
      sym (has_others n a ha i (within i p)) ∙ holds_part (a + 2 ^ n) (b + 2 ^ n) h i (has_others n b hb i (within i p) ∙ p)))
      (λ h. holds_of_parts (a + 2 ^ n) (b + 2 ^ n) (λ i p. part h i p (below_or_above i n)))
    where
      part : holds a b ≡ true → (i : ℕ) → has (b + 2 ^ n) i ≡ true → (i < n) ⊎ (n ≤ i) → has (a + 2 ^ n) i ≡ true
      part h i p (inl l) = has_others n a ha i l ∙ holds_part a b h i (sym (has_others n b hb i l) ∙ p)
      part h i p (inr l) = top i p (eq-or-lt_of_le l)
        where
          top : (i : ℕ) → has (b + 2 ^ n) i ≡ true → (n ≡ i) ⊎ (n < i) → has (a + 2 ^ n) i ≡ true
          top i p (inl e) = ap (has (a + 2 ^ n)) (sym e) ∙ has_last n a ha
          top i p (inr m) =
              clash p (has_above (b + 2 ^ n) (suc n) i (let all : b + 2 ^ n < 2 ^ suc n = omega (arith, two-pow-succ n) in all) m)
