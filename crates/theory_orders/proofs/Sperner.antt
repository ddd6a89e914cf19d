-- Sperner's bound: pairwise not nested sets of at most 16 parts are at most 12,870. The sets left along one failure order are nested, so an
-- order meets such a family at most once, and a set A is left along |A|! × (n-|A|)! orders. Assumes nothing.
use mathlib.Core.Path.{◌≡◌, refl, sym, ap, ap₂, ◌∙◌, subst}
use mathlib.Core.Bool.{Bool, true, false, cond}
use mathlib.Core.List.{List, [], ◌∷◌}
use mathlib.Core.Logic.{◌⊎◌, inl, inr}
use Prim.Native.Nat.{ℕ, zero, suc, ◌+◌, ◌-◌, ◌*◌, ◌^◌, ◌≤◌, ◌<◌}
use native.Mathlib.Nat.{le_refl, le_trans, le_of_eq, lt_irrefl, lt_trans, lt_of_le_of_lt, mul_assoc, mul_comm, mul-le-mul_left, mul-le-mul_right, le_of_mul-le-mul_left}
use native.Mathlib.Omega.{arith}
use lib.Count.{ones-le}
use lib.Dec.{ltb}
use lib.ListN.{length, length-append}
use lib.Pow.{pow_pos}
use borrow.Author.Tests.{ltb-false}
use Rattle.numbers.specs.Counts.{factorial}
use Rattle.numbers.proofs.Counts.{factorial_pos}
use Rattle.theory_sums.specs.Sums.{indicator, sum_below}
use Rattle.theory_sums.proofs.Sums.{sum_le, sum_ones, sum_below_le, sum_below_mul}
use Rattle.theory_sets.specs.Masks.{size, holds, any, those}
use Rattle.theory_sets.specs.Structures.{minimal, minimal_sets}
use Rattle.numbers.proofs.Bools.{true_or_false, false_of}
use Rattle.theory_sets.proofs.Masks.{holds_trans, holds_le, holds_add}
use Rattle.theory_sets.proofs.Ranges.{any_none}
use Rattle.theory_sets.proofs.Structures.{minimal_works, minimal_least}
use Rattle.theory_orders.specs.Orders.{orders, mask}
use Rattle.theory_orders.specs.Antichains.{Antichain, most_sets}
use Rattle.theory_orders.proofs.Orders.{orders_length, orders_only}
use Rattle.theory_orders.proofs.Positions.{Within, order_within, within_rest, mask_step, mask_below}
use Rattle.theory_orders.proofs.Divisions.{divisions, left, leaving, sum_divisions}

module _ (n : ℕ) (family : ℕ → Bool) (apart : Antichain n family) where
  -- 1 where the set left is in the family
  in_family : List ℕ → List ℕ → ℕ
  in_family before after = indicator (family (mask after))

  -- a smaller set that a set of the family holds is not in the family
  not_both : (top a : ℕ) → family top ≡ true → top < 2 ^ n → holds top a ≡ true → a < top → family a ≡ false
  not_both top a f h within less =
      false_of (family a) (λ g. lt_irrefl top (subst (λ (x : ℕ). x < top) (sym (apart top a h (lt_trans less h) f g within)) less))

  none_below : (top : ℕ) → family top ≡ true → top < 2 ^ n → (list : List ℕ) → Within n list → holds top (mask list) ≡ true → mask list < top
      → divisions in_family list ≡ 0
  unfolding divisions in_family
  none_below top f h [] w within less = ap indicator (not_both top (mask []) f h within less)
  none_below top f h (i ∷ rest) w within less =
      let step = mask_step n i rest w in
      let below : holds (mask (i ∷ rest)) (mask rest) ≡ true = rw step.4 (holds_add (mask rest) step.0 step.3) in
      ap₂ (λ (u v : ℕ). u + v) (ap indicator (not_both top (mask (i ∷ rest)) f h within less))
      (none_below top f h rest (within_rest n i rest w) (holds_trans top (mask (i ∷ rest)) (mask rest) within below)
      (lt_of_le_of_lt (holds_le (mask (i ∷ rest)) (mask rest) below) less))

  met_once : (list : List ℕ) → Within n list → divisions in_family list ≤ 1
  unfolding divisions in_family
  met_once [] w = at_most_one (family (mask []))
    where
      at_most_one : (b : Bool) → indicator b ≤ 1
      at_most_one true = le_refl 1
      at_most_one false = omega arith
  met_once (i ∷ rest) w = cases (true_or_false (family (mask (i ∷ rest)))) (met_once rest (within_rest n i rest w))
    where
      cases : (family (mask (i ∷ rest)) ≡ true) ⊎ (family (mask (i ∷ rest)) ≡ false) → divisions in_family rest ≤ 1
          → indicator (family (mask (i ∷ rest))) + divisions in_family rest ≤ 1
      cases (inl t) later =
          let step = mask_step n i rest w in
          let below : holds (mask (i ∷ rest)) (mask rest) ≡ true = rw step.4 (holds_add (mask rest) step.0 step.3) in
          let less : mask rest < mask (i ∷ rest) = omega (arith, step.4, pow_pos step.0) in
          omega (arith, ap indicator t, none_below (mask (i ∷ rest)) t (mask_below n (i ∷ rest) w) rest (within_rest n i rest w) below less)
      cases (inr f) later = omega (arith, ap indicator f)

  -- Lubell, Yamamoto and Meshalkin
  pub family_weights : sum_below (λ a. factorial (size a) * factorial (n - size a) * indicator (family a)) (2 ^ n) ≤ factorial n
  unfolding leaving left in_family
  family_weights =
      le_trans (le_of_eq (sym (sum_divisions 0 n (λ b c l a. indicator (family a)))))
      (le_trans (sum_le (divisions in_family) (λ order. 1) (orders n) (λ order m. met_once order (order_within n order (orders_only n order m))))
      (le_of_eq (sum_ones (orders n) ∙ orders_length n)))

-- ---- the bound

-- n! is over 12,870 × j! × (n-j)!, so there are more sets of j of n parts than 12,870
too_many : ℕ → ℕ → Bool
too_many n j = ltb (most_sets * (factorial j * factorial (n - j))) (factorial n)

-- of up to 16 parts there are never too many
never_too_many : any (λ n. any (too_many n) (suc n)) 17 ≡ false
unfolding any factorial too_many
never_too_many = refl

largest : (n j : ℕ) → n ≤ 16 → j ≤ n → factorial n ≤ most_sets * (factorial j * factorial (n - j))
unfolding too_many
largest n j small within =
    let row : any (too_many n) (suc n) ≡ false = any_none (λ n. any (too_many n) (suc n)) 17 n never_too_many (omega arith) in
    ltb-false (most_sets * (factorial j * factorial (n - j))) (factorial n) (any_none (too_many n) (suc n) j row (omega arith))

those_length : (test : ℕ → Bool) (k : ℕ) → length (those test k) ≡ sum_below (λ a. indicator (test a)) k
unfolding those sum_below
those_length test zero = refl
those_length test (suc k) =
    length-append (those test k) (cond (test k) (k ∷ []) []) ∙ ap₂ (λ (u v : ℕ). u + v) (those_length test k) (last (test k))
  where
    last : (b : Bool) → length (cond b (k ∷ []) []) ≡ indicator b
    last true = refl
    last false = refl

pub sperner : (n : ℕ) (family : ℕ → Bool) → n ≤ 16 → Antichain n family → length (those family (2 ^ n)) ≤ most_sets
sperner n family small apart =
    le_trans (le_of_eq (those_length family (2 ^ n)))
    (le_of_mul-le-mul_left (le_trans weighted (le_trans (mul-le-mul_left most_sets (family_weights n family apart)) swapped)) (factorial_pos n))
  where
    number : ℕ
    number = sum_below (λ a. indicator (family a)) (2 ^ n)

    orders_through : ℕ → ℕ
    orders_through a = factorial (size a) * factorial (n - size a) * indicator (family a)

    swapped : most_sets * factorial n ≤ factorial n * most_sets
    swapped = le_of_eq (mul_comm most_sets (factorial n))

    weighted : factorial n * number ≤ most_sets * sum_below orders_through (2 ^ n)
    weighted =
        le_trans (le_of_eq (sym (sum_below_mul (factorial n) (λ a. indicator (family a)) (2 ^ n))))
        (le_trans (sum_below_le _ (λ a. most_sets * orders_through a) (2 ^ n) (λ a h.
        le_trans (mul-le-mul_right (indicator (family a)) (largest n (size a) small (ones-le n a h)))
        (le_of_eq (mul_assoc most_sets (factorial (size a) * factorial (n - size a)) (indicator (family a))))))
        (le_of_eq (sum_below_mul most_sets orders_through (2 ^ n))))

-- the minimal sets of a structure are a list that 01 accepts by its length
pub minimal_sets_most : (n : ℕ) (works : ℕ → Bool) → n ≤ 16 → length (minimal_sets n works) ≤ most_sets
minimal_sets_most n works small =
    sperner n (minimal n works) small (λ a b ha hb least other within. minimal_least n works a b least hb (minimal_works n works b other) within)
