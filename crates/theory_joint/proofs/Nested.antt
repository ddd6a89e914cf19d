-- In how many orders both machines still work, each after its own number of failures, by pairs of nested path sets: each pair is what is left
-- in as many orders as there are ways to put the parts before, between and behind in a row. Assumes nothing.
use mathlib.Core.Path.{◌≡◌, refl, sym, ap, ap₂, ◌∙◌}
use mathlib.Core.Bool.{Bool, true, false, cond, ◌&&◌, and-false, and-true}
use mathlib.Core.List.{List, [], ◌∷◌}
use mathlib.Core.Logic.{◌⊎◌, inl, inr}
use Prim.Native.Nat.{ℕ, zero, suc, ◌+◌, ◌-◌, ◌*◌, ◌^◌, ◌≤◌, ◌<◌}
use native.Mathlib.Nat.{add-zero, zero-add, mul-zero, le_of_suc-le-suc, not-suc-le-zero, le_of_eq, le_trans}
use native.Mathlib.Omega.{arith}
use lib.Count.{ones-le}
use lib.Dec.{eqb, eqb-suc-suc, eqb-suc-zero, eqb-zero-suc}
use lib.ListN.{length, take, drop, take-append-drop, length-drop}
use lib.Seq.{drop-drop}
use borrow.Author.Tests.{eqb-true, eqb-false, eq-eqb, ne_eqb}
use Rattle.numbers.specs.Counts.{factorial}
use Rattle.numbers.proofs.Bools.{and_swap, true_or_false}
use Rattle.theory_sums.specs.Sums.{indicator, how_many, sum_below}
use Rattle.theory_sums.proofs.Sums.{sum_same, sum_le, sum_ones, sum_append, sum_below_same, sum_below_zero, sum_below_mul}
use Rattle.theory_sets.specs.Masks.{size, holds}
use Rattle.theory_orders.specs.Orders.{orders, mask}
use Rattle.theory_orders.proofs.Orders.{orders_length}
use Rattle.theory_orders.proofs.Divisions.{divisions, divisions_same}
use Rattle.theory_figures.proofs.Holding.{size_holds}
use Rattle.theory_joint.specs.Formula.{nestings, path_of, nested_pairs}
use Rattle.theory_joint.proofs.Failures.{works_after, order_length}
use Rattle.theory_joint.proofs.Places.{divisions_none, AtSets, double_divisions, left_at, leaving, sum_places}

-- in how many orders the first machine works after k failures and the second after l
unfoldable pub survivals : ℕ → (ℕ → Bool) → (ℕ → Bool) → ℕ → ℕ → ℕ
survivals n first second k l = how_many (λ order. works_after first k order && works_after second l order) (orders n)

pub survivals_transposed : (n : ℕ) (first second : ℕ → Bool) (k l : ℕ) → survivals n first second k l ≡ survivals n second first l k
unfolding survivals
survivals_transposed n first second k l = sum_same _ _ (orders n) (λ order m. ap indicator (and_swap (works_after first k order) (works_after second l order)))

pub survivals_most : (n : ℕ) (first second : ℕ → Bool) (k l : ℕ) → survivals n first second k l ≤ factorial n
unfolding survivals
survivals_most n first second k l =
    le_trans (sum_le _ (λ order. 1) (orders n) (λ order m. most (works_after first k order && works_after second l order)))
    (le_of_eq (sum_ones (orders n) ∙ orders_length n))
  where
    most : (b : Bool) → indicator b ≤ 1
    most true = omega arith
    most false = omega arith

-- ---- a place of a list

-- of the ways to divide a list in two, the one with k entries before the place
divisions_at : (f : List ℕ → List ℕ → ℕ) (k : ℕ) (list : List ℕ) → k ≤ length list
    → divisions (λ before after. cond (eqb (length before) k) (f before after) 0) list ≡ f (take k list) (drop k list)
unfolding divisions
divisions_at f zero [] h = refl
divisions_at f (suc k) [] h = absurd (not-suc-le-zero h)
divisions_at f zero (i ∷ rest) h =
    ap (λ (u : ℕ). f [] (i ∷ rest) + u)
    (divisions_none _ rest (λ before after. ap (λ (b : Bool). cond b (f (i ∷ before) after) 0) (eqb-suc-zero (length before))))
    ∙ add-zero (f [] (i ∷ rest))
divisions_at f (suc k) (i ∷ rest) h =
    ap₂ (λ (b : Bool) (u : ℕ). cond b (f [] (i ∷ rest)) 0 + u) (eqb-zero-suc k)
    (divisions_same _ _ rest (λ before after. ap (λ (b : Bool). cond b (f (i ∷ before) after) 0) (eqb-suc-suc (length before) k))
    ∙ divisions_at (λ before after. f (i ∷ before) after) k rest (le_of_suc-le-suc h))
    ∙ zero-add _

-- a condition that does not go by the place
divisions_if : (c : Bool) (f : List ℕ → List ℕ → ℕ) (list : List ℕ) → divisions (λ before after. cond c (f before after) 0) list ≡ cond c (divisions f list) 0
divisions_if true f list = refl
divisions_if false f list = divisions_none (λ before after. 0) list (λ before after. refl)

-- ---- pairs of nested sets

module _ (n : ℕ) (first second : ℕ → Bool) (i j : ℕ) (inner : j ≤ i) (outer : i ≤ n) where
  -- both machines work at two places: n-i positions come before the first and i-j between them
  both_work : AtSets
  both_work x y z a b = cond (eqb x (n - i)) (cond (eqb y (i - j)) (indicator (first a && second b)) 0) 0

  -- at the two places of an order
  at_places : (order : List ℕ) → length order ≡ n → double_divisions (left_at both_work) order ≡ indicator (works_after first (n - i) order && works_after second (n - j) order)
  unfolding double_divisions left_at both_work works_after mask
  at_places order all =
      divisions_same _ _ order (λ before rest. divisions_if (eqb (length before) (n - i)) between rest)
      ∙ divisions_at (λ before rest. divisions between rest) (n - i) order (omega (arith, all))
      ∙ divisions_at (λ x y. indicator (first (mask x + mask y) && second (mask y))) (i - j) (drop (n - i) order) (omega (arith, all, length-drop (n - i) order))
      ∙ ap₂ (λ (a b : ℕ). indicator (first a && second b)) whole (ap mask (drop-drop (i - j) (n - i) order ∙ ap (λ (x : ℕ). drop x order) sizes))
    where
      between : List ℕ → List ℕ → ℕ
      between x y = cond (eqb (length x) (i - j)) (indicator (first (mask x + mask y) && second (mask y))) 0

      sizes : n - i + (i - j) ≡ n - j
      sizes = omega arith

      whole : mask (take (i - j) (drop (n - i) order)) + mask (drop (i - j) (drop (n - i) order)) ≡ mask (drop (n - i) order)
      whole =
          sym (sum_append (λ p. 2 ^ (p - 1)) (take (i - j) (drop (n - i) order)) (drop (i - j) (drop (n - i) order)))
          ∙ ap mask (take-append-drop (i - j) (drop (n - i) order))

  -- of a pair of sets
  at_sets : (a b : ℕ) → a < 2 ^ n → b < 2 ^ n
      → leaving n both_work a b ≡ nestings n i j * cond (path_of first i a) (cond (path_of second j b && holds a b) 1 0) 0
  unfolding leaving both_work
  at_sets a b ha hb = cases (true_or_false (holds a b)) (true_or_false (eqb (size a) i)) (true_or_false (eqb (size b) j))
    where
      none : (w : ℕ) (p q : Bool) → 0 ≡ w * cond (p && false) (cond q 1 0) 0
      none w p q = sym (ap (λ (t : Bool). w * cond t (cond q 1 0) 0) (and-false p) ∙ mul-zero w)

      none_inside : (w : ℕ) (p q : Bool) → 0 ≡ w * cond p (cond (q && false) 1 0) 0
      none_inside w true q = sym (ap (λ (t : Bool). w * cond t 1 0) (and-false q) ∙ mul-zero w)
      none_inside w false q = sym (mul-zero w)

      both : (w : ℕ) (p q : Bool) → w * indicator (p && q) ≡ w * cond (p && true) (cond ((q && true) && true) 1 0) 0
      both w true true = refl
      both w true false = refl
      both w false q = refl

      cases : (holds a b ≡ true) ⊎ (holds a b ≡ false) → (eqb (size a) i ≡ true) ⊎ (eqb (size a) i ≡ false) → (eqb (size b) j ≡ true) ⊎ (eqb (size b) j ≡ false)
          → leaving n both_work a b ≡ nestings n i j * cond (path_of first i a) (cond (path_of second j b && holds a b) 1 0) 0
      cases (inr apart) sa sb = rw apart (none_inside (nestings n i j) (path_of first i a) (path_of second j b))
      cases (inl within) (inr other) sb =
          let unequal : eqb (n - size a) (n - i) ≡ false =
          ne_eqb (n - size a) (n - i) (λ e. eqb-false (size a) i other (omega (arith, e, ones-le n a ha))) in
          rw (within, unequal, other, mul-zero (nestings n (size a) (size b))) (none (nestings n i j) (first a) (path_of second j b && true))
      cases (inl within) (inl sa) (inr other) =
          let unequal : eqb (size a - size b) (i - j) ≡ false =
          ne_eqb (size a - size b) (i - j) (λ e. eqb-false (size b) j other (omega (arith, e, eqb-true (size a) i sa, size_holds n a b ha hb within))) in
          rw (within, unequal, other) (skip (eqb (n - size a) (n - i)) (nestings n (size a) (size b)) (nestings n i j) (path_of first i a) (second b))
        where
          same : (c : Bool) (v : ℕ) → v * cond c 0 0 ≡ 0
          same true v = mul-zero v
          same false v = mul-zero v

          skip : (c : Bool) (v w : ℕ) (p q : Bool) → v * cond c 0 0 ≡ w * cond p (cond ((q && false) && true) 1 0) 0
          skip c v w p q = same c v ∙ none_inside w p q ∙ ap (λ (t : Bool). w * cond p (cond t 1 0) 0) (sym (and-true (q && false)))
      cases (inl within) (inl sa) (inl sb) =
          rw (within, eqb-true (size a) i sa, eqb-true (size b) j sb, eq-eqb (n - i) (n - i) refl, eq-eqb (i - j) (i - j) refl, eq-eqb i i refl, eq-eqb j j refl)
          (both (nestings n i j) (first a) (second b))

  pub survivals_nested : survivals n first second (n - i) (n - j) ≡ nestings n i j * nested_pairs n first second i j
  unfolding survivals nested_pairs
  survivals_nested =
      sum_same _ (double_divisions (left_at both_work)) (orders n) (λ order m. sym (at_places order (order_length n order m)))
      ∙ sum_places n both_work
      ∙ sum_below_same _ (λ a. nestings n i j * cond (path_of first i a) (held a) 0) (2 ^ n) (λ a ha.
      sum_below_same (leaving n both_work a) _ (2 ^ n) (λ b hb. at_sets a b ha hb) ∙ row (path_of first i a) a)
      ∙ sum_below_mul (nestings n i j) (λ a. cond (path_of first i a) (held a) 0) (2 ^ n)
    where
      held : ℕ → ℕ
      held a = sum_below (λ b. cond (path_of second j b && holds a b) 1 0) (2 ^ n)

      row : (p : Bool) (a : ℕ) → sum_below (λ b. nestings n i j * cond p (cond (path_of second j b && holds a b) 1 0) 0) (2 ^ n) ≡ nestings n i j * cond p (held a) 0
      row true a = sum_below_mul (nestings n i j) (λ b. cond (path_of second j b && holds a b) 1 0) (2 ^ n)
      row false a = sum_below_mul (nestings n i j) (λ b. 0) (2 ^ n) ∙ ap (λ (u : ℕ). nestings n i j * u) (sum_below_zero (2 ^ n))
