-- The set of a list that holds each position at most once: its bits, its bound, and the set of a whole order.
-- Assumes nothing.
use mathlib.Core.Path.{◌≡◌, refl, sym, ap, ap₂, ◌∙◌}
use mathlib.Core.Bool.{Bool, true, false, ◌||◌}
use mathlib.Core.List.{List, [], ◌∷◌}
use mathlib.Core.Logic.{◌⊎◌, inl, inr}
use Prim.Native.Nat.{ℕ, zero, suc, ◌+◌, ◌-◌, ◌^◌, ◌≤◌, ◌<◌, zero-le}
use native.Mathlib.Nat.{zero-add, add_comm, zero-lt-suc, two-pow-succ}
use native.Mathlib.Omega.{arith}
use native.Mathlib.Numerals.{sub-one}
use lib.Dec.{eqb, leb, eqb-suc-suc}
use lib.Pow.{pow_pos}
use borrow.Author.Tests.{eq-eqb, eqb-true, leb-true}
use Rattle.theory_sums.specs.Sums.{indicator, sum, sum_below}
use Rattle.theory_sets.specs.Masks.{has}
use Rattle.numbers.proofs.Bools.{and_right, true_or_false}
use Rattle.theory_sets.proofs.Masks.{has_add, has_above, add_below}
use Rattle.theory_orders.specs.Orders.{is_position, times, IsOrder, mask}
use Rattle.theory_orders.proofs.Orders.{sum_of_order, orders_all}

-- each position occurs at most once, and nothing else occurs
abbrev pub Within : ℕ → List ℕ → Type 0
Within n list = (i : ℕ) → times i list ≤ indicator (is_position n i)

pub order_within : (n : ℕ) (order : List ℕ) → IsOrder n order → Within n order
order_within n order h i = omega (arith, h i)

pub within_rest : (n i : ℕ) (rest : List ℕ) → Within n (i ∷ rest) → Within n rest
unfolding sum
within_rest n i rest h j = omega (arith, h j)

-- the first of such a list is a position that is not among the others
pub within_first : (n i : ℕ) (rest : List ℕ) → Within n (i ∷ rest) → (j : ℕ) × (i ≡ suc j) × (j < n) × (times (suc j) rest ≡ 0)
unfolding sum
within_first n zero rest h = absurd (omega (arith, h 0))
within_first n (suc j) rest h = cases (true_or_false (is_position n (suc j)))
  where
    one : 1 + times (suc j) rest ≤ indicator (is_position n (suc j))
    one = rw (eq-eqb (suc j) (suc j) refl) at (h (suc j))

    cases : (is_position n (suc j) ≡ true) ⊎ (is_position n (suc j) ≡ false)
        → (k : ℕ) × (suc j ≡ suc k) × (k < n) × (times (suc k) rest ≡ 0)
    cases (inl t) = (j, refl, leb-true (suc j) n (and_right (leb 1 (suc j)) (leb (suc j) n) t), omega (arith, one, ap indicator t))
    cases (inr f) = absurd (omega (arith, one, ap indicator f))

-- the mask of one position more
pub mask_more : (j : ℕ) (rest : List ℕ) → mask (suc j ∷ rest) ≡ mask rest + 2 ^ j
unfolding mask sum
mask_more j rest = ap (λ (x : ℕ). 2 ^ x + mask rest) (sub-one (suc j)) ∙ add_comm (2 ^ j) (mask rest)

not_counted : (b : Bool) → indicator b ≡ 0 → b ≡ false
not_counted true h = absurd (omega arith)
not_counted false h = refl

pub mask_bits : (n : ℕ) (list : List ℕ) → Within n list → (i : ℕ) → indicator (has (mask list) i) ≡ times (suc i) list
unfolding mask sum
mask_bits n [] h i = ap indicator (has_above 0 0 i (zero-lt-suc 0) zero-le)
mask_bits n (x ∷ rest) h i = first (within_first n x rest h) (mask_bits n rest (within_rest n x rest h))
  where
    first : (j : ℕ) × (x ≡ suc j) × (j < n) × (times (suc j) rest ≡ 0)
        → ((k : ℕ) → indicator (has (mask rest) k) ≡ times (suc k) rest)
        → indicator (has (mask (x ∷ rest)) i) ≡ indicator (eqb (suc i) x) + times (suc i) rest
    first (j, e, l, new) ih =
        ap (λ (y : ℕ). indicator (has (mask (y ∷ rest)) i)) e ∙ ap (λ (a : ℕ). indicator (has a i)) (mask_more j rest)
        ∙ ap indicator (has_add (mask rest) j (not_counted (has (mask rest) j) (ih j ∙ new)) i) ∙ cases (eqb i j) refl
        ∙ ap (λ (b : Bool). indicator b + times (suc i) rest) (sym (eqb-suc-suc i j) ∙ ap (λ (y : ℕ). eqb (suc i) y) (sym e))
      where
        cases : (b : Bool) → eqb i j ≡ b → indicator (b || has (mask rest) i) ≡ indicator b + times (suc i) rest
        cases true f = ap (λ (u : ℕ). 1 + u) (sym (ap (λ (k : ℕ). times (suc k) rest) (eqb-true i j f) ∙ new))
        cases false f = ih i ∙ sym (zero-add (times (suc i) rest))

-- the set of such a list is the set of the others with one part more
pub mask_step : (n i : ℕ) (rest : List ℕ) → Within n (i ∷ rest)
    → (j : ℕ) × (j < n) × (i ≡ suc j) × (has (mask rest) j ≡ false) × (mask (i ∷ rest) ≡ mask rest + 2 ^ j)
mask_step n i rest h =
    let first = within_first n i rest h in
    let j = first.0 in (
      j,
      first.2,
      first.1,
      not_counted (has (mask rest) j) (mask_bits n rest (within_rest n i rest h) j ∙ first.3),
      ap (λ (y : ℕ). mask (y ∷ rest)) first.1 ∙ mask_more j rest,
    )

pub mask_below : (n : ℕ) (list : List ℕ) → Within n list → mask list < 2 ^ n
unfolding mask sum
mask_below n [] h = pow_pos n
mask_below n (i ∷ rest) h =
    let step = mask_step n i rest h in
    rw step.4 (add_below n (mask rest) step.0 (mask_below n rest (within_rest n i rest h)) step.1 step.3)

all_bits : (n : ℕ) → sum_below (λ i. 2 ^ (suc i - 1)) n ≡ 2 ^ n - 1
unfolding sum_below
all_bits zero = refl
all_bits (suc n) =
    ap₂ (λ (u v : ℕ). u + 2 ^ v) (all_bits n) (sub-one (suc n)) ∙ omega (arith, two-pow-succ n, pow_pos n)

pub mask_order : (n : ℕ) (order : List ℕ) → IsOrder n order → mask order ≡ 2 ^ n - 1
unfolding mask
mask_order n order h = sum_of_order (λ i. 2 ^ (i - 1)) n order (orders_all n order h) ∙ all_bits n
