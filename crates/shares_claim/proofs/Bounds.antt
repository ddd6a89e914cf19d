-- How large a coefficient of h can be: C(m,i) C(n-m,j) sets have i parts in the group and j outside, and d(A) has at most 2^|A| terms. For n up to
-- 16 that is at most 2^32. Assumes nothing.
use mathlib.Core.Path.{◌≡◌, refl, sym, ap, ap₂, ◌∙◌}
use mathlib.Core.Bool.{Bool, true, false, cond, not, ◌&&◌}
use mathlib.Core.Logic.{◌⊎◌, inl, inr}
use Prim.Native.Nat.{ℕ, zero, suc, zero-le, ◌+◌, ◌-◌, ◌*◌, ◌^◌, ◌≤◌, ◌<◌}
use native.Mathlib.Nat.{le_refl, le_trans, le_of_eq, add-zero, zero-mul, mul-one, mul_comm, sub-add_cancel, two-pow-succ}
use native.Mathlib.Numerals.{add-one}
use native.Mathlib.Omega.{arith}
use lib.Arith.{lt-one}
use lib.Count.{ones, ones_in}
use lib.Dec.{eqb, eqb-zero-suc, eqb-suc-zero, eqb-suc-suc}
use lib.IntN.{pos, ◌*ℤ◌, nat_abs}
use borrow.Author.Tests.{eqb-true}
use Rattle.numbers.specs.Counts.{choose}
use Rattle.theory_sums.specs.Sums.{indicator, sum_below}
use Rattle.theory_sums.proofs.Sums.{sum_below_same, sum_below_le, sum_below_zero, sum_below_mul, sum_below_masks}
use Rattle.theory_sets.specs.Masks.{has, size, holds, inside, outside}
use Rattle.numbers.proofs.Bools.{and_left, and_right, and_swap, true_or_false}
use Rattle.numbers.proofs.Bounds.{below_or_above}
use Rattle.theory_orders.proofs.Sizes.{size_bits, size_rest, size_last}
use Rattle.theory_figures.specs.Figures.{sign, set_domination}
use Rattle.theory_figures.proofs.Holding.{holds_more, holds_never, holds_last}
use Rattle.theory_figures.proofs.Supersets.{opposite, having, having_without, having_with}
use Rattle.shares_claim.specs.Polynomials.{in_cells}
use Rattle.shares_claim.specs.Reliability.{reliability, reliability_cells}
use Rattle.shares_claim.specs.Inside.{Bounded}
use Rattle.shares_claim.proofs.Cells.{in_cells_lem}
use Rattle.shares_claim.proofs.Magnitudes.{nat_abs_product, nat_abs_sum, nat_abs_sign}
use Rattle.shares_claim.proofs.Types.{having_inside, having_outside, inside_and_outside}

-- ---- the sets that a set holds

subsets : (n a : ℕ) → a < 2 ^ n → sum_below (λ b. indicator (holds a b)) (2 ^ n) ≡ 2 ^ size a
unfolding sum_below holds ones ones_in
subsets zero a h = let none : a ≡ 0 = lt-one h in rw none
subsets (suc n) a h = sum_below_masks (λ b. indicator (holds a b)) n ∙ cases (below_or_above a (2 ^ n)) (subsets n)
  where
    cases : (a < 2 ^ n) ⊎ (2 ^ n ≤ a) → ((c : ℕ) → c < 2 ^ n → sum_below (λ b. indicator (holds c b)) (2 ^ n) ≡ 2 ^ size c)
        → sum_below (λ b. indicator (holds a b)) (2 ^ n) + sum_below (λ b. indicator (holds a (b + 2 ^ n))) (2 ^ n) ≡ 2 ^ size a
    cases (inl l) ih =
        ap₂ (λ (u v : ℕ). u + v) (ih a l)
        (sum_below_same _ (λ b. 0) (2 ^ n) (λ b m. ap indicator (holds_never n a b l m)) ∙ sum_below_zero (2 ^ n))
        ∙ add-zero (2 ^ size a)
    cases (inr l) ih =
        let c : ℕ = a - 2 ^ n in
        let low : c < 2 ^ n = omega (arith, two-pow-succ n) in
        let whole : a ≡ c + 2 ^ n = sym (sub-add_cancel l) in
        rw whole
        (ap₂ (λ (u v : ℕ). u + v)
        (sum_below_same _ _ (2 ^ n) (λ b m. ap indicator (holds_more n c b low m)) ∙ ih c low)
        (sum_below_same _ _ (2 ^ n) (λ b m. ap indicator (holds_last n c b low m)) ∙ ih c low)
        ∙ sym (ap (λ (x : ℕ). 2 ^ x) (size_last n c low) ∙ two-pow-succ (size c)))

domination_most : (n : ℕ) (works : ℕ → Bool) (a : ℕ) → a < 2 ^ n → nat_abs (set_domination n works a) ≤ 2 ^ size a
unfolding set_domination
domination_most n works a h =
    le_trans (nat_abs_sum (λ b. pos (indicator (holds a b && works b)) *ℤ sign (size a - size b)) (2 ^ n))
    (le_trans (sum_below_le _ (λ b. indicator (holds a b)) (2 ^ n) (λ b l.
    le_trans (le_of_eq (nat_abs_product (pos (indicator (holds a b && works b))) (sign (size a - size b))
    ∙ ap (λ (u : ℕ). indicator (holds a b && works b) * u) (nat_abs_sign (size a - size b))))
    (fewer (holds a b) (works b))))
    (le_of_eq (subsets n a h)))
  where
    fewer : (p q : Bool) → indicator (p && q) * 1 ≤ indicator p
    fewer true true = le_refl 1
    fewer true false = zero-le
    fewer false q = le_refl 0

-- ---- the sets of a type

-- how many numbers below k have f at i and g at j
both : (ℕ → ℕ) → (ℕ → ℕ) → ℕ → ℕ → ℕ → ℕ
both f g k i j = sum_below (λ a. indicator (eqb (f a) i && eqb (g a) j)) k

both_swap : (f g : ℕ → ℕ) (k i j : ℕ) → both f g k i j ≡ both g f k j i
unfolding both
both_swap f g k i j = sum_below_same _ _ k (λ a l. ap indicator (and_swap (eqb (f a) i) (eqb (g a) j)))

-- one part more for f: it is left out or put in, and Pascal's rule
one_part_lem : (f g : ℕ → ℕ) (k x y : ℕ) → ((i j : ℕ) → both f g k i j ≡ choose x i * choose y j)
    → (i j : ℕ) → both f g k i j + both (λ a. f a + 1) (λ a. g a + 0) k i j ≡ choose (x + 1) i * choose (y + 0) j
unfolding both choose
one_part_lem f g k x y known zero j =
    ap₂ (λ (u v : ℕ). u + v) (known zero j)
    (sum_below_same _ (λ a. 0) k (λ a l. ap (λ (t : Bool). indicator (t && eqb (g a + 0) j)) (ap (λ (z : ℕ). eqb z 0) (add-one (f a)) ∙ eqb-suc-zero (f a)))
    ∙ sum_below_zero k)
    ∙ rw (add-zero y) (omega arith)
one_part_lem f g k x y known (suc i) j =
    ap₂ (λ (u v : ℕ). u + v) (known (suc i) j)
    (sum_below_same _ _ k (λ a l. ap₂ (λ (s t : Bool). indicator (s && t)) (ap (λ (z : ℕ). eqb z (suc i)) (add-one (f a)) ∙ eqb-suc-suc (f a) i)
    (ap (λ (z : ℕ). eqb z j) (add-zero (g a))))
    ∙ known i j)
    ∙ rw (add-one x, add-zero y) (joined (choose x (suc i)) (choose x i) (choose y j))
  where
    joined : (p q r : ℕ) → p * r + q * r ≡ (q + p) * r
    joined p q r = omega arith

one_part_either : (t : Bool) (f g : ℕ → ℕ) (k x y : ℕ) → ((i j : ℕ) → both f g k i j ≡ choose x i * choose y j)
    → (i j : ℕ) → both f g k i j + both (λ a. f a + indicator t) (λ a. g a + indicator (not t)) k i j
    ≡ choose (x + indicator t) i * choose (y + indicator (not t)) j
one_part_either true f g k x y known i j = one_part_lem f g k x y known i j
one_part_either false f g k x y known i j =
    ap₂ (λ (u v : ℕ). u + v) (both_swap f g k i j) (both_swap (λ a. f a + 0) (λ a. g a + 1) k i j)
    ∙ one_part_lem g f k y x (λ j i. both_swap g f k j i ∙ known i j ∙ mul_comm (choose x i) (choose y j)) j i
    ∙ mul_comm (choose (y + 1) j) (choose (x + 0) i)

sets_of_type : (test : ℕ → Bool) (n i j : ℕ)
    → both (having test n) (having (opposite test) n) (2 ^ n) i j
    ≡ choose (sum_below (λ p. indicator (test p)) n) i * choose (sum_below (λ p. indicator (opposite test p)) n) j
unfolding both sum_below choose
sets_of_type test zero zero zero = refl
sets_of_type test zero zero (suc j) = rw (eqb-zero-suc j)
sets_of_type test zero (suc i) j = rw (eqb-zero-suc i) (sym (zero-mul (choose 0 j)))
sets_of_type test (suc n) i j =
    sum_below_masks (λ a. indicator (eqb (having test (suc n) a) i && eqb (having (opposite test) (suc n) a) j)) n
    ∙ ap₂ (λ (u v : ℕ). u + v)
    (sum_below_same _ _ (2 ^ n) (λ a l. ap₂ (λ (x y : ℕ). indicator (eqb x i && eqb y j)) (having_without test n a l) (having_without (opposite test) n a l)))
    (sum_below_same _ _ (2 ^ n) (λ a l. ap₂ (λ (x y : ℕ). indicator (eqb x i && eqb y j)) (having_with test n a l) (having_with (opposite test) n a l)))
    ∙ one_part_either (test n) (having test n) (having (opposite test) n) (2 ^ n) _ _ (sets_of_type test n) i j

types : (n group : ℕ) → group < 2 ^ n → (i j : ℕ)
    → sum_below (λ a. indicator (eqb (inside group a) i && eqb (outside group a) j)) (2 ^ n) ≡ choose (size group) i * choose (n - size group) j
unfolding both
types n group within i j =
    sum_below_same _ (λ a. indicator (eqb (having (has group) n a) i && eqb (having (opposite (has group)) n a) j)) (2 ^ n) (λ a l.
    ap₂ (λ (x y : ℕ). indicator (eqb x i && eqb y j)) (sym (having_inside n group a within l)) (sym (having_outside n group a within l)))
    ∙ sets_of_type (has group) n i j
    ∙ ap₂ (λ (x y : ℕ). choose x i * choose y j) (sym (size_bits n group within)) others
  where
    others : sum_below (λ p. indicator (not (has group p))) n ≡ n - size group
    others = omega (arith, size_rest n group within)

-- ---- the coefficients

pub reliability_bounded : (n : ℕ) (works : ℕ → Bool) (group : ℕ) → group < 2 ^ n → Bounded n (size group) (reliability n works group)
unfolding reliability
reliability_bounded n works group within i j few rest =
    le_trans (nat_abs_sum (λ a. cond (typed a) (set_domination n works a) (pos 0)) (2 ^ n))
    (le_trans (sum_below_le _ (λ a. 2 ^ (i + j) * indicator (typed a)) (2 ^ n) (λ a l. one_set a l (true_or_false (typed a))))
    (le_of_eq (sum_below_mul (2 ^ (i + j)) (λ a. indicator (typed a)) (2 ^ n)
    ∙ ap (λ (u : ℕ). 2 ^ (i + j) * u) (types n group within i j)
    ∙ mul_comm (2 ^ (i + j)) (choose (size group) i * choose (n - size group) j))))
  where
    typed : ℕ → Bool
    typed a = eqb (inside group a) i && eqb (outside group a) j

    one_set : (a : ℕ) → a < 2 ^ n → (typed a ≡ true) ⊎ (typed a ≡ false)
        → nat_abs (cond (typed a) (set_domination n works a) (pos 0)) ≤ 2 ^ (i + j) * indicator (typed a)
    one_set a l (inl t) =
        let all : size a ≡ i + j = sym (inside_and_outside n group a within l)
        ∙ ap₂ (λ (x y : ℕ). x + y) (eqb-true (inside group a) i (and_left (eqb (inside group a) i) (eqb (outside group a) j) t))
        (eqb-true (outside group a) j (and_right (eqb (inside group a) i) (eqb (outside group a) j) t)) in
        rw t (le_trans (domination_most n works a l) (le_of_eq (ap (λ (x : ℕ). 2 ^ x) all ∙ sym (mul-one (2 ^ (i + j))))))
    one_set a l (inr t) = rw t zero-le

pub cells_bounded : (n : ℕ) (works : ℕ → Bool) (group : ℕ) → group < 2 ^ n
    → Bounded n (size group) (in_cells n (size group) (reliability_cells n works group))
cells_bounded n works group within i j few rest =
    le_trans (le_of_eq (ap nat_abs (in_cells_lem n works group i j few rest))) (reliability_bounded n works group within i j few rest)
