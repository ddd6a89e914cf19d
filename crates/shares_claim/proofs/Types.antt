-- Sets by their type, which is how many parts they have in the group and how many outside: the parts of either kind that a set has and lacks, and
-- sums over the coefficients of h as sums over the path sets. Assumes nothing.
use mathlib.Core.Path.{◌≡◌, refl, sym, ap, ap₂, ◌∙◌}
use mathlib.Core.Bool.{Bool, true, false, cond, not, ◌&&◌}
use Prim.Native.Nat.{ℕ, suc, ◌+◌, ◌-◌, ◌^◌, ◌≤◌, ◌<◌}
use native.Mathlib.Omega.{arith}
use lib.Dec.{eqb}
use lib.IntN.{ℤ, pos, ◌*ℤ◌, *ℤ-zero, *ℤ_comm}
use borrow.Author.Tests.{eq-eqb, ne_eqb}
use Rattle.theory_sums.specs.Sums.{indicator, sum_below, sum_belowℤ, sum_sets}
use Rattle.theory_sums.proofs.Differences.{difference}
use Rattle.theory_sums.proofs.Sums.{sum_below_same, sum_below_add}
use Rattle.theory_sums.proofs.Integers.{ring}
use Rattle.theory_sums.proofs.IntegerSums.{sum_belowℤ_same, sum_belowℤ_mul, sum_belowℤ_exchange}
use Rattle.theory_sets.specs.Masks.{has, size, inside, outside}
use Rattle.numbers.proofs.Bools.{and_swap}
use Rattle.theory_orders.proofs.Sizes.{size_bits, size_rest, size_meet, missing_inside}
use Rattle.theory_figures.specs.Figures.{set_domination}
use Rattle.theory_sums.proofs.IntegerSums.{sum_belowℤ_only}
use Rattle.theory_figures.proofs.Supersets.{above_same, opposite, having, lacking, sum_above}
use Rattle.theory_figures.proofs.Dominations.{sum_dominations}
use Rattle.shares_claim.specs.Reliability.{reliability}

-- how many path sets have i parts in the group and j outside
unfoldable pub type_count : ℕ → (ℕ → Bool) → ℕ → ℕ → ℕ → ℕ
type_count n works group i j = sum_sets n (λ a. works a && (eqb (inside group a) i && eqb (outside group a) j)) (λ a. 1)

-- ---- the parts that a set has and lacks

-- what passes one test and a second, and what passes the first and fails the second, pass the first
parted : (f g : ℕ → Bool) (n : ℕ)
    → sum_below (λ i. indicator (f i && g i)) n + sum_below (λ i. indicator (f i && not (g i))) n ≡ sum_below (λ i. indicator (f i)) n
parted f g n =
    sym (sum_below_add (λ i. indicator (f i && g i)) (λ i. indicator (f i && not (g i))) n)
    ∙ sum_below_same _ _ n (λ i l. either (f i) (g i))
  where
    either : (p q : Bool) → indicator (p && q) + indicator (p && not q) ≡ indicator p
    either true true = refl
    either true false = refl
    either false q = refl

module _ (n group a : ℕ) (within : group < 2 ^ n) (h : a < 2 ^ n) where
  pub inside_most : inside group a ≤ size group
  inside_most = omega (arith, missing_inside n group a within h)

  pub having_inside : having (has group) n a ≡ inside group a
  having_inside = sym (size_meet n group a h)

  pub having_outside : having (opposite (has group)) n a ≡ outside group a
  having_outside = omega (arith, having_inside, parted (has a) (has group) n, size_bits n a h)

  pub inside_and_outside : inside group a + outside group a ≡ size a
  inside_and_outside = omega (arith, having_inside, having_outside, parted (has a) (has group) n, size_bits n a h)

  lacking_inside : lacking (has group) n a ≡ size group - inside group a
  lacking_inside =
      let lacks : lacking (has group) n a ≡ sum_below (λ i. indicator (has group i && not (has a i))) n
      = sum_below_same _ _ n (λ i l. ap indicator (and_swap (not (has a i)) (has group i))) in
      omega (arith, missing_inside n group a within h)

  lacking_and_outside : lacking (opposite (has group)) n a + outside group a + size group ≡ n
  lacking_and_outside =
      omega (arith, having_inside, having_outside, lacking_inside, inside_most, parted (has a) (has group) n, parted (λ i. not (has a i)) (has group) n, size_bits n a h, size_rest n a h)

  lacking_outside : lacking (opposite (has group)) n a ≡ n - size group - outside group a
  lacking_outside = omega (arith, lacking_and_outside)

  pub outside_most : outside group a ≤ n - size group
  outside_most = omega (arith, lacking_and_outside)

-- ---- sums by class

-- what the numbers a below k give, class by class and each class with a weight, they give each with the weight of its class
sum_classes : (k most : ℕ) (class : ℕ → ℕ) (weight value : ℕ → ℤ) → ((a : ℕ) → a < k → class a ≤ most)
    → sum_belowℤ (λ s. weight s *ℤ sum_belowℤ (λ a. cond (eqb (class a) s) (value a) (pos 0)) k) (suc most)
    ≡ sum_belowℤ (λ a. weight (class a) *ℤ value a) k
sum_classes k most class weight value within =
    sum_belowℤ_same _ _ (suc most) (λ s l. sym (sum_belowℤ_mul (weight s) (λ a. cond (eqb (class a) s) (value a) (pos 0)) k))
    ∙ sum_belowℤ_exchange (λ s a. weight s *ℤ cond (eqb (class a) s) (value a) (pos 0)) (suc most) k
    ∙ sum_belowℤ_same _ _ k (λ a l.
    sum_belowℤ_only (λ s. weight s *ℤ cond (eqb (class a) s) (value a) (pos 0)) (class a) (suc most) (omega (arith, within a l)) (λ s m other.
    ap (λ (t : Bool). weight s *ℤ cond t (value a) (pos 0)) (ne_eqb (class a) s (λ e. other (sym e))) ∙ *ℤ-zero (weight s))
    ∙ ap (λ (t : Bool). weight (class a) *ℤ cond t (value a) (pos 0)) (eq-eqb (class a) (class a) refl))

-- the sum of a value over the sets with i parts in the group and j outside
abbrev pub sum_of_type : ℕ → ℕ → (ℕ → ℤ) → ℕ → ℕ → ℤ
sum_of_type n group value i j = sum_belowℤ (λ a. cond (eqb (inside group a) i && eqb (outside group a) j) (value a) (pos 0)) (2 ^ n)

-- one of F for the parts in the group and one of G for those outside: type by type, and set by set
pub sum_types : (n group : ℕ) → group < 2 ^ n → (F G value : ℕ → ℤ)
    → sum_belowℤ (λ j. sum_belowℤ (λ i. F i *ℤ sum_of_type n group value i j) (suc (size group)) *ℤ G j) (suc (n - size group))
    ≡ sum_belowℤ (λ a. F (inside group a) *ℤ G (outside group a) *ℤ value a) (2 ^ n)
sum_types n group within F G value =
    sum_belowℤ_same _ (λ j. G j *ℤ sum_belowℤ (λ a. cond (eqb (outside group a) j) (F (inside group a) *ℤ value a) (pos 0)) (2 ^ n))
    (suc (n - size group)) (λ j l.
    ap (λ (x : ℤ). x *ℤ G j)
    (sum_belowℤ_same _ _ (suc (size group)) (λ i m. ap (λ (x : ℤ). F i *ℤ x) (sum_belowℤ_same _ _ (2 ^ n) (λ a p.
    nested (eqb (inside group a) i) (eqb (outside group a) j) (value a))))
    ∙ sum_classes (2 ^ n) (size group) (inside group) F (λ a. cond (eqb (outside group a) j) (value a) (pos 0))
    (λ a p. inside_most n group a within p)
    ∙ sum_belowℤ_same _ _ (2 ^ n) (λ a p. inwards (eqb (outside group a) j) (F (inside group a)) (value a)))
    ∙ *ℤ_comm _ (G j))
    ∙ sum_classes (2 ^ n) (n - size group) (outside group) G (λ a. F (inside group a) *ℤ value a) (λ a p. outside_most n group a within p)
    ∙ sum_belowℤ_same _ _ (2 ^ n) (λ a p. turned (G (outside group a)) (F (inside group a)) (value a))
  where
    nested : (p q : Bool) (x : ℤ) → cond (p && q) x (pos 0) ≡ cond p (cond q x (pos 0)) (pos 0)
    nested true q x = refl
    nested false q x = refl

    inwards : (q : Bool) (y x : ℤ) → y *ℤ cond q x (pos 0) ≡ cond q (y *ℤ x) (pos 0)
    inwards true y x = refl
    inwards false y x = *ℤ-zero y

    turned : (g f d : ℤ) → g *ℤ (f *ℤ d) ≡ f *ℤ g *ℤ d
    turned g f d = simp ring

-- ---- the coefficients of h

-- what a set with a parts in the group of m, and b outside, gives: the differences of F and of G, by as many steps as parts are lacking
abbrev pub differences : ℕ → ℕ → (ℕ → ℤ) → (ℕ → ℤ) → ℕ → ℕ → ℤ
differences n m F G a b = difference (m - a) F a *ℤ difference (n - m - b) G b

-- over the coefficients of h, one of F and one of G for the powers of x and of z: over the path sets
pub sum_reliability : (n : ℕ) (works : ℕ → Bool) (group : ℕ) → group < 2 ^ n → (F G : ℕ → ℤ)
    → sum_belowℤ (λ j. sum_belowℤ (λ i. F i *ℤ reliability n works group i j) (suc (size group)) *ℤ G j) (suc (n - size group))
    ≡ sum_belowℤ (λ b. pos (indicator (works b)) *ℤ differences n (size group) F G (inside group b) (outside group b)) (2 ^ n)
unfolding reliability
sum_reliability n works group within F G =
    sum_types n group within F G (set_domination n works) ∙ sum_dominations n works (λ a. F (inside group a) *ℤ G (outside group a))
    ∙ sum_belowℤ_same _ _ (2 ^ n) (λ b l. ap (λ (x : ℤ). pos (indicator (works b)) *ℤ x)
    (above_same n _ (λ a. F (having (has group) n a) *ℤ G (having (opposite (has group)) n a)) b (λ a m.
    ap₂ (λ (x y : ℕ). F x *ℤ G y) (sym (having_inside n group a within m)) (sym (having_outside n group a within m)))
    ∙ sum_above n (has group) F G b l
    ∙ ap₂ (λ (u v : ℤ). u *ℤ v)
    (ap₂ (λ (x y : ℕ). difference x F y) (lacking_inside n group b within l) (having_inside n group b within l))
    (ap₂ (λ (x y : ℕ). difference x G y) (lacking_outside n group b within l) (having_outside n group b within l))))
