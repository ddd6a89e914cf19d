-- Alternating sums over the sets that hold a set b. For a function of the parts that a set has among some and among the others, such a sum is a
-- product of differences: one part after the other, a part that b has is in each of them, and one that it lacks is left out or put in, with
-- opposite signs. Assumes nothing.
use mathlib.Core.Path.{◌≡◌, refl, sym, ap, ap₂, ◌∙◌, subst}
use mathlib.Core.Bool.{Bool, true, false, cond, not, ◌&&◌}
use mathlib.Core.Logic.{◌⊎◌, inl, inr}
use Prim.Native.Nat.{ℕ, zero, suc, ◌+◌, ◌-◌, ◌^◌, ◌≤◌, ◌<◌}
use native.Mathlib.Nat.{le_refl, add-zero, suc-add, sub-add_cancel, suc-sub-suc, two-pow-succ}
use native.Mathlib.Numerals.{add-one}
use native.Mathlib.Omega.{arith}
use lib.Arith.{lt-one}
use lib.Count.{ones, ones_in}
use lib.IntN.{ℤ, pos, negsuc, neg_ℤ, ◌+ℤ◌, ◌-ℤ◌, ◌*ℤ◌, pow, one, +ℤ_idl}
use Rattle.theory_sums.specs.Sums.{indicator, sum_below, sum_belowℤ}
use Rattle.theory_sums.proofs.Differences.{difference}
use Rattle.theory_sums.proofs.Sums.{sum_below_same}
use Rattle.theory_sums.proofs.Integers.{*ℤ-unit, *ℤ-negℤ, ring}
use Rattle.theory_sums.proofs.IntegerSums.{sum_belowℤ_same, sum_belowℤ_zero, sum_belowℤ_neg}
use Rattle.theory_sets.specs.Masks.{has, size, holds}
use Rattle.numbers.proofs.Bools.{true_or_false}
use Rattle.theory_sets.proofs.Masks.{has_above}
use Rattle.numbers.proofs.Bounds.{below_or_above}
use Rattle.theory_orders.proofs.Sizes.{size_last, has_last, has_others}
use Rattle.theory_figures.specs.Figures.{sign}
use Rattle.theory_sums.proofs.IntegerSums.{sum_belowℤ_masks}
use Rattle.theory_figures.proofs.Holding.{size_holds, holds_more, holds_never, holds_last}

-- ---- the sum by the last part

sign_suc : (k : ℕ) → sign (suc k) ≡ sign k *ℤ negsuc 0
unfolding pow
sign_suc k = refl

-- what a set a that holds b gives: its weight, with the sign of the parts that it has more
unfoldable pub above : (ℕ → ℤ) → ℕ → ℕ → ℤ
above weight b a = cond (holds a b) (weight a *ℤ sign (size a - size b)) (pos 0)

pub above_same : (n : ℕ) (weight other : ℕ → ℤ) (b : ℕ) → ((a : ℕ) → a < 2 ^ n → weight a ≡ other a)
    → sum_belowℤ (above weight b) (2 ^ n) ≡ sum_belowℤ (above other b) (2 ^ n)
unfolding above
above_same n weight other b h =
    sum_belowℤ_same _ _ (2 ^ n) (λ a l. ap (λ (x : ℤ). cond (holds a b) (x *ℤ sign (size a - size b)) (pos 0)) (h a l))

above_none : (weight : ℕ → ℤ) → sum_belowℤ (above weight 0) (2 ^ 0) ≡ weight 0
unfolding sum_belowℤ above holds ones ones_in pow one
above_none weight = +ℤ_idl (weight 0 *ℤ pos 1) ∙ *ℤ-unit (weight 0)

module _ (n : ℕ) (weight : ℕ → ℤ) (b : ℕ) (low : b < 2 ^ n) where
  -- the weight with the last part put in
  more : ℕ → ℤ
  more a = weight (a + 2 ^ n)

  above_lower : (a : ℕ) → a < 2 ^ n → above weight b (a + 2 ^ n) ≡ neg_ℤ (above more b a)
  unfolding above more
  above_lower a ha = rw (holds_more n a b ha low, size_last n a ha) (cases (true_or_false (holds a b)))
    where
      minus : (x s : ℤ) → x *ℤ (s *ℤ negsuc 0) ≡ neg_ℤ (x *ℤ s)
      minus x s = ap (λ (u : ℤ). x *ℤ u) (*ℤ-negℤ s (pos 1) ∙ ap neg_ℤ (*ℤ-unit s)) ∙ *ℤ-negℤ x s

      cases : (holds a b ≡ true) ⊎ (holds a b ≡ false)
          → cond (holds a b) (more a *ℤ sign (suc (size a) - size b)) (pos 0)
          ≡ neg_ℤ (cond (holds a b) (more a *ℤ sign (size a - size b)) (pos 0))
      cases (inl h) =
          let next : suc (size a) - size b ≡ suc (size a - size b) = omega (arith, size_holds n a b ha low h) in
          rw (h, next) (ap (λ (u : ℤ). more a *ℤ u) (sign_suc (size a - size b)) ∙ minus (more a) (sign (size a - size b)))
      cases (inr h) = rw h

  above_upper : (a : ℕ) → a < 2 ^ n → above weight (b + 2 ^ n) (a + 2 ^ n) ≡ above more b a
  unfolding above more
  above_upper a ha = rw (holds_last n a b ha low, size_last n a ha, size_last n b low, suc-sub-suc (size a) (size b))

  above_never : (a : ℕ) → a < 2 ^ n → above weight (b + 2 ^ n) a ≡ pos 0
  unfolding above
  above_never a ha = rw (holds_never n a b ha low)

  above_without : sum_belowℤ (above weight b) (2 ^ suc n) ≡ sum_belowℤ (above weight b) (2 ^ n) -ℤ sum_belowℤ (above more b) (2 ^ n)
  above_without =
      sum_belowℤ_masks (above weight b) n
      ∙ ap (λ (u : ℤ). sum_belowℤ (above weight b) (2 ^ n) +ℤ u)
      (sum_belowℤ_same _ (λ a. neg_ℤ (above more b a)) (2 ^ n) above_lower ∙ sum_belowℤ_neg (above more b) (2 ^ n))

  above_with : sum_belowℤ (above weight (b + 2 ^ n)) (2 ^ suc n) ≡ sum_belowℤ (above more b) (2 ^ n)
  above_with =
      sum_belowℤ_masks (above weight (b + 2 ^ n)) n
      ∙ ap₂ (λ (u v : ℤ). u +ℤ v)
      (sum_belowℤ_same _ (λ a. pos 0) (2 ^ n) above_never ∙ sum_belowℤ_zero (2 ^ n))
      (sum_belowℤ_same _ (above more b) (2 ^ n) above_upper)
      ∙ +ℤ_idl (sum_belowℤ (above more b) (2 ^ n))

-- ---- the parts that pass a test

-- the parts that do not pass it
abbrev pub opposite : (ℕ → Bool) → ℕ → Bool
opposite test i = not (test i)

-- how many of the first n parts pass the test, of those that a set has and of those that it lacks
abbrev pub having : (ℕ → Bool) → ℕ → ℕ → ℕ
having test n a = sum_below (λ i. indicator (has a i && test i)) n

abbrev pub lacking : (ℕ → Bool) → ℕ → ℕ → ℕ
lacking test n a = sum_below (λ i. indicator (not (has a i) && test i)) n

module _ (test : ℕ → Bool) (n a : ℕ) (h : a < 2 ^ n) where
  last : has a n ≡ false
  last = has_above a n n h (le_refl n)

  others : (f : Bool → Bool → Bool)
      → sum_below (λ i. indicator (f (has (a + 2 ^ n) i) (test i))) n ≡ sum_below (λ i. indicator (f (has a i) (test i))) n
  others f = sum_below_same _ _ n (λ i l. ap (λ (b : Bool). indicator (f b (test i))) (has_others n a h i l))

  pub having_without : having test (suc n) a ≡ having test n a
  unfolding sum_below
  having_without = rw last (add-zero (having test n a))

  pub having_with : having test (suc n) (a + 2 ^ n) ≡ having test n a + indicator (test n)
  unfolding sum_below
  having_with = rw (has_last n a h) (ap (λ (u : ℕ). u + indicator (test n)) (others (λ p q. p && q)))

  lacking_without : lacking test (suc n) a ≡ lacking test n a + indicator (test n)
  unfolding sum_below
  lacking_without = rw last

  lacking_with : lacking test (suc n) (a + 2 ^ n) ≡ lacking test n a
  unfolding sum_below
  lacking_with = rw (has_last n a h) (add-zero _ ∙ others (λ p q. not p && q))

-- ---- differences

-- one part more among those of F or among those of G: a difference of one order more
one_more : (t : Bool) (F G : ℕ → ℤ) (k l x y : ℕ)
    → difference k F x *ℤ difference l G y -ℤ difference k F (x + indicator t) *ℤ difference l G (y + indicator (not t))
    ≡ difference (k + indicator t) F x *ℤ difference (l + indicator (not t)) G y
unfolding difference
one_more true F G k l x y =
    rw (add-one x, add-zero y, add-one k, add-zero l) (left (difference k F x) (difference k F (suc x)) (difference l G y))
  where
    left : (u v w : ℤ) → u *ℤ w -ℤ v *ℤ w ≡ (u -ℤ v) *ℤ w
    left u v w = simp ring
one_more false F G k l x y =
    rw (add-zero x, add-one y, add-zero k, add-one l) (right (difference k F x) (difference l G y) (difference l G (suc y)))
  where
    right : (u v w : ℤ) → u *ℤ v -ℤ u *ℤ w ≡ u *ℤ (v -ℤ w)
    right u v w = simp ring

difference_shift_by : (n s : ℕ) (f : ℕ → ℤ) (a : ℕ) → difference n (λ i. f (i + s)) a ≡ difference n f (a + s)
unfolding difference
difference_shift_by zero s f a = refl
difference_shift_by (suc n) s f a =
    ap₂ (λ (u v : ℤ). u -ℤ v) (difference_shift_by n s f a) (difference_shift_by n s f (suc a) ∙ ap (difference n f) (suc-add a s))

-- the alternating sum over the sets that hold b, of a function of the parts that pass a test times one of the parts that do not
pub sum_above : (n : ℕ) (test : ℕ → Bool) (F G : ℕ → ℤ) (b : ℕ) → b < 2 ^ n
    → sum_belowℤ (above (λ a. F (having test n a) *ℤ G (having (opposite test) n a)) b) (2 ^ n)
    ≡ difference (lacking test n b) F (having test n b) *ℤ difference (lacking (opposite test) n b) G (having (opposite test) n b)
unfolding sum_below difference more
sum_above zero test F G b h =
    ap (λ (x : ℕ). sum_belowℤ (above (λ a. F 0 *ℤ G 0) x) (2 ^ 0)) (lt-one h) ∙ above_none (λ a. F 0 *ℤ G 0)
sum_above (suc n) test F G b h = cases (below_or_above b (2 ^ n)) (sum_above n test)
  where
    weight : ℕ → ℤ
    weight a = F (having test (suc n) a) *ℤ G (having (opposite test) (suc n) a)

    Below : Type 0
    Below = (F G : ℕ → ℤ) (c : ℕ) → c < 2 ^ n
        → sum_belowℤ (above (λ a. F (having test n a) *ℤ G (having (opposite test) n a)) c) (2 ^ n)
        ≡ difference (lacking test n c) F (having test n c) *ℤ difference (lacking (opposite test) n c) G (having (opposite test) n c)

    put_in : Below → (c : ℕ) → c < 2 ^ n
        → sum_belowℤ (above (λ a. weight (a + 2 ^ n)) c) (2 ^ n)
        ≡ difference (lacking test n c) F (having test n c + indicator (test n))
        *ℤ difference (lacking (opposite test) n c) G (having (opposite test) n c + indicator (not (test n)))
    put_in ih c low =
        above_same n _ _ c (λ a l. ap₂ (λ (x y : ℕ). F x *ℤ G y) (having_with test n a l) (having_with (opposite test) n a l))
        ∙ ih (λ x. F (x + indicator (test n))) (λ x. G (x + indicator (not (test n)))) c low
        ∙ ap₂ (λ (u v : ℤ). u *ℤ v)
        (difference_shift_by (lacking test n c) (indicator (test n)) F (having test n c))
        (difference_shift_by (lacking (opposite test) n c) (indicator (not (test n))) G (having (opposite test) n c))

    cases : (b < 2 ^ n) ⊎ (2 ^ n ≤ b) → Below
        → sum_belowℤ (above weight b) (2 ^ suc n)
        ≡ difference (lacking test (suc n) b) F (having test (suc n) b)
        *ℤ difference (lacking (opposite test) (suc n) b) G (having (opposite test) (suc n) b)
    cases (inl low) ih =
        above_without n weight b low
        ∙ ap₂ (λ (u v : ℤ). u -ℤ v)
        (above_same n _ _ b (λ a l. ap₂ (λ (x y : ℕ). F x *ℤ G y) (having_without test n a l) (having_without (opposite test) n a l))
        ∙ ih F G b low)
        (put_in ih b low)
        ∙ one_more (test n) F G (lacking test n b) (lacking (opposite test) n b) (having test n b) (having (opposite test) n b)
        ∙ ap₂ (λ (x y : ℕ). difference x F (having test n b) *ℤ difference y G (having (opposite test) n b))
        (sym (lacking_without test n b low)) (sym (lacking_without (opposite test) n b low))
        ∙ ap₂ (λ (x y : ℕ). difference (lacking test (suc n) b) F x *ℤ difference (lacking (opposite test) (suc n) b) G y)
        (sym (having_without test n b low)) (sym (having_without (opposite test) n b low))
    cases (inr high) ih =
        let c : ℕ = b - 2 ^ n in
        let low : c < 2 ^ n = omega (arith, two-pow-succ n) in
        subst
        (λ (x : ℕ). sum_belowℤ (above weight x) (2 ^ suc n)
        ≡ difference (lacking test (suc n) x) F (having test (suc n) x)
        *ℤ difference (lacking (opposite test) (suc n) x) G (having (opposite test) (suc n) x))
        (sub-add_cancel high)
        (above_with n weight c low ∙ put_in ih c low
        ∙ ap₂ (λ (x y : ℕ). difference x F (having test n c + indicator (test n))
        *ℤ difference y G (having (opposite test) n c + indicator (not (test n))))
        (sym (lacking_with test n c low)) (sym (lacking_with (opposite test) n c low))
        ∙ ap₂ (λ (x y : ℕ). difference (lacking test (suc n) (c + 2 ^ n)) F x
        *ℤ difference (lacking (opposite test) (suc n) (c + 2 ^ n)) G y)
        (sym (having_with test n c low)) (sym (having_with (opposite test) n c low)))
