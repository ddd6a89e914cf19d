-- Möbius inversion (000, eq. 9): the structure comes back from d(A), as the sum of d(B) over the sets B that A holds. Between a set and another
-- that it holds the signs cancel, unless the two are one. Assumes nothing.
use mathlib.Core.Path.{◌≡◌, refl, sym, ap, ap₂, ◌∙◌}
use mathlib.Core.Bool.{Bool, true, false, cond, ◌&&◌, and-false}
use mathlib.Core.Logic.{◌⊎◌, inl, inr}
use Prim.Native.Nat.{ℕ, zero, suc, ◌+◌, ◌-◌, ◌^◌, ◌≤◌, ◌<◌}
use native.Mathlib.Nat.{sub-add_cancel, suc-sub-suc, two-pow-succ}
use native.Mathlib.Omega.{arith}
use lib.Arith.{lt-one}
use lib.Count.{ones, ones_in}
use lib.Dec.{eqb}
use lib.IntN.{ℤ, pos, neg_ℤ, ◌+ℤ◌, ◌*ℤ◌, pow, one, +ℤ_idl, +ℤ_idr, +ℤ_invr, *ℤ-zero}
use borrow.Author.Tests.{eqb-true, eqb-false}
use Rattle.theory_sums.specs.Sums.{indicator, sum_belowℤ}
use Rattle.theory_sums.proofs.Integers.{*ℤ-unit, *ℤ-negℤ, ring}
use Rattle.theory_sums.proofs.IntegerSums.{sum_belowℤ_same, sum_belowℤ_zero, sum_belowℤ_neg, sum_belowℤ_mul, sum_belowℤ_exchange}
use Rattle.theory_sums.proofs.Differences.{monomial, monomial_same, monomial_other}
use Rattle.theory_sets.specs.Masks.{size, holds}
use Rattle.numbers.proofs.Bools.{and_right, true_or_false}
use Rattle.numbers.proofs.Bounds.{below_or_above}
use Rattle.theory_orders.proofs.Sizes.{size_last}
use Rattle.theory_figures.specs.Figures.{sign, set_domination}
use Rattle.theory_sums.proofs.IntegerSums.{sum_belowℤ_masks, sum_belowℤ_only}
use Rattle.theory_figures.proofs.Holding.{size_holds, holds_more, holds_never, holds_last}

-- ---- the sets between two

-- what a set b that a holds and that holds c gives: the sign of the parts that it has more than c
between : ℕ → ℕ → ℕ → ℤ
between a c b = cond (holds a b && holds b c) (sign (size b - size c)) (pos 0)

beyond : (n a b c : ℕ) → a < 2 ^ n → b < 2 ^ n → between a c (b + 2 ^ n) ≡ pos 0
unfolding between
beyond n a b c ha hb = rw (holds_never n a b ha hb)

lacking : (n a b c : ℕ) → b < 2 ^ n → c < 2 ^ n → between a (c + 2 ^ n) b ≡ pos 0
unfolding between
lacking n a b c hb hc = rw (holds_never n b c hb hc, and-false (holds a b))

module _ (n a b c : ℕ) (ha : a < 2 ^ n) (hb : b < 2 ^ n) (hc : c < 2 ^ n) where
  below : between (a + 2 ^ n) c b ≡ between a c b
  unfolding between
  below = rw (holds_more n a b ha hb)

  with_last_lem : between (a + 2 ^ n) (c + 2 ^ n) (b + 2 ^ n) ≡ between a c b
  unfolding between
  with_last_lem = rw (holds_last n a b ha hb, holds_last n b c hb hc, size_last n b hb, size_last n c hc, suc-sub-suc (size b) (size c))

  turned : between (a + 2 ^ n) c (b + 2 ^ n) ≡ neg_ℤ (between a c b)
  unfolding between pow
  turned = rw (holds_last n a b ha hb, holds_more n b c hb hc, size_last n b hb) (cases (true_or_false (holds a b && holds b c)))
    where
      cases : (holds a b && holds b c ≡ true) ⊎ (holds a b && holds b c ≡ false)
          → cond (holds a b && holds b c) (sign (suc (size b) - size c)) (pos 0) ≡ neg_ℤ (cond (holds a b && holds b c) (sign (size b - size c)) (pos 0))
      cases (inl h) =
          let more : suc (size b) - size c ≡ suc (size b - size c) = omega (arith, size_holds n b c hb hc (and_right (holds a b) (holds b c) h)) in
          rw (h, more) (*ℤ-negℤ (sign (size b - size c)) (pos 1) ∙ ap neg_ℤ (*ℤ-unit (sign (size b - size c))))
      cases (inr h) = rw h

-- the last part changes nothing in whether two sets are one
monomial_last : (n a c : ℕ) → monomial (a + 2 ^ n) (c + 2 ^ n) ≡ monomial a c
monomial_last n a c = cases (true_or_false (eqb a c))
  where
    cases : (eqb a c ≡ true) ⊎ (eqb a c ≡ false) → monomial (a + 2 ^ n) (c + 2 ^ n) ≡ monomial a c
    cases (inl t) =
        let e : a ≡ c = eqb-true a c t in
        ap (λ (x : ℕ). monomial (x + 2 ^ n) (c + 2 ^ n)) e ∙ monomial_same (c + 2 ^ n) ∙ sym (ap (λ (x : ℕ). monomial x c) e ∙ monomial_same c)
    cases (inr t) =
        monomial_other (a + 2 ^ n) (c + 2 ^ n) (λ e. eqb-false a c t (omega arith)) ∙ sym (monomial_other a c (eqb-false a c t))

sum_between : (n a c : ℕ) → a < 2 ^ n → c < 2 ^ n → sum_belowℤ (between a c) (2 ^ n) ≡ monomial a c
unfolding sum_belowℤ between monomial holds ones ones_in pow one
sum_between zero a c ha hc =
    let none_a : a ≡ 0 = lt-one ha in
    let none_c : c ≡ 0 = lt-one hc in
    rw (none_a, none_c)
sum_between (suc n) a c ha hc =
    sum_belowℤ_masks (between a c) n ∙ cases (below_or_above a (2 ^ n)) (below_or_above c (2 ^ n)) (sum_between n)
  where
    none : (f : ℕ → ℤ) → ((b : ℕ) → b < 2 ^ n → f b ≡ pos 0) → sum_belowℤ f (2 ^ n) ≡ pos 0
    none f h = sum_belowℤ_same f (λ b. pos 0) (2 ^ n) h ∙ sum_belowℤ_zero (2 ^ n)

    cases : (a < 2 ^ n) ⊎ (2 ^ n ≤ a) → (c < 2 ^ n) ⊎ (2 ^ n ≤ c)
        → ((x y : ℕ) → x < 2 ^ n → y < 2 ^ n → sum_belowℤ (between x y) (2 ^ n) ≡ monomial x y)
        → sum_belowℤ (between a c) (2 ^ n) +ℤ sum_belowℤ (λ b. between a c (b + 2 ^ n)) (2 ^ n) ≡ monomial a c
    cases (inl la) (inl lc) ih =
        ap₂ (λ (u v : ℤ). u +ℤ v) (ih a c la lc) (none _ (λ b l. beyond n a b c la l)) ∙ +ℤ_idr (monomial a c)
    cases (inl la) (inr lc) ih =
        let y : ℕ = c - 2 ^ n in
        let low : y < 2 ^ n = omega (arith, two-pow-succ n) in
        let whole : c ≡ y + 2 ^ n = sym (sub-add_cancel lc) in
        ap₂ (λ (u v : ℤ). u +ℤ v)
        (none _ (λ b l. ap (λ (x : ℕ). between a x b) whole ∙ lacking n a b y l low)) (none _ (λ b l. beyond n a b c la l))
        ∙ sym (monomial_other a c (λ e. omega arith))
    cases (inr la) (inl lc) ih =
        let x : ℕ = a - 2 ^ n in
        let low : x < 2 ^ n = omega (arith, two-pow-succ n) in
        let whole : a ≡ x + 2 ^ n = sym (sub-add_cancel la) in
        ap₂ (λ (u v : ℤ). u +ℤ v)
        (sum_belowℤ_same _ (between x c) (2 ^ n) (λ b l. ap (λ (z : ℕ). between z c b) whole ∙ below n x b c low l lc))
        (sum_belowℤ_same _ (λ b. neg_ℤ (between x c b)) (2 ^ n) (λ b l. ap (λ (z : ℕ). between z c (b + 2 ^ n)) whole ∙ turned n x b c low l lc)
        ∙ sum_belowℤ_neg (between x c) (2 ^ n))
        ∙ +ℤ_invr (sum_belowℤ (between x c) (2 ^ n)) ∙ sym (monomial_other a c (λ e. omega arith))
    cases (inr la) (inr lc) ih =
        let x : ℕ = a - 2 ^ n in
        let y : ℕ = c - 2 ^ n in
        let low : x < 2 ^ n = omega (arith, two-pow-succ n) in
        let small : y < 2 ^ n = omega (arith, two-pow-succ n) in
        let whole : a ≡ x + 2 ^ n = sym (sub-add_cancel la) in
        let all : c ≡ y + 2 ^ n = sym (sub-add_cancel lc) in
        ap₂ (λ (u v : ℤ). u +ℤ v)
        (none _ (λ b l. ap (λ (z : ℕ). between a z b) all ∙ lacking n a b y l small))
        (sum_belowℤ_same _ (between x y) (2 ^ n) (λ b l. ap₂ (λ (z w : ℕ). between z w (b + 2 ^ n)) whole all ∙ with_last_lem n x b y low l small)
        ∙ ih x y low small)
        ∙ +ℤ_idl (monomial x y) ∙ sym (ap₂ monomial whole all ∙ monomial_last n x y)

-- ---- the structure comes back

pub set_domination_back : (n : ℕ) (works : ℕ → Bool) (a : ℕ) → a < 2 ^ n
    → sum_belowℤ (λ b. cond (holds a b) (set_domination n works b) (pos 0)) (2 ^ n) ≡ pos (indicator (works a))
unfolding set_domination between
set_domination_back n works a h =
    sum_belowℤ_same _ (λ b. sum_belowℤ (λ c. pos (indicator (works c)) *ℤ between a c b) (2 ^ n)) (2 ^ n) (λ b l.
    inside (holds a b) (λ c. pos (indicator (holds b c && works c)) *ℤ sign (size b - size c))
    ∙ sum_belowℤ_same _ _ (2 ^ n) (λ c m. term (holds a b) (holds b c) (works c) (sign (size b - size c))))
    ∙ sum_belowℤ_exchange (λ b c. pos (indicator (works c)) *ℤ between a c b) (2 ^ n) (2 ^ n)
    ∙ sum_belowℤ_same _ (λ c. pos (indicator (works c)) *ℤ monomial a c) (2 ^ n) (λ c m.
    sum_belowℤ_mul (pos (indicator (works c))) (between a c) (2 ^ n) ∙ ap (λ (u : ℤ). pos (indicator (works c)) *ℤ u) (sum_between n a c h m))
    ∙ sum_belowℤ_only (λ c. pos (indicator (works c)) *ℤ monomial a c) a (2 ^ n) h (λ c m other.
    ap (λ (u : ℤ). pos (indicator (works c)) *ℤ u) (monomial_other a c (λ e. other (sym e))) ∙ *ℤ-zero (pos (indicator (works c))))
    ∙ ap (λ (u : ℤ). pos (indicator (works a)) *ℤ u) (monomial_same a) ∙ *ℤ-unit (pos (indicator (works a)))
  where
    inside : (t : Bool) (f : ℕ → ℤ) → cond t (sum_belowℤ f (2 ^ n)) (pos 0) ≡ sum_belowℤ (λ c. cond t (f c) (pos 0)) (2 ^ n)
    inside true f = refl
    inside false f = sym (sum_belowℤ_zero (2 ^ n))

    term : (p q w : Bool) (s : ℤ) → cond p (pos (indicator (q && w)) *ℤ s) (pos 0) ≡ pos (indicator w) *ℤ cond (p && q) s (pos 0)
    term true true true s = refl
    term true true false s = refl
    term true false true s = simp ring
    term true false false s = simp ring
    term false q true s = refl
    term false q false s = refl
