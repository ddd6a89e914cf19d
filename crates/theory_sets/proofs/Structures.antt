-- Laws of structures: monotony by single parts is monotony; every path set holds a minimal one; a list of sets gives a semicoherent
-- structure, its minimal sets give back the structure, and a rising list of sets none of which holds another is its own minimal sets.
-- Assumes nothing.
use mathlib.Core.Path.{◌≡◌, sym, ap, ap₂, ◌∙◌, subst}
use mathlib.Core.Bool.{Bool, true, false, not, ◌&&◌}
use mathlib.Core.Logic.{◌⊎◌, inl, inr}
use Prim.Native.Nat.{ℕ, zero, suc, ◌+◌, ◌-◌, ◌/◌, ◌^◌, ◌≤◌, ◌<◌}
use native.Mathlib.Nat.{not-suc-le-zero, le_of_suc-le-suc, le_refl, lt_of_le_of_lt, div-one, add-div_right, le_of_lt, lt_of_lt_of_le, le_trans, div-eq_of_lt}
use native.Mathlib.Omega.{arith}
use lib.Arith.{lt_of_le-ne}
use lib.Dec.{eqb}
use lib.Pow.{pow_pos, ones_lt}
use borrow.Author.Tests.{eqb-true, eqb-false, not-true, not-false}
use Rattle.theory_sets.specs.Masks.{has, holds, any}
use Rattle.theory_sets.specs.Structures.{Semicoherent, broken, minimal, minimal_sets}
use Rattle.numbers.proofs.Bools.{and_left, and_right, and_both, clash, true_or_false}
use Rattle.theory_sets.proofs.Masks.{holds_part, holds_refl, holds_trans, holds_le, holds_add, holds_with, add_below, quotient_half, quotient_odd, quotient_even}
use Rattle.theory_sets.proofs.Ranges.{any_elim, any_none, any_false, any_same, those_same}

-- ---- monotony by single parts

-- a path set stays one with any single part more
abbrev pub UpwardByParts : ℕ → (ℕ → Bool) → Type 0
UpwardByParts n works = (a i : ℕ) → a < 2 ^ n → i < n → has a i ≡ false → works a ≡ true → works (a + 2 ^ i) ≡ true

abbrev pub Upward : ℕ → (ℕ → Bool) → Type 0
Upward n works = (a b : ℕ) → a < 2 ^ n → b < 2 ^ n → holds b a ≡ true → works a ≡ true → works b ≡ true

module _ (n : ℕ) (works : ℕ → Bool) where
  pub upward_by_parts : Upward n works → UpwardByParts n works
  upward_by_parts up a i ha hi lacks = up a (a + 2 ^ i) ha (add_below n a i ha hi lacks) (holds_add a i lacks)

  module _ (step : UpwardByParts n works) (b : ℕ) (hb : b < 2 ^ n) where
    -- a set that b holds and that has b's parts from k on is led to b by the parts below k
    climb : (k : ℕ) → k ≤ n → (a : ℕ) → holds b a ≡ true → a / 2 ^ k ≡ b / 2 ^ k → works a ≡ true → works b ≡ true
    climb zero hk a within same w = subst (λ (x : ℕ). works x ≡ true) (sym (div-one a) ∙ same ∙ div-one b) w
    climb (suc k) hk a within same w = cases (true_or_false (has b k)) (true_or_false (has a k)) (climb k (le_of_lt hk))
      where
        halves : a / 2 ^ k / 2 ≡ b / 2 ^ k / 2
        halves = sym (quotient_half a k) ∙ same ∙ quotient_half b k

        onward : Type 0
        onward = (x : ℕ) → holds b x ≡ true → x / 2 ^ k ≡ b / 2 ^ k → works x ≡ true → works b ≡ true

        cases : (has b k ≡ true) ⊎ (has b k ≡ false) → (has a k ≡ true) ⊎ (has a k ≡ false) → onward → works b ≡ true
        cases (inl hb1) (inl ha1) on = on a within (omega (arith, halves, quotient_odd a k ha1, quotient_odd b k hb1)) w
        cases (inl hb1) (inr ha0) on =
            on (a + 2 ^ k) (holds_with b a k within hb1 ha0)
            (add-div_right a (pow_pos k) ∙ omega (arith, halves, quotient_even a k ha0, quotient_odd b k hb1))
            (step a k (lt_of_le_of_lt (holds_le b a within) hb) hk ha0 w)
        cases (inr hb0) (inl ha1) on = clash (holds_part b a within k ha1) hb0
        cases (inr hb0) (inr ha0) on = on a within (omega (arith, halves, quotient_even a k ha0, quotient_even b k hb0)) w

  pub by_parts_upward : UpwardByParts n works → Upward n works
  by_parts_upward step a b ha hb within = climb step b hb n (le_refl n) a within (div-eq_of_lt ha ∙ sym (div-eq_of_lt hb))

  -- check 10 finds nothing exactly where every step holds
  pub unbroken_by_parts : any (broken n works) (2 ^ n) ≡ false → UpwardByParts n works
  unfolding broken
  unbroken_by_parts none a i ha hi lacks w =
      let lost : ℕ → Bool = λ i. not (has a i) && not (works (a + 2 ^ i)) in
      let whole : any lost n ≡ false = rw w at (any_none (broken n works) (2 ^ n) a none ha) in
      not-false (works (a + 2 ^ i)) (rw lacks at (any_none lost n i whole hi))

  pub by_parts_unbroken : UpwardByParts n works → any (broken n works) (2 ^ n) ≡ false
  unfolding broken
  by_parts_unbroken step =
      any_false (broken n works) (2 ^ n) (λ a ha h.
      let w : works a ≡ true = and_left (works a) _ h in
      let found = any_elim (λ i. not (has a i) && not (works (a + 2 ^ i))) n (and_right (works a) _ h) in
      let i = found.0 in
      let lacks : has a i ≡ false = not-true (has a i) (and_left (not (has a i)) _ found.2) in
      clash (step a i ha found.1 lacks w) (not-true (works (a + 2 ^ i)) (and_right (not (has a i)) _ found.2)))

  -- ---- minimal sets

  pub minimal_works : (a : ℕ) → minimal n works a ≡ true → works a ≡ true
  unfolding minimal
  minimal_works a h = and_left (works a) _ h

  -- a minimal set holds no other path set
  pub minimal_least : (a b : ℕ) → minimal n works a ≡ true → b < 2 ^ n → works b ≡ true → holds a b ≡ true → a ≡ b
  unfolding minimal
  minimal_least a b h hb w within =
      let other : ℕ → Bool = λ b. works b && holds a b && not (eqb a b) in
      let none : any other (2 ^ n) ≡ false = not-true (any other (2 ^ n)) (and_right (works a) _ h) in
      let same : not (eqb a b) ≡ false = rw (w, within) at (any_none other (2 ^ n) b none hb) in
      eqb-true a b (not-false (eqb a b) same)

  pub minimal_intro : (a : ℕ) → works a ≡ true → ((b : ℕ) → b < 2 ^ n → works b ≡ true → holds a b ≡ true → a ≡ b) → minimal n works a ≡ true
  unfolding minimal
  minimal_intro a w least =
      let other : ℕ → Bool = λ b. works b && holds a b && not (eqb a b) in
      and_both w (ap not (any_false other (2 ^ n) (λ b hb h.
      let both : works b && holds a b ≡ true = and_left (works b && holds a b) _ h in
      let differ : eqb a b ≡ false = not-true (eqb a b) (and_right (works b && holds a b) _ h) in
      eqb-false a b differ (least b hb (and_left (works b) (holds a b) both) (and_right (works b) (holds a b) both)))))

  -- a path set that is not minimal holds a smaller one
  smaller : (a : ℕ) → works a ≡ true → minimal n works a ≡ false → (b : ℕ) × (b < a) × (works b ≡ true) × (holds a b ≡ true)
  unfolding minimal
  smaller a w h =
      let other : ℕ → Bool = λ b. works b && holds a b && not (eqb a b) in
      let found = any_elim other (2 ^ n) (not-false (any other (2 ^ n)) (rw w at h)) in
      let b = found.0 in
      let both : works b && holds a b ≡ true = and_left (works b && holds a b) _ found.2 in
      let within : holds a b ≡ true = and_right (works b) (holds a b) both in
      let differ : eqb a b ≡ false = not-true (eqb a b) (and_right (works b && holds a b) _ found.2) in
      (b, lt_of_le-ne (holds_le a b within) (λ e. eqb-false a b differ (sym e)), and_left (works b) (holds a b) both, within)

  -- every path set holds a minimal one
  pub minimal_below : (a : ℕ) → works a ≡ true → (b : ℕ) × (b ≤ a) × (minimal n works b ≡ true) × (holds a b ≡ true)
  minimal_below a = descend (suc a) a (le_refl (suc a))
    where
      descend : (bound x : ℕ) → x < bound → works x ≡ true → (b : ℕ) × (b ≤ x) × (minimal n works b ≡ true) × (holds x b ≡ true)
      descend zero x h w = absurd (not-suc-le-zero h)
      descend (suc bound) x h w = cases (true_or_false (minimal n works x)) (descend bound)
        where
          cases : (minimal n works x ≡ true) ⊎ (minimal n works x ≡ false)
              → ((y : ℕ) → y < bound → works y ≡ true → (b : ℕ) × (b ≤ y) × (minimal n works b ≡ true) × (holds y b ≡ true))
              → (b : ℕ) × (b ≤ x) × (minimal n works b ≡ true) × (holds x b ≡ true)
          cases (inl m) rest = (x, le_refl x, m, holds_refl x)
          cases (inr m) rest =
              let found = smaller x w m in
              let y = found.0 in
              let low = rest y (lt_of_lt_of_le found.1 (le_of_suc-le-suc h)) found.2 in
              (low.0, le_trans low.1 (le_of_lt found.1), low.2, holds_trans x y low.0 found.3 low.3)

-- ---- set functions that agree on the sets of n parts

module _ (n : ℕ) (f g : ℕ → Bool) (same : (a : ℕ) → a < 2 ^ n → f a ≡ g a) where
  pub semicoherent_same : Semicoherent n f → Semicoherent n g
  semicoherent_same sc = record {
    upward = λ a b ha hb within w. sym (same b hb) ∙ sc.upward a b ha hb within (same a ha ∙ w);
    empty = sym (same 0 (pow_pos n)) ∙ sc.empty;
    full = sym (same (2 ^ n - 1) (ones_lt n)) ∙ sc.full;
  }

  pub minimal_same : (a : ℕ) → a < 2 ^ n → minimal n f a ≡ minimal n g a
  unfolding minimal
  minimal_same a ha =
      ap₂ (λ (p q : Bool). p && not q) (same a ha)
      (any_same (λ b. f b && holds a b && not (eqb a b)) (λ b. g b && holds a b && not (eqb a b)) (2 ^ n) (λ b hb.
      ap (λ (p : Bool). p && holds a b && not (eqb a b)) (same b hb)))

  pub minimal_sets_same : minimal_sets n f ≡ minimal_sets n g
  minimal_sets_same = those_same (minimal n f) (minimal n g) (2 ^ n) minimal_same

  pub broken_same : (a : ℕ) → a < 2 ^ n → broken n f a ≡ broken n g a
  unfolding broken
  broken_same a ha =
      ap₂ (λ (p q : Bool). p && q) (same a ha)
      (any_same (λ i. not (has a i) && not (f (a + 2 ^ i))) (λ i. not (has a i) && not (g (a + 2 ^ i))) n (λ i hi. step i hi (true_or_false (has a i))))
    where
      step : (i : ℕ) → i < n → (has a i ≡ true) ⊎ (has a i ≡ false) → not (has a i) && not (f (a + 2 ^ i)) ≡ not (has a i) && not (g (a + 2 ^ i))
      step i hi (inl t) = rw t
      step i hi (inr lacks) = ap (λ (q : Bool). not (has a i) && not q) (same (a + 2 ^ i) (add_below n a i ha hi lacks))
