-- Carrying the listed sets over all n parts gives the structure of the list: a set is reached exactly if it holds a listed one.
-- Assumes nothing.
use mathlib.Core.Path.{◌≡◌, refl, sym, ap, ◌∙◌, subst}
use mathlib.Core.Bool.{Bool, true, false, ◌&&◌, ◌||◌}
use mathlib.Core.List.{List, Memᴰ}
use mathlib.Core.Logic.{◌⊎◌, inl, inr}
use Prim.Native.Nat.{ℕ, zero, suc, ◌+◌, ◌-◌, ◌/◌, ◌^◌, ◌≤◌, ◌<◌}
use native.Mathlib.Nat.{div-one, div-eq_of_lt, sub-add_cancel, add-div_right, le-div_iff_mul-le, one-mul}
use native.Mathlib.Omega.{arith}
use lib.Dec.{eqb}
use lib.ListN.{length, get_or}
use lib.Pow.{pow_pos}
use borrow.Author.Tests.{eqb-true, eq-eqb}
use Rattle.theory_sets.specs.Masks.{has, holds}
use Rattle.theory_sets.specs.Structures.{listed}
use Rattle.numbers.proofs.Bools.{and_left, and_right, and_both, or_cases, or_left, or_right, true_or_false, clash, same_test, false_of}
use Rattle.theory_sets.proofs.Lists.{listed_intro, listed_elim, member_at, index_of}
use Rattle.theory_sets.proofs.Masks.{has_le, holds_part, holds_refl, holds_trans, holds_sub, holds_without, quotient_half, quotient_odd, quotient_even}
use Rattle.theory_sets.proofs.Ranges.{any_intro, any_elim}
use Rattle.structure_words.specs.Words.{among}
use Rattle.structure_closure.specs.Closure.{spread}

-- ---- the listed sets alone

among_elim : (xs : List ℕ) (a : ℕ) → among xs a ≡ true → Memᴰ a xs
among_elim xs a h =
    let found = any_elim (λ i. eqb (get_or xs i 0) a) (length xs) h in
    subst (λ (x : ℕ). Memᴰ x xs) (eqb-true (get_or xs found.0 0) a found.2) (member_at xs found.0 found.1)

among_intro : (xs : List ℕ) (a : ℕ) → Memᴰ a xs → among xs a ≡ true
among_intro xs a m =
    let found = index_of xs a m in
    any_intro (λ i. eqb (get_or xs i 0) a) (length xs) found.0 found.1 (eq-eqb (get_or xs found.0 0) a found.2)

-- ---- carrying over the first n parts

module _ (works : ℕ → Bool) where
  -- a set that is reached holds a set that works and that has the same parts from n on
  abbrev Above : ℕ → ℕ → Type 0
  Above n a = (b : ℕ) × (works b ≡ true) × (holds a b ≡ true) × (a / 2 ^ n ≡ b / 2 ^ n)

  higher : (n a b : ℕ) → a / 2 ^ n ≡ b / 2 ^ n → a / 2 ^ suc n ≡ b / 2 ^ suc n
  higher n a b e = quotient_half a n ∙ ap (λ (x : ℕ). x / 2) e ∙ sym (quotient_half b n)

  -- taking out part n leaves the parts above n
  lower : (n a : ℕ) → has a n ≡ true → a / 2 ^ suc n ≡ (a - 2 ^ n) / 2 ^ suc n
  lower n a h =
      let less : a / 2 ^ n ≡ (a - 2 ^ n) / 2 ^ n + 1 =
      ap (λ (x : ℕ). x / 2 ^ n) (sym (sub-add_cancel (has_le a n h))) ∙ add-div_right (a - 2 ^ n) (pow_pos n) in
      quotient_half a n ∙ omega (arith, less, quotient_odd a n h) ∙ sym (quotient_half (a - 2 ^ n) n)

  pub spread_elim : (n a : ℕ) → spread n works a ≡ true → Above n a
  unfolding spread
  spread_elim zero a h = (a, h, holds_refl a, refl)
  spread_elim (suc n) a h =
      cases (or_cases (spread n works a) (has a n && spread n works (a - 2 ^ n)) h) (spread_elim n a) (spread_elim n (a - 2 ^ n))
    where
      cases : (spread n works a ≡ true) ⊎ (has a n && spread n works (a - 2 ^ n) ≡ true) → (spread n works a ≡ true → Above n a)
          → (spread n works (a - 2 ^ n) ≡ true → Above n (a - 2 ^ n)) → Above (suc n) a
      cases (inl k) same less = let found = same k in (found.0, found.1, found.2, higher n a found.0 found.3)
      cases (inr k) same less =
          let part : has a n ≡ true = and_left (has a n) (spread n works (a - 2 ^ n)) k in
          let found = less (and_right (has a n) (spread n works (a - 2 ^ n)) k) in
          let b = found.0 in
          (b, found.1, holds_trans a (a - 2 ^ n) b (holds_sub a n part) found.2, lower n a part ∙ higher n (a - 2 ^ n) b found.3)

  pub spread_intro : (n a b : ℕ) → works b ≡ true → holds a b ≡ true → a / 2 ^ n ≡ b / 2 ^ n → spread n works a ≡ true
  unfolding spread
  spread_intro zero a b w within same = subst (λ (x : ℕ). works x ≡ true) (sym (sym (div-one a) ∙ same ∙ div-one b)) w
  spread_intro (suc n) a b w within same =
      cases (true_or_false (has a n)) (true_or_false (has b n)) (λ e. spread_intro n a b w within e) (λ h e. spread_intro n (a - 2 ^ n) b w h e)
    where
      halves : a / 2 ^ n / 2 ≡ b / 2 ^ n / 2
      halves = sym (quotient_half a n) ∙ same ∙ quotient_half b n

      cases : (has a n ≡ true) ⊎ (has a n ≡ false) → (has b n ≡ true) ⊎ (has b n ≡ false) → (a / 2 ^ n ≡ b / 2 ^ n → spread n works a ≡ true)
          → (holds (a - 2 ^ n) b ≡ true → (a - 2 ^ n) / 2 ^ n ≡ b / 2 ^ n → spread n works (a - 2 ^ n) ≡ true)
          → spread n works a || (has a n && spread n works (a - 2 ^ n)) ≡ true
      cases (inl ha) (inl hb) stay less =
          or_left (has a n && spread n works (a - 2 ^ n)) (stay (omega (arith, halves, quotient_odd a n ha, quotient_odd b n hb)))
      cases (inl ha) (inr hb) stay less =
          let down : a / 2 ^ n ≡ (a - 2 ^ n) / 2 ^ n + 1 =
          ap (λ (x : ℕ). x / 2 ^ n) (sym (sub-add_cancel (has_le a n ha))) ∙ add-div_right (a - 2 ^ n) (pow_pos n) in
          or_right (spread n works a)
          (and_both ha (less (holds_without a b n within ha hb) (omega (arith, halves, down, quotient_odd a n ha, quotient_even b n hb))))
      cases (inr ha) (inl hb) stay less = clash (holds_part a b within n hb) ha
      cases (inr ha) (inr hb) stay less =
          or_left (has a n && spread n works (a - 2 ^ n)) (stay (omega (arith, halves, quotient_even a n ha, quotient_even b n hb)))

-- ---- the structure of a list of sets of n parts

module _ (n : ℕ) (xs : List ℕ) (below : (b : ℕ) → Memᴰ b xs → b < 2 ^ n) where
  pub spread_listed : (a : ℕ) → a < 2 ^ n → spread n (among xs) a ≡ listed xs a
  spread_listed a h = same_test (spread n (among xs) a) (listed xs a) there back
    where
      there : spread n (among xs) a ≡ true → listed xs a ≡ true
      there t =
          let found = spread_elim (among xs) n a t in
          listed_intro xs a found.0 (among_elim xs found.0 found.1) found.2

      back : listed xs a ≡ true → spread n (among xs) a ≡ true
      back t =
          let found = listed_elim xs a t in
          let b = found.0 in
          spread_intro (among xs) n a b (among_intro xs b found.1) found.2 (div-eq_of_lt h ∙ sym (div-eq_of_lt (below b found.1)))

  -- no set beyond those of n parts is reached
  pub spread_beyond : (a : ℕ) → 2 ^ n ≤ a → spread n (among xs) a ≡ false
  spread_beyond a h =
      false_of (spread n (among xs) a) (λ t.
      let found = spread_elim (among xs) n a t in
      let none : a / 2 ^ n ≡ 0 = found.3 ∙ div-eq_of_lt (below found.0 (among_elim xs found.0 found.1)) in
      let some : 1 ≤ a / 2 ^ n = (le-div_iff_mul-le (pow_pos n)).1 (subst (λ (x : ℕ). x ≤ a) (sym (one-mul (2 ^ n))) h) in
      omega arith)
