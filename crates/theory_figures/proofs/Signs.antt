-- A domination's sum, carried as the terms that are added and those that are taken. Assumes nothing.
use mathlib.Core.Path.{◌≡◌, refl, sym, ap, ap₂, ◌∙◌}
use Prim.Native.Nat.{ℕ, zero, suc, ◌+◌, ◌-◌, ◌*◌, ◌%◌}
use native.Mathlib.Numerals.{add-one}
use native.Mathlib.Omega.{arith}
use lib.IntN.{ℤ, pos, negsuc, neg_ℤ, ◌+ℤ◌, ◌-ℤ◌, ◌*ℤ◌, pow, one, pos-+ℤ-pos, pos-*ℤ-pos}
use Rattle.numbers.specs.Counts.{choose}
use Rattle.theory_sums.specs.Sums.{sum_belowℤ}
use Rattle.theory_sums.proofs.Integers.{*ℤ-unit, *ℤ-negℤ, unit-*ℤ, negℤ-*ℤ, ring}
use Rattle.theory_figures.specs.Figures.{sign}

twice : (x : ℤ) → x *ℤ negsuc 0 *ℤ negsuc 0 ≡ x
twice x = ap (λ (u : ℤ). u *ℤ negsuc 0) (minus x) ∙ minus (neg_ℤ x) ∙ simp ring
  where
    minus : (y : ℤ) → y *ℤ negsuc 0 ≡ neg_ℤ y
    minus y = *ℤ-negℤ y (pos 1) ∙ ap neg_ℤ (*ℤ-unit y)

pub sign_even : (m : ℕ) → m % 2 ≡ 0 → sign m ≡ pos 1
unfolding pow one
sign_even zero h = refl
sign_even (suc zero) h = absurd (omega arith)
sign_even (suc (suc m)) h = twice (sign m) ∙ sign_even m (omega arith)

pub sign_odd : (m : ℕ) → m % 2 ≡ 1 → sign m ≡ negsuc 0
unfolding pow one
sign_odd zero h = absurd (omega arith)
sign_odd (suc zero) h = refl
sign_odd (suc (suc m)) h = twice (sign m) ∙ sign_odd m (omega arith)

-- the terms of d(k) below j
unfoldable pub terms_below : ℕ → (ℕ → ℕ) → ℕ → ℕ → ℤ
terms_below n φ k j = sum_belowℤ (λ i. sign (k - i) *ℤ pos (choose (n - i) (k - i)) *ℤ pos (φ i)) j

module _ (n : ℕ) (φ : ℕ → ℕ) (k : ℕ) where
  pub terms_none : pos 0 -ℤ pos 0 ≡ terms_below n φ k 0
  unfolding terms_below sum_belowℤ
  terms_none = refl

  module _ (j added taken term : ℕ) (is : term ≡ choose (n - j) (k - j) * φ j) (before : pos added -ℤ pos taken ≡ terms_below n φ k j) where
    pub terms_added : (k - j) % 2 ≡ 0 → pos (added + term) -ℤ pos taken ≡ terms_below n φ k (j + 1)
    unfolding terms_below sum_belowℤ
    terms_added even =
        ap (λ (u : ℤ). u -ℤ pos taken) (sym (pos-+ℤ-pos added term)) ∙ moved (pos added) (pos term) (pos taken)
        ∙ ap₂ (λ (u v : ℤ). u +ℤ v) before
        (ap pos is ∙ sym (pos-*ℤ-pos (choose (n - j) (k - j)) (φ j))
        ∙ sym (ap (λ (u : ℤ). u *ℤ pos (choose (n - j) (k - j)) *ℤ pos (φ j)) (sign_even (k - j) even)
        ∙ ap (λ (u : ℤ). u *ℤ pos (φ j)) (unit-*ℤ (pos (choose (n - j) (k - j))))))
        ∙ ap (terms_below n φ k) (sym (add-one j))
      where
        moved : (a x t : ℤ) → a +ℤ x -ℤ t ≡ a -ℤ t +ℤ x
        moved a x t = simp ring

    pub terms_taken : (k - j) % 2 ≡ 1 → pos added -ℤ pos (taken + term) ≡ terms_below n φ k (j + 1)
    unfolding terms_below sum_belowℤ
    terms_taken odd =
        ap (λ (u : ℤ). pos added -ℤ u) (sym (pos-+ℤ-pos taken term)) ∙ moved (pos added) (pos taken) (pos term)
        ∙ ap₂ (λ (u v : ℤ). u +ℤ v) before
        (ap (λ (x : ℕ). neg_ℤ (pos x)) is ∙ ap neg_ℤ (sym (pos-*ℤ-pos (choose (n - j) (k - j)) (φ j)))
        ∙ sym (ap (λ (u : ℤ). u *ℤ pos (choose (n - j) (k - j)) *ℤ pos (φ j)) (sign_odd (k - j) odd)
        ∙ turned (pos (choose (n - j) (k - j))) (pos (φ j))))
        ∙ ap (terms_below n φ k) (sym (add-one j))
      where
        moved : (a t x : ℤ) → a -ℤ (t +ℤ x) ≡ a -ℤ t +ℤ neg_ℤ x
        moved a t x = simp ring

        turned : (c x : ℤ) → negsuc 0 *ℤ c *ℤ x ≡ neg_ℤ (c *ℤ x)
        turned c x = ap (λ (u : ℤ). u *ℤ x) (negℤ-*ℤ (pos 1) c ∙ ap neg_ℤ (unit-*ℤ c)) ∙ negℤ-*ℤ c x
