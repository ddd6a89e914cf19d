-- The laws of the integers that the library lacks: the product is distributive and associative, and a sign moves out of it. `ring` has them
-- as a set for simp, which multiplies out, sorts and cancels both sides of an equation between variables. Assumes nothing.
use mathlib.Core.Path.{◌≡◌, refl, sym, ap, ap₂, ◌∙◌}
use Prim.Native.Nat.{ℕ, zero, suc, ◌+◌, ◌*◌}
use lib.IntN.{ℤ, pos, negsuc, suc_ℤ, pred_ℤ, neg_ℤ, ◌+ℤ◌, ◌-ℤ◌, ◌*ℤ◌, +ℤ_idl, +ℤ_idr, +ℤ_assoc, +ℤ_comm, +ℤ_invr, suc_ℤ-+ℤ, pred_ℤ-+ℤ, zero-*ℤ, *ℤ-zero, suc_ℤ-*ℤ, pred_ℤ-*ℤ, *ℤ_comm, neg_ℤ-neg_ℤ, neg_ℤ-+ℤ, one, *ℤ-one, pos-+ℤ-pos, +ℤ-neg_ℤ_cancel}

pub +ℤ-left-comm : (a b c : ℤ) → a +ℤ (b +ℤ c) ≡ b +ℤ (a +ℤ c)
+ℤ-left-comm a b c = sym (+ℤ_assoc a b c) ∙ ap (λ (x : ℤ). x +ℤ c) (+ℤ_comm a b) ∙ +ℤ_assoc b a c

-- what holds at 0, and with a number also at the next and at the one before, holds at all
integer_steps : (P : ℤ → Type 0) → P (pos 0) → ((a : ℤ) → P a → P (suc_ℤ a)) → ((a : ℤ) → P a → P (pred_ℤ a)) → (a : ℤ) → P a
integer_steps P base up down (pos zero) = base
integer_steps P base up down (pos (suc n)) = up (pos n) (integer_steps P base up down (pos n))
integer_steps P base up down (negsuc zero) = down (pos 0) base
integer_steps P base up down (negsuc (suc n)) = down (negsuc n) (integer_steps P base up down (negsuc n))

pub +ℤ-*ℤ : (a b c : ℤ) → (a +ℤ b) *ℤ c ≡ a *ℤ c +ℤ b *ℤ c
+ℤ-*ℤ a b c =
    integer_steps (λ (x : ℤ). (x +ℤ b) *ℤ c ≡ x *ℤ c +ℤ b *ℤ c)
    (ap (λ (x : ℤ). x *ℤ c) (+ℤ_idl b) ∙ sym (ap (λ (x : ℤ). x +ℤ b *ℤ c) (zero-*ℤ c) ∙ +ℤ_idl (b *ℤ c)))
    (λ x h. ap (λ (y : ℤ). y *ℤ c) (suc_ℤ-+ℤ x b) ∙ suc_ℤ-*ℤ (x +ℤ b) c ∙ ap (λ (y : ℤ). y +ℤ c) h ∙ moved (x *ℤ c) (b *ℤ c) c
    ∙ ap (λ (y : ℤ). y +ℤ b *ℤ c) (sym (suc_ℤ-*ℤ x c)))
    (λ x h. ap (λ (y : ℤ). y *ℤ c) (pred_ℤ-+ℤ x b) ∙ pred_ℤ-*ℤ (x +ℤ b) c ∙ ap (λ (y : ℤ). y -ℤ c) h ∙ moved (x *ℤ c) (b *ℤ c) (neg_ℤ c)
    ∙ ap (λ (y : ℤ). y +ℤ b *ℤ c) (sym (pred_ℤ-*ℤ x c)))
    a
  where
    moved : (x y z : ℤ) → x +ℤ y +ℤ z ≡ x +ℤ z +ℤ y
    moved x y z = +ℤ_assoc x y z ∙ ap (λ (u : ℤ). x +ℤ u) (+ℤ_comm y z) ∙ sym (+ℤ_assoc x z y)

pub *ℤ-+ℤ : (a b c : ℤ) → a *ℤ (b +ℤ c) ≡ a *ℤ b +ℤ a *ℤ c
*ℤ-+ℤ a b c = *ℤ_comm a (b +ℤ c) ∙ +ℤ-*ℤ b c a ∙ ap₂ (λ (x y : ℤ). x +ℤ y) (*ℤ_comm b a) (*ℤ_comm c a)

pub negℤ-*ℤ : (a b : ℤ) → neg_ℤ a *ℤ b ≡ neg_ℤ (a *ℤ b)
negℤ-*ℤ (pos zero) b = zero-*ℤ b ∙ ap neg_ℤ (sym (zero-*ℤ b))
negℤ-*ℤ (pos (suc n)) (pos k) = refl
negℤ-*ℤ (pos (suc n)) (negsuc k) = sym (neg_ℤ-neg_ℤ (pos (suc n * suc k)))
negℤ-*ℤ (negsuc n) (pos k) = sym (neg_ℤ-neg_ℤ (pos (suc n * k)))
negℤ-*ℤ (negsuc n) (negsuc k) = refl

pub *ℤ-negℤ : (a b : ℤ) → a *ℤ neg_ℤ b ≡ neg_ℤ (a *ℤ b)
*ℤ-negℤ a b = *ℤ_comm a (neg_ℤ b) ∙ negℤ-*ℤ b a ∙ ap neg_ℤ (*ℤ_comm b a)

pub *ℤ-assoc : (a b c : ℤ) → (a *ℤ b) *ℤ c ≡ a *ℤ (b *ℤ c)
*ℤ-assoc a b c =
    integer_steps (λ (x : ℤ). (x *ℤ b) *ℤ c ≡ x *ℤ (b *ℤ c))
    (ap (λ (x : ℤ). x *ℤ c) (zero-*ℤ b) ∙ zero-*ℤ c ∙ sym (zero-*ℤ (b *ℤ c)))
    (λ x h. ap (λ (y : ℤ). y *ℤ c) (suc_ℤ-*ℤ x b) ∙ +ℤ-*ℤ (x *ℤ b) b c ∙ ap (λ (y : ℤ). y +ℤ b *ℤ c) h ∙ sym (suc_ℤ-*ℤ x (b *ℤ c)))
    (λ x h. ap (λ (y : ℤ). y *ℤ c) (pred_ℤ-*ℤ x b) ∙ +ℤ-*ℤ (x *ℤ b) (neg_ℤ b) c ∙ ap₂ (λ (y z : ℤ). y +ℤ z) h (negℤ-*ℤ b c)
    ∙ sym (pred_ℤ-*ℤ x (b *ℤ c)))
    a

pub *ℤ-left-comm : (a b c : ℤ) → a *ℤ (b *ℤ c) ≡ b *ℤ (a *ℤ c)
*ℤ-left-comm a b c = sym (*ℤ-assoc a b c) ∙ ap (λ (x : ℤ). x *ℤ c) (*ℤ_comm a b) ∙ *ℤ-assoc b a c

-- A number and its negation cancel, also across other summands. Sorting puts a number before its negation.
pub +ℤ-cancel : (a b : ℤ) → a +ℤ (neg_ℤ a +ℤ b) ≡ b
+ℤ-cancel a b = sym (+ℤ_assoc a (neg_ℤ a) b) ∙ ap (λ (x : ℤ). x +ℤ b) (+ℤ_invr a) ∙ +ℤ_idl b

pub +ℤ-cancel-last : (a b : ℤ) → a +ℤ (b +ℤ neg_ℤ a) ≡ b
+ℤ-cancel-last a b = ap (λ (x : ℤ). a +ℤ x) (+ℤ_comm b (neg_ℤ a)) ∙ +ℤ-cancel a b

pub +ℤ-cancel-across : (a b c : ℤ) → a +ℤ (b +ℤ (neg_ℤ a +ℤ c)) ≡ b +ℤ c
+ℤ-cancel-across a b c = ap (λ (x : ℤ). a +ℤ x) (+ℤ-left-comm b (neg_ℤ a) c) ∙ +ℤ-cancel a (b +ℤ c)

pub +ℤ-cancel-two-last : (a b c : ℤ) → a +ℤ (b +ℤ (c +ℤ neg_ℤ a)) ≡ b +ℤ c
+ℤ-cancel-two-last a b c = ap (λ (x : ℤ). a +ℤ x) (sym (+ℤ_assoc b c (neg_ℤ a))) ∙ +ℤ-cancel-last a (b +ℤ c)

pub +ℤ-cancel-across-two : (a b c d : ℤ) → a +ℤ (b +ℤ (c +ℤ (neg_ℤ a +ℤ d))) ≡ b +ℤ (c +ℤ d)
+ℤ-cancel-across-two a b c d = ap (λ (x : ℤ). a +ℤ (b +ℤ x)) (+ℤ-left-comm c (neg_ℤ a) d) ∙ +ℤ-cancel-across a b (c +ℤ d)

pub *ℤ-unit : (a : ℤ) → a *ℤ pos 1 ≡ a
unfolding one
*ℤ-unit a = *ℤ-one a

pub unit-*ℤ : (a : ℤ) → pos 1 *ℤ a ≡ a
unit-*ℤ a = *ℤ_comm (pos 1) a ∙ *ℤ-unit a

pub ruleset sums = (+ℤ_assoc, +ℤ_comm, +ℤ-left-comm, +ℤ_idl, +ℤ_idr)

pub ruleset cancelling = (+ℤ_invr, +ℤ-cancel, +ℤ-cancel-last, +ℤ-cancel-across, +ℤ-cancel-two-last, +ℤ-cancel-across-two)

pub ruleset products = (*ℤ-assoc, *ℤ_comm, *ℤ-left-comm, *ℤ-unit, unit-*ℤ, zero-*ℤ, *ℤ-zero, +ℤ-*ℤ, *ℤ-+ℤ)

pub ruleset signs = (negℤ-*ℤ, *ℤ-negℤ, neg_ℤ-+ℤ, neg_ℤ-neg_ℤ)

pub ruleset ring = (sums, cancelling, products, signs)

-- of two equal sums of natural numbers the differences across are equal
pub differences_across : (a b c d : ℕ) → a + d ≡ b + c → pos a -ℤ pos b ≡ pos c -ℤ pos d
differences_across a b c d e =
    ap (λ (u : ℤ). u -ℤ pos b) (sym (+ℤ-neg_ℤ_cancel (pos a) (pos d)))
    ∙ ap (λ (u : ℤ). u -ℤ pos d -ℤ pos b) (pos-+ℤ-pos a d ∙ ap pos e ∙ sym (pos-+ℤ-pos b c))
    ∙ simp ring
