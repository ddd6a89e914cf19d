-- What a test that is joined of others says of them.
-- Assumes nothing.
use mathlib.Core.Path.{◌≡◌, refl, sym, ◌∙◌}
use mathlib.Core.Bool.{Bool, true, false, cond, not, ◌&&◌, ◌||◌, true≢false, false≢true}
use mathlib.Core.Logic.{◌⊎◌, inl, inr}
use Prim.Native.Nat.{ℕ}
use lib.Dec.{eqb}
use borrow.Author.Tests.{eqb-true, eq-eqb}

pub and_left : (p q : Bool) → p && q ≡ true → p ≡ true
and_left true q h = refl
and_left false q h = h

pub and_right : (p q : Bool) → p && q ≡ true → q ≡ true
and_right true q h = h
and_right false q h = absurd (false≢true h)

pub and_both : {p q : Bool} → p ≡ true → q ≡ true → p && q ≡ true
and_both {p} {q} hp hq = rw (hp, hq)

pub or_cases : (p q : Bool) → p || q ≡ true → (p ≡ true) ⊎ (q ≡ true)
or_cases true q h = inl refl
or_cases false q h = inr h

pub or_left : {p : Bool} (q : Bool) → p ≡ true → p || q ≡ true
or_left {p} q h = rw h

pub or_right : (p : Bool) {q : Bool} → q ≡ true → p || q ≡ true
or_right true h = refl
or_right false h = h

pub neither : (p q : Bool) → p || q ≡ false → (p ≡ false) × (q ≡ false)
neither true q h = absurd (true≢false h)
neither false q h = (refl, h)

pub or_false : (p : Bool) → p || false ≡ p
or_false true = refl
or_false false = refl

pub or_true : (p : Bool) → p || true ≡ true
or_true p = or_right p refl

pub or_swap : (p q : Bool) → p || q ≡ q || p
or_swap true true = refl
or_swap true false = refl
or_swap false true = refl
or_swap false false = refl

pub and_swap : (p q : Bool) → p && q ≡ q && p
and_swap true true = refl
and_swap true false = refl
and_swap false true = refl
and_swap false false = refl

pub not_not : (p : Bool) → not (not p) ≡ p
not_not true = refl
not_not false = refl

pub true_or_false : (p : Bool) → (p ≡ true) ⊎ (p ≡ false)
true_or_false true = inl refl
true_or_false false = inr refl

pub clash {ℓ} : {A : Type ℓ} {p : Bool} → p ≡ true → p ≡ false → A
clash h k = absurd (true≢false (sym h ∙ k))

-- a test that is true wherever another is, and the other way round, is that test
pub same_test : (p q : Bool) → (p ≡ true → q ≡ true) → (q ≡ true → p ≡ true) → p ≡ q
same_test true q f g = sym (f refl)
same_test false true f g = g refl
same_test false false f g = refl

-- a test is false if its truth is absurd
pub false_of : (p : Bool) → (p ≡ true → ⊥) → p ≡ false
false_of true h = absurd (h refl)
false_of false h = refl

-- two equations of numbers that follow from each other are the same test
pub same_eqb : (a b c d : ℕ) → (a ≡ b → c ≡ d) → (c ≡ d → a ≡ b) → eqb a b ≡ eqb c d
same_eqb a b c d there back = same_test (eqb a b) (eqb c d) (λ h. eq-eqb c d (there (eqb-true a b h))) (λ h. eq-eqb a b (back (eqb-true c d h)))

-- two amounts that are the same where a test passes
pub cond_same : (b : Bool) (x y : ℕ) → (b ≡ true → x ≡ y) → cond b x 0 ≡ cond b y 0
cond_same true x y h = h refl
cond_same false x y h = refl
