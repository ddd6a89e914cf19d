-- Sums over the sets of those parts that pass a test, by the last part: over all parts, over two groups of parts that share none, and over the parts
-- of one block, which are the masks of its size. Assumes nothing.
use mathlib.Core.Path.{◌≡◌, refl, sym, ap, ap₂, ◌∙◌}
use mathlib.Core.Bool.{Bool, true, false, cond, ◌&&◌, ◌||◌}
use mathlib.Core.Logic.{◌⊎◌, inl, inr}
use Prim.Native.Nat.{ℕ, zero, suc, ◌+◌, ◌^◌, ◌<◌}
use native.Mathlib.Nat.{not-suc-le-zero, le_of_suc-le-suc, eq-or-lt_of_le, le_refl, le_step, lt-suc_self, zero-add, add-zero, two-pow-succ}
use native.Mathlib.Omega.{arith}
use lib.Count.{ones, ones_in}
use lib.Dec.{eqb}
use borrow.Author.Tests.{eqb-true, eq-eqb, ne_eqb}
use Rattle.numbers.proofs.Bools.{cond_same, and_left, and_right, and_both, same_test, or_cases, or_false, or_swap, clash}
use Rattle.theory_sums.specs.Sums.{indicator, sum_below}
use Rattle.theory_sums.proofs.Sums.{sum_below_masks, sum_below_halves}
use Rattle.theory_sets.specs.Masks.{has, size, any}
use Rattle.theory_sets.proofs.Masks.{has_add, has_above, has_empty}
use Rattle.theory_sets.proofs.Ranges.{any_intro, any_elim, any_false}
use Rattle.theory_orders.proofs.Orders.{eqb_comm}
use Rattle.theory_orders.proofs.Sizes.{has_last, has_others, size_add}

-- ---- sets of parts that pass a test

-- the sum of f over the sets of those of the first n parts that pass a test
unfoldable pub sum_over : (ℕ → Bool) → ℕ → (ℕ → ℕ) → ℕ
sum_over test zero f = f 0
sum_over test (suc n) f = sum_over test n f + cond (test n) (sum_over test n (λ a. f (a + 2 ^ n))) 0

-- a set of parts that pass the test
abbrev pub Of : (ℕ → Bool) → ℕ → ℕ → Type 0
Of test n a = (a < 2 ^ n) × ((i : ℕ) → has a i ≡ true → test i ≡ true)

of_more : (test : ℕ → Bool) (n a : ℕ) → Of test n a → Of test (suc n) a
of_more test n a of = (omega (arith, of.0, two-pow-succ n), of.1)

of_with : (test : ℕ → Bool) (n a : ℕ) → test n ≡ true → Of test n a → Of test (suc n) (a + 2 ^ n)
of_with test n a passes of =
    (omega (arith, of.0, two-pow-succ n), λ i h. cases i (or_cases (eqb i n) (has a i) (sym (has_add a n (has_above a n n of.0 (le_refl n)) i) ∙ h)))
  where
    cases : (i : ℕ) → (eqb i n ≡ true) ⊎ (has a i ≡ true) → test i ≡ true
    cases i (inl e) = ap test (eqb-true i n e) ∙ passes
    cases i (inr h) = of.1 i h

pub over_same : (test : ℕ → Bool) (n : ℕ) (f g : ℕ → ℕ) → ((a : ℕ) → Of test n a → f a ≡ g a) → sum_over test n f ≡ sum_over test n g
unfolding sum_over
over_same test zero f g same = same 0 (omega arith, λ i h. clash h (has_empty i))
over_same test (suc n) f g same =
    ap₂ (λ (u v : ℕ). u + v) (over_same test n f g (λ a of. same a (of_more test n a of)))
    (cond_same (test n) _ _ (λ passes. over_same test n (λ a. f (a + 2 ^ n)) (λ a. g (a + 2 ^ n)) (λ a of. same (a + 2 ^ n) (of_with test n a passes of))))

pub over_test : (s t : ℕ → Bool) (n : ℕ) (f : ℕ → ℕ) → ((i : ℕ) → i < n → s i ≡ t i) → sum_over s n f ≡ sum_over t n f
unfolding sum_over
over_test s t zero f same = refl
over_test s t (suc n) f same =
    ap₂ (λ (u v : ℕ). u + v) (over_test s t n f (λ i l. same i (le_step l)))
    (ap₂ (λ (b : Bool) (u : ℕ). cond b u 0) (same n (lt-suc_self n)) (over_test s t n (λ a. f (a + 2 ^ n)) (λ i l. same i (le_step l))))

over_add : (test : ℕ → Bool) (n : ℕ) (f g : ℕ → ℕ) → sum_over test n (λ a. f a + g a) ≡ sum_over test n f + sum_over test n g
unfolding sum_over
over_add test zero f g = refl
over_add test (suc n) f g =
    ap₂ (λ (u v : ℕ). u + cond (test n) v 0) (over_add test n f g) (over_add test n (λ a. f (a + 2 ^ n)) (λ a. g (a + 2 ^ n)))
    ∙ both (test n) _ _ _ _
  where
    both : (t : Bool) (x y z w : ℕ) → x + y + cond t (z + w) 0 ≡ x + cond t z 0 + (y + cond t w 0)
    both true x y z w = omega arith
    both false x y z w = omega arith

pub over_zero : (test : ℕ → Bool) (n : ℕ) → sum_over test n (λ a. 0) ≡ 0
unfolding sum_over
over_zero test zero = refl
over_zero test (suc n) = ap₂ (λ (u v : ℕ). u + cond (test n) v 0) (over_zero test n) (over_zero test n) ∙ none (test n)
  where
    none : (t : Bool) → ◌≡◌ {A = ℕ} (0 + cond t 0 0) 0
    none true = refl
    none false = refl

-- all parts
pub over_all : (n : ℕ) (f : ℕ → ℕ) → sum_over (λ i. true) n f ≡ sum_below f (2 ^ n)
unfolding sum_over sum_below
over_all zero f = sym (zero-add (f 0))
over_all (suc n) f = ap₂ (λ (u v : ℕ). u + v) (over_all n f) (over_all n (λ a. f (a + 2 ^ n))) ∙ sym (sum_below_masks f n)

-- no part
pub over_none : (test : ℕ → Bool) (n : ℕ) (f : ℕ → ℕ) → ((i : ℕ) → i < n → test i ≡ false) → sum_over test n f ≡ f 0
unfolding sum_over
over_none test zero f none = refl
over_none test (suc n) f none = rw (none n (lt-suc_self n)) (add-zero (sum_over test n f) ∙ over_none test n f (λ i l. none i (le_step l)))

-- one part
over_one : (q n : ℕ) (f : ℕ → ℕ) → q < n → sum_over (λ i. eqb q i) n f ≡ f 0 + f (2 ^ q)
unfolding sum_over
over_one q zero f l = absurd (not-suc-le-zero l)
over_one q (suc n) f l = cases (eq-or-lt_of_le (le_of_suc-le-suc l)) (over_one q n f)
  where
    cases : (q ≡ n) ⊎ (q < n) → (q < n → sum_over (λ i. eqb q i) n f ≡ f 0 + f (2 ^ q))
        → sum_over (λ i. eqb q i) n f + cond (eqb q n) (sum_over (λ i. eqb q i) n (λ a. f (a + 2 ^ n))) 0 ≡ f 0 + f (2 ^ q)
    cases (inl e) ih =
        rw (eq-eqb q n e)
        (ap₂ (λ (u v : ℕ). u + v) (over_none _ n f (λ i k. ne_eqb q i (λ g. omega arith)))
        (over_none _ n (λ a. f (a + 2 ^ n)) (λ i k. ne_eqb q i (λ g. omega arith)) ∙ ap f (zero-add (2 ^ n) ∙ ap (λ (x : ℕ). 2 ^ x) (sym e))))
    cases (inr below) ih = rw (ne_eqb q n (λ e. omega arith)) (add-zero _ ∙ ih below)

-- two groups of parts that share none
pub over_split : (s t : ℕ → Bool) (n : ℕ) (f : ℕ → ℕ) → ((i : ℕ) → i < n → s i ≡ true → t i ≡ false)
    → sum_over (λ i. s i || t i) n f ≡ sum_over s n (λ a. sum_over t n (λ b. f (a + b)))
unfolding sum_over
over_split s t zero f apart = refl
over_split s t (suc n) f apart =
    cases (s n) (t n) (apart n (lt-suc_self n)) (over_split s t n f (λ i l. apart i (le_step l))) (over_split s t n (λ a. f (a + 2 ^ n)) (λ i l. apart i (le_step l)))
  where
    plain : (ℕ → ℕ) → ℕ
    plain g = sum_over s n (λ a. sum_over t n (λ b. g (a + b)))

    cases : (p q : Bool) → (p ≡ true → q ≡ false) → sum_over (λ i. s i || t i) n f ≡ plain f
        → sum_over (λ i. s i || t i) n (λ a. f (a + 2 ^ n)) ≡ plain (λ a. f (a + 2 ^ n))
        → sum_over (λ i. s i || t i) n f + cond (p || q) (sum_over (λ i. s i || t i) n (λ a. f (a + 2 ^ n))) 0
        ≡ sum_over s n (λ a. sum_over t n (λ b. f (a + b)) + cond q (sum_over t n (λ b. f (a + (b + 2 ^ n)))) 0)
        + cond p (sum_over s n (λ a. sum_over t n (λ b. f (a + 2 ^ n + b)) + cond q (sum_over t n (λ b. f (a + 2 ^ n + (b + 2 ^ n)))) 0)) 0
    cases true true never e g = clash refl (never refl)
    cases true false never e g =
        ap₂ (λ (u v : ℕ). u + v) (e ∙ over_same s n _ _ (λ a of. sym (add-zero _)))
        (g ∙ over_same s n _ _ (λ a of. over_same t n _ _ (λ b with. let turned : a + b + 2 ^ n ≡ a + 2 ^ n + b = omega arith in ap f turned) ∙ sym (add-zero _)))
    cases false true never e g =
        ap₂ (λ (u v : ℕ). u + v) e
        (g ∙ over_same s n _ _ (λ a of. over_same t n _ _ (λ b with. let turned : a + b + 2 ^ n ≡ a + (b + 2 ^ n) = omega arith in ap f turned)))
        ∙ sym (over_add s n (λ a. sum_over t n (λ b. f (a + b))) (λ a. sum_over t n (λ b. f (a + (b + 2 ^ n))))) ∙ sym (add-zero _)
    cases false false never e g = ap (λ (u : ℕ). u + 0) (e ∙ over_same s n _ _ (λ a of. sym (add-zero _)))

-- ---- the parts of one block

-- a set of a block's own parts, as a set of the whole: place p of the block is the part `part p`
unfoldable pub spread : (ℕ → ℕ) → ℕ → ℕ → ℕ
spread part zero x = 0
spread part (suc m) x = spread part m x + cond (has x m) (2 ^ part m) 0

-- the parts of the first m places
abbrev pub placed : (ℕ → ℕ) → ℕ → ℕ → Bool
placed part m i = any (λ p. eqb (part p) i) m

-- only the first m places of the set matter
spread_same : (part : ℕ → ℕ) (m x y : ℕ) → ((p : ℕ) → p < m → has x p ≡ has y p) → spread part m x ≡ spread part m y
unfolding spread
spread_same part zero x y same = refl
spread_same part (suc m) x y same =
    ap₂ (λ (u : ℕ) (t : Bool). u + cond t (2 ^ part m) 0) (spread_same part m x y (λ p l. same p (le_step l))) (same m (lt-suc_self m))

-- no two of the first m places have the same part
abbrev pub Once : (ℕ → ℕ) → ℕ → Type 0
Once part m = (p q : ℕ) → p < m → q < m → part p ≡ part q → p ≡ q

module _ (part : ℕ → ℕ) where
  once_less : (m : ℕ) → Once part (suc m) → Once part m
  once_less m once p q l k = once p q (le_step l) (le_step k)

  -- the part of the next place is not among those before it
  next_new : (m : ℕ) → Once part (suc m) → (p : ℕ) → p < m → eqb (part p) (part m) ≡ false
  next_new m once p l = ne_eqb (part p) (part m) (λ e. let same = once p m (le_step l) (lt-suc_self m) e in omega arith)

  next_lacks : (m x : ℕ) → Once part (suc m) → ((i : ℕ) → has (spread part m x) i ≡ any (λ p. has x p && eqb (part p) i) m)
      → has (spread part m x) (part m) ≡ false
  next_lacks m x once before = before (part m) ∙ any_false _ m (λ p l h. clash (and_right (has x p) _ h) (next_new m once p l))

  -- the sets of a block's parts are the masks of its size
  pub over_block : (n m : ℕ) (f : ℕ → ℕ) → ((p : ℕ) → p < m → part p < n) → Once part m
      → sum_over (placed part m) n f ≡ sum_below (λ x. f (spread part m x)) (2 ^ m)
  unfolding spread any sum_below
  over_block n zero f below once = over_none _ n f (λ i l. refl) ∙ sym (zero-add (f 0))
  over_block n (suc m) f below once =
      over_split (placed part m) (λ i. eqb (part m) i) n f (λ i l there. ne_eqb (part m) i (λ e. taken i there e))
      ∙ over_same (placed part m) n _ (λ a. f a + f (a + 2 ^ part m)) (λ a of.
      over_one (part m) n (λ b. f (a + b)) (below m (lt-suc_self m)) ∙ ap (λ (x : ℕ). f x + f (a + 2 ^ part m)) (add-zero a))
      ∙ over_block n m (λ a. f a + f (a + 2 ^ part m)) (λ p l. below p (le_step l)) (once_less m once)
      ∙ sum_below_halves (λ x. f (spread part m x + cond (has x m) (2 ^ part m) 0)) _ m (λ x l.
      ap₂ (λ (u v : ℕ). u + v)
      (ap f (sym (ap (λ (t : Bool). spread part m x + cond t (2 ^ part m) 0) (has_above x m m l (le_refl m)) ∙ add-zero (spread part m x))))
      (ap f (sym (ap₂ (λ (u : ℕ) (t : Bool). u + cond t (2 ^ part m) 0) (spread_same part m (x + 2 ^ m) x (λ p k. has_others m x l p k)) (has_last m x l)))))
    where
      taken : (i : ℕ) → placed part m i ≡ true → part m ≡ i → ⊥
      taken i there e =
          let found = any_elim (λ p. eqb (part p) i) m there in
          let same = once found.0 m (le_step found.1) (lt-suc_self m) (eqb-true (part found.0) i found.2 ∙ sym e) in
          let less = found.1 in omega arith

  -- what a set of the block has in the whole
  has_spread : (m x : ℕ) → Once part m → (i : ℕ) → has (spread part m x) i ≡ any (λ p. has x p && eqb (part p) i) m
  unfolding spread any
  has_spread zero x once i = has_empty i
  has_spread (suc m) x once i = cases (has x m) (has_spread m x (once_less m once) i) (next_lacks m x once (has_spread m x (once_less m once)))
    where
      cases : (t : Bool) → has (spread part m x) i ≡ any (λ p. has x p && eqb (part p) i) m → has (spread part m x) (part m) ≡ false
          → has (spread part m x + cond t (2 ^ part m) 0) i ≡ any (λ p. has x p && eqb (part p) i) m || (t && eqb (part m) i)
      cases true before lacks =
          has_add (spread part m x) (part m) lacks i ∙ ap₂ (λ (p q : Bool). p || q) (eqb_comm i (part m)) before ∙ or_swap (eqb (part m) i) _
      cases false before lacks = ap (λ (y : ℕ). has y i) (add-zero (spread part m x)) ∙ before ∙ sym (or_false _)

  -- as many parts as in the block
  pub size_spread : (m x : ℕ) → Once part m → size (spread part m x) ≡ sum_below (λ p. indicator (has x p)) m
  unfolding spread sum_below ones ones_in
  size_spread zero x once = refl
  size_spread (suc m) x once = cases (has x m) (size_spread m x (once_less m once)) (next_lacks m x once (has_spread m x (once_less m once)))
    where
      cases : (t : Bool) → size (spread part m x) ≡ sum_below (λ p. indicator (has x p)) m → has (spread part m x) (part m) ≡ false
          → size (spread part m x + cond t (2 ^ part m) 0) ≡ sum_below (λ p. indicator (has x p)) m + indicator t
      cases true before lacks = size_add (spread part m x) (part m) lacks ∙ omega (arith, before)
      cases false before lacks = ap size (add-zero (spread part m x)) ∙ omega (arith, before)

  -- a place of the block, and a part that is none of the block's
  pub spread_own : (m x : ℕ) → Once part m → (p : ℕ) → p < m → has (spread part m x) (part p) ≡ has x p
  spread_own m x once p l =
      has_spread m x once (part p)
      ∙ same_test (any (λ q. has x q && eqb (part q) (part p)) m) (has x p)
      (λ h. let found = any_elim _ m h in
      let q : ℕ = found.0 in
      let same : q ≡ p = once q p found.1 l (eqb-true (part q) (part p) (and_right (has x q) _ found.2)) in
      ap (has x) (sym same) ∙ and_left (has x q) _ found.2)
      (λ h. any_intro _ m p l (and_both h (eq-eqb (part p) (part p) refl)))

  pub spread_else : (m x : ℕ) → Once part m → (i : ℕ) → ((p : ℕ) → p < m → part p ≡ i → ⊥) → has (spread part m x) i ≡ false
  spread_else m x once i none =
      has_spread m x once i ∙ any_false _ m (λ p l h. none p l (eqb-true (part p) i (and_right (has x p) _ h)))
