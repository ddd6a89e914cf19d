-- Laws of a number put into a list in front of the first that is above it.
-- Assumes nothing.
use mathlib.Core.Path.{◌≡◌, refl, sym, ap, ◌∙◌}
use mathlib.Core.Bool.{Bool, true, false, cond}
use mathlib.Core.List.Memᴰ
use mathlib.Core.List.{List, [], ◌∷◌, ◌++◌}
use mathlib.Core.Logic.{◌⊎◌, inl, inr, ⊎_elim}
use Prim.Native.Nat.{ℕ, suc, ◌+◌, ◌≤◌, ◌<◌}
use native.Mathlib.Omega.{arith}
use borrow.Author.Tests.{ltb-true, ltb-false, lt-ltb, le-ltb}
use lib.Dec.{ltb}
use lib.ListN.{length, length-append}
use Rattle.numbers.proofs.Bounds.{below_or_above}
use Rattle.codec.specs.ByteForm.{bytes_of, forms_of}
use Rattle.record_numbers.specs.Numbering.{RisingWithin}
use Rattle.record_parts.specs.Lines.{In}
use Rattle.record_retired.specs.Retired.{inserted}

-- ---- in front of the first, or behind it

module _ (number other : ℕ) (others : List ℕ) where
  pub inserted_front : number < other → inserted number (other ∷ others) ≡ number ∷ (other ∷ others)
  unfolding inserted
  inserted_front h = rw (lt-ltb number other h)

  pub inserted_behind : other ≤ number → inserted number (other ∷ others) ≡ other ∷ inserted number others
  unfolding inserted
  inserted_behind h = rw (le-ltb number other h)

-- ---- how many, and which

pub inserted_length : (number : ℕ) (list : List ℕ) → length (inserted number list) ≡ suc (length list)
unfolding inserted
inserted_length number [] = refl
inserted_length number (x ∷ xs) = cases (ltb number x) (inserted_length number xs)
  where
    cases : (p : Bool) → length (inserted number xs) ≡ suc (length xs) → length (cond p (number ∷ (x ∷ xs)) (x ∷ inserted number xs)) ≡ suc (suc (length xs))
    cases true later = refl
    cases false later = ap suc later

-- the one that was put in, and those that were there
pub in_inserted : (number : ℕ) (list : List ℕ) {other : ℕ} → In other (inserted number list) → (other ≡ number) ⊎ In other list
unfolding inserted
in_inserted number [] i = Memᴰ.cases_cons i
in_inserted number (x ∷ xs) {other} i = cases (ltb number x) (in_inserted number xs) i
  where
    cases : (p : Bool) → (In other (inserted number xs) → (other ≡ number) ⊎ In other xs)
        → In other (cond p (number ∷ (x ∷ xs)) (x ∷ inserted number xs)) → (other ≡ number) ⊎ In other (x ∷ xs)
    cases true later i = Memᴰ.cases_cons i
    cases false later i =
        ⊎_elim
        (λ (e : other ≡ x). inr (Memᴰ.head e))
        (λ j. ⊎_elim (λ (e : other ≡ number). inl e) (λ k. inr (Memᴰ.tail k)) (later j))
        (Memᴰ.cases_cons i)

pub inserted_in : (number : ℕ) (list : List ℕ) {other : ℕ} → (other ≡ number) ⊎ In other list → In other (inserted number list)
unfolding inserted
inserted_in number [] (inl e) = Memᴰ.head e
inserted_in number [] (inr i) = Memᴰ.tail i
inserted_in number (x ∷ xs) {other} h = cases (ltb number x) (inserted_in number xs) h
  where
    cases : (p : Bool) → ((other ≡ number) ⊎ In other xs → In other (inserted number xs)) → (other ≡ number) ⊎ In other (x ∷ xs)
        → In other (cond p (number ∷ (x ∷ xs)) (x ∷ inserted number xs))
    cases true later (inl e) = Memᴰ.head e
    cases true later (inr i) = Memᴰ.tail i
    cases false later (inl e) = Memᴰ.tail (later (inl e))
    cases false later (inr i) = ⊎_elim (λ (e : other ≡ x). Memᴰ.head e) (λ j. Memᴰ.tail (later (inr j))) (Memᴰ.cases_cons i)

-- the bytes of its form more
pub inserted_forms : (number : ℕ) (list : List ℕ) → length (forms_of (inserted number list)) ≡ length (bytes_of number) + length (forms_of list)
unfolding inserted forms_of
inserted_forms number [] = length-append (bytes_of number) []
inserted_forms number (x ∷ xs) = cases (ltb number x) (inserted_forms number xs)
  where
    cases : (p : Bool) → length (forms_of (inserted number xs)) ≡ length (bytes_of number) + length (forms_of xs)
        → length (forms_of (cond p (number ∷ (x ∷ xs)) (x ∷ inserted number xs))) ≡ length (bytes_of number) + length (bytes_of x ++ forms_of xs)
    cases true later = length-append (bytes_of number) (bytes_of x ++ forms_of xs)
    cases false later =
        omega (arith, length-append (bytes_of x) (forms_of (inserted number xs)), length-append (bytes_of x) (forms_of xs))

-- ---- in order

-- a number that is new, put into numbers that rise
pub rising_inserted : (low high number : ℕ) (list : List ℕ) → RisingWithin low high list → low < number → number ≤ high → (In number list → ⊥)
    → RisingWithin low high (inserted number list)
unfolding inserted
rising_inserted low high number [] r above below new = (above, below, tt)
rising_inserted low high number (x ∷ xs) r above below new = cases (ltb number x) refl (rising_inserted x high number xs r.2)
  where
    cases : (p : Bool) → ltb number x ≡ p → (x < number → number ≤ high → (In number xs → ⊥) → RisingWithin x high (inserted number xs))
        → RisingWithin low high (cond p (number ∷ (x ∷ xs)) (x ∷ inserted number xs))
    cases true e later = (above, below, (ltb-true number x e, r.1, r.2))
    cases false e later =
        let apart : number ≡ x → ⊥ = λ same. new (Memᴰ.head same) in
        (r.0, r.1, later (omega (arith, ltb-false number x e, apart)) below (λ i. new (Memᴰ.tail i)))

-- in order from `low` on: the first is at least `low`, and each at least the one before it
abbrev pub Ordered : ℕ → List ℕ → Type 0
Ordered low [] = Unit {0}
Ordered low (x ∷ xs) = (low ≤ x) × Ordered x xs

pub ordered_lower : (low low' : ℕ) (list : List ℕ) → low' ≤ low → Ordered low list → Ordered low' list
ordered_lower low low' [] h o = tt
ordered_lower low low' (x ∷ xs) h o = (omega (arith, o.0), o.1)

-- numbers that rise are in order
pub rising_ordered : (low low' high : ℕ) (list : List ℕ) → low' ≤ low → RisingWithin low high list → Ordered low' list
rising_ordered low low' high [] h r = tt
rising_ordered low low' high (x ∷ xs) h r = (omega (arith, r.0), rising_ordered x x high xs (omega arith) r.2)

pub ordered_in : (low : ℕ) (list : List ℕ) → Ordered low list → {number : ℕ} → In number list → low ≤ number
ordered_in low [] o i = absurd (Memᴰ.not-nil i)
ordered_in low (x ∷ xs) o {number} i =
    ⊎_elim
    (λ (e : number ≡ x). omega (arith, o.0))
    (λ (j : In number xs). omega (arith, o.0, ordered_in x xs o.1 j))
    (Memᴰ.cases_cons i)

-- in order from any number on that is below them all
pub ordered_from : (number low : ℕ) (list : List ℕ) → Ordered low list → ((other : ℕ) → In other list → number < other) → Ordered number list
ordered_from number low [] o below = tt
ordered_from number low (x ∷ xs) o below = (omega (arith, below x (Memᴰ.head refl)), o.1)

pub ordered_inserted : (low number : ℕ) (list : List ℕ) → low ≤ number → Ordered low list → Ordered low (inserted number list)
unfolding inserted
ordered_inserted low number [] h o = (h, tt)
ordered_inserted low number (x ∷ xs) h o = cases (ltb number x) refl (ordered_inserted x number xs)
  where
    cases : (p : Bool) → ltb number x ≡ p → (x ≤ number → Ordered x xs → Ordered x (inserted number xs)) → Ordered low (cond p (number ∷ (x ∷ xs)) (x ∷ inserted number xs))
    cases true e later = (h, (omega (arith, ltb-true number x e), o.1))
    cases false e later = (o.0, later (ltb-false number x e) o.1)

-- what is below all stands in front
pub inserted_first : (low number : ℕ) (list : List ℕ) → number < low → Ordered low list → inserted number list ≡ number ∷ list
unfolding inserted
inserted_first low number [] h o = refl
inserted_first low number (x ∷ xs) h o = inserted_front number x xs (omega (arith, o.0))

-- two numbers come to the same places in either order, whatever the list
inserted_two : (a b : ℕ) (list : List ℕ) → a < b → inserted a (inserted b list) ≡ inserted b (inserted a list)
unfolding inserted
inserted_two a b [] h = inserted_front a b [] h ∙ sym (inserted_behind b a [] (omega arith))
inserted_two a b (x ∷ xs) h = ⊎_elim (λ low. ⊎_elim (both_front low) (between low) (below_or_above b x)) (both_behind (inserted_two a b xs h)) (below_or_above a x)
  where
    both_front : a < x → b < x → inserted a (inserted b (x ∷ xs)) ≡ inserted b (inserted a (x ∷ xs))
    both_front low high =
        ap (inserted a) (inserted_front b x xs high) ∙ inserted_front a b (x ∷ xs) h
        ∙ sym (ap (inserted b) (inserted_front a x xs low) ∙ inserted_behind b a (x ∷ xs) (omega arith) ∙ ap (λ (l : List ℕ). a ∷ l) (inserted_front b x xs high))

    between : a < x → x ≤ b → inserted a (inserted b (x ∷ xs)) ≡ inserted b (inserted a (x ∷ xs))
    between low high =
        ap (inserted a) (inserted_behind b x xs high) ∙ inserted_front a x (inserted b xs) low
        ∙ sym (ap (inserted b) (inserted_front a x xs low) ∙ inserted_behind b a (x ∷ xs) (omega arith) ∙ ap (λ (l : List ℕ). a ∷ l) (inserted_behind b x xs high))

    both_behind : inserted a (inserted b xs) ≡ inserted b (inserted a xs) → x ≤ a → inserted a (inserted b (x ∷ xs)) ≡ inserted b (inserted a (x ∷ xs))
    both_behind later low =
        ap (inserted a) (inserted_behind b x xs (omega arith)) ∙ inserted_behind a x (inserted b xs) low ∙ ap (λ (l : List ℕ). x ∷ l) later
        ∙ sym (ap (inserted b) (inserted_behind a x xs low) ∙ inserted_behind b x (inserted a xs) (omega arith))

pub inserted_both : (a b : ℕ) (list : List ℕ) → inserted a (inserted b list) ≡ inserted b (inserted a list)
inserted_both a b list =
    ⊎_elim
    (inserted_two a b list)
    (λ h. ⊎_elim (λ less. sym (inserted_two b a list less)) (λ more. let same : a ≡ b = omega arith in rw same) (below_or_above b a))
    (below_or_above a b)
