-- Laws of a number among others: it names one of them exactly if it stands there, and what a search for it finds.
-- Assumes nothing.
use mathlib.Core.Path.{◌≡◌, refl, sym, ap, ◌∙◌}
use mathlib.Core.Bool.{true, false, ◌||◌}
use mathlib.Core.List.Memᴰ
use mathlib.Core.List.{List, [], ◌∷◌, Memᴰ}
use mathlib.Core.Logic.{◌⊎◌, inl, inr}
use Prim.Native.Nat.{ℕ, ◌+◌, ◌≤◌, ◌<◌}
use native.Mathlib.Numerals.{add-one}
use borrow.Author.Tests.{eqb-true, eq-eqb, ne_eqb}
use lib.Dec.{eqb}
use lib.ListN.{length, drop, get_or, drop_of_length-le}
use lib.Seq.{drop-cons}
use Rattle.numbers.proofs.Bools.{clash, or_cases, or_left, or_right}
use Rattle.theory_sums.specs.Sums.{some}
use Rattle.record_numbers.specs.Numbering.{names}

-- ---- the test

pub names_intro : (number : ℕ) (set : List ℕ) → Memᴰ number set → names number set ≡ true
unfolding some
names_intro number [] i = absurd (Memᴰ.not-nil i)
names_intro number (x ∷ xs) i = cases (Memᴰ.cases_cons i) (names_intro number xs)
  where
    cases : (number ≡ x) ⊎ Memᴰ number xs → (Memᴰ number xs → names number xs ≡ true) → eqb number x || names number xs ≡ true
    cases (inl e) rest = or_left (names number xs) (eq-eqb number x e)
    cases (inr later) rest = or_right (eqb number x) (rest later)

pub names_elim : (number : ℕ) (set : List ℕ) → names number set ≡ true → Memᴰ number set
unfolding some
names_elim number [] h = clash {p = true} refl (sym h)
names_elim number (x ∷ xs) h = cases (or_cases (eqb number x) (names number xs) h) (names_elim number xs)
  where
    cases : (eqb number x ≡ true) ⊎ (names number xs ≡ true) → (names number xs ≡ true → Memᴰ number xs) → Memᴰ number (x ∷ xs)
    cases (inl e) rest = Memᴰ.head (eqb-true number x e)
    cases (inr later) rest = Memᴰ.tail (rest later)

-- ---- a walk along the numbers

module _ (numbers : List ℕ) (i : ℕ) (inside : i < length numbers) where
  -- the number at hand, and those behind it
  pub from_here : drop i numbers ≡ get_or numbers i 0 ∷ drop (i + 1) numbers
  from_here = drop-cons numbers i 0 inside ∙ ap (λ (k : ℕ). get_or numbers i 0 ∷ drop k numbers) (sym (add-one i))

  pub names_here : (number : ℕ) → get_or numbers i 0 ≡ number → names number (drop i numbers) ≡ true
  unfolding some
  names_here number e = ap (names number) from_here ∙ rw (eq-eqb number (get_or numbers i 0) (sym e)) refl

  pub names_past : (number : ℕ) → (get_or numbers i 0 ≡ number → ⊥) → names number (drop i numbers) ≡ names number (drop (i + 1) numbers)
  unfolding some
  names_past number e = ap (names number) from_here ∙ rw (ne_eqb number (get_or numbers i 0) (λ same. e (sym same))) refl

-- at the end
pub names_end : (numbers : List ℕ) (i : ℕ) → length numbers ≤ i → (number : ℕ) → names number (drop i numbers) ≡ false
unfolding some
names_end numbers i end number = ap (names number) (drop_of_length-le numbers end)
