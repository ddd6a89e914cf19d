-- Laws of `tabulate`: its length, its entries, its end, and a list that a loop fills with a function's values.
-- Assumes nothing.
use mathlib.Core.Path.{◌≡◌, refl, sym, ap, ap₂, ◌∙◌, subst}
use mathlib.Core.Bool.{cond}
use mathlib.Core.List.{List, [], ◌∷◌, ◌++◌, append-nil}
use mathlib.Core.Logic.{◌⊎◌, inl, inr}
use Prim.Native.Nat.{ℕ, zero, suc, ◌+◌, ◌-◌, ◌≤◌, ◌<◌, zero-le}
use native.Mathlib.Nat.{le_of_suc-le-suc, not-suc-le-zero, add-sub_of_le, le_antisymm, le_of_eq, le_trans}
use native.Mathlib.Numerals.{add-one}
use native.Mathlib.Omega.{arith}
use borrow.Author.Tests.{le-leb, lt-leb}
use lib.Dec.{leb}
use lib.ListN.{length, get_or, set, take, drop, length-append, length-drop, drop_of_length-le, get_or-append, get_or-eq_default}
use lib.Seq.{drop-cons, set-append_seam, append_snoc, get_or-append-add, get_or-drop, ext_get_or}
use Rattle.numbers.specs.Tables.{tabulate, NoneOver}
use Rattle.numbers.proofs.Bounds.{below_or_above}

module _ {A : Type 0} where
  pub tabulate_length : (n : ℕ) (f : ℕ → A) → length (tabulate n f) ≡ n
  unfolding tabulate
  tabulate_length zero f = refl
  tabulate_length (suc n) f = ap suc (tabulate_length n (λ i. f (suc i)))

  pub tabulate_at : (n : ℕ) (f : ℕ → A) (k : ℕ) (d : A) → k < n → get_or (tabulate n f) k d ≡ f k
  unfolding tabulate
  tabulate_at zero f k d h = absurd (not-suc-le-zero h)
  tabulate_at (suc n) f zero d h = refl
  tabulate_at (suc n) f (suc k) d h = tabulate_at n (λ i. f (suc i)) k d (le_of_suc-le-suc h)

  -- one value more
  pub tabulate_suc : (n : ℕ) (f : ℕ → A) → tabulate (suc n) f ≡ tabulate n f ++ (f n ∷ [])
  unfolding tabulate
  tabulate_suc zero f = refl
  tabulate_suc (suc n) f = ap (λ (xs : List A). f zero ∷ xs) (tabulate_suc n (λ i. f (suc i)))

-- its entries, and 0 beyond the last
pub tabulate_or : (last : ℕ) (f : ℕ → ℕ) (k : ℕ) → get_or (tabulate (suc last) f) k 0 ≡ cond (leb k last) (f k) 0
tabulate_or last f k = cases (below_or_above k (suc last))
  where
    cases : (k < suc last) ⊎ (suc last ≤ k) → get_or (tabulate (suc last) f) k 0 ≡ cond (leb k last) (f k) 0
    cases (inl l) = tabulate_at (suc last) f k 0 l ∙ simp (le-leb k last (omega arith))
    cases (inr l) = get_or-eq_default (tabulate (suc last) f) 0 (rw (tabulate_length (suc last) f) l) ∙ simp (lt-leb k last (omega arith))

-- A list that a loop fills from the front with f: the first n are new, the rest is as it was.
module _ {A : Type 0} (f : ℕ → A) (xs : List A) where
  abbrev pub filled : ℕ → List A
  filled n = tabulate n f ++ drop n xs

  pub filled_none : xs ≡ filled 0
  unfolding tabulate
  filled_none = refl

  pub filled_more : (n : ℕ) (v : A) → n < length xs → v ≡ f n → set (filled n) n v ≡ filled (n + 1)
  filled_more n v h e =
      ap (λ (ys : List A). set (tabulate n f ++ ys) n v) (drop-cons xs n v h)
      ∙ subst (λ (k : ℕ). set (tabulate n f ++ (get_or xs n v ∷ drop (suc n) xs)) k v ≡ tabulate n f ++ (v ∷ drop (suc n) xs)) (tabulate_length n f)
      (set-append_seam (tabulate n f) (get_or xs n v) (drop (suc n) xs) v)
      ∙ sym (append_snoc (tabulate n f) v (drop (suc n) xs))
      ∙ ap (λ (w : A). tabulate n f ++ (w ∷ []) ++ drop (suc n) xs) e
      ∙ ap (λ (ys : List A). ys ++ drop (suc n) xs) (sym (tabulate_suc n f))
      ∙ ap filled (sym (add-one n))

  pub filled_all : (n : ℕ) → length xs ≤ n → filled n ≡ tabulate n f
  filled_all n h = ap (λ (ys : List A). tabulate n f ++ ys) (drop_of_length-le xs h) ∙ append-nil (tabulate n f)

  -- what a turn of the loop does, and what the loop leaves
  pub filled_again : (n : ℕ) (v : A) (now : List A) → now ≡ filled n → n < length xs → v ≡ f n → set now n v ≡ filled (n + 1)
  filled_again n v now e h k = ap (λ (ys : List A). set ys n v) e ∙ filled_more n v h k

  pub filled_end : (n m : ℕ) (now : List A) → now ≡ filled n → n ≤ m → m ≤ n → length xs ≡ m → now ≡ tabulate m f
  filled_end n m now e up down len =
      e ∙ ap filled (le_antisymm up down) ∙ filled_all m (le_of_eq len)

  pub filled_from : (n j : ℕ) (d : A) → n ≤ j → get_or (filled n) j d ≡ get_or xs j d
  filled_from n j d h =
      let k : ℕ = j - n in
      let split : j ≡ n + k = sym (add-sub_of_le h) in
      ap (λ (i : ℕ). get_or (filled n) i d) (split ∙ ap (λ (m : ℕ). m + k) (sym (tabulate_length n f)))
      ∙ get_or-append-add (tabulate n f) (drop n xs) k d ∙ get_or-drop n xs k d ∙ ap (λ (i : ℕ). get_or xs i d) (sym split)

  pub filled_length : (n : ℕ) → n ≤ length xs → length (filled n) ≡ length xs
  filled_length n h =
      length-append (tabulate n f) (drop n xs) ∙ ap₂ (λ (a b : ℕ). a + b) (tabulate_length n f) (length-drop n xs) ∙ add-sub_of_le h

-- for a loop that writes one entry after the other
pub ruleset filling = (filled_none, filled_again, filled_end)

-- a list is decided by its length and its entries
pub tabulate_unique : {A : Type 0} (n : ℕ) (f : ℕ → A) (xs : List A) (d : A) → length xs ≡ n → ((j : ℕ) → j < n → get_or xs j d ≡ f j) → xs ≡ tabulate n f
tabulate_unique n f xs d len same =
    ext_get_or d xs (tabulate n f) (len ∙ sym (tabulate_length n f)) (λ j h.
    let below : j < n = rw len at h in same j below ∙ sym (tabulate_at n f j d below))

-- a list that is filled up to where f is what stood there
pub filled_rest : (f : ℕ → ℕ) (xs : List ℕ) (n m : ℕ) → length xs ≡ m → n ≤ m → ((j : ℕ) → n ≤ j → j < m → f j ≡ get_or xs j 0) → filled f xs n ≡ tabulate m f
filled_rest f xs n m len few rest =
    tabulate_unique m f (filled f xs n) 0 (filled_length f xs n (rw len few) ∙ len) (λ j h. cases j h (below_or_above j n))
  where
    cases : (j : ℕ) → j < m → (j < n) ⊎ (n ≤ j) → get_or (filled f xs n) j 0 ≡ f j
    cases j h (inl l) =
        get_or-append (tabulate n f) (drop n xs) 0 j (rw (tabulate_length n f) l) ∙ tabulate_at n f j 0 l
    cases j h (inr l) = filled_from f xs n j 0 l ∙ sym (rest j l h)

-- two functions whose tables are the same agree below their length: one computed test for all entries
pub tabulate_agree : {A : Type 0} (n : ℕ) (f g : ℕ → A) → tabulate n f ≡ tabulate n g → (k : ℕ) → k < n → f k ≡ g k
tabulate_agree {A} n f g same k h =
    sym (tabulate_at n f k (f k) h) ∙ ap (λ (xs : List A). get_or xs k (f k)) same ∙ tabulate_at n g k (f k) h

-- the tables of two functions that agree are the same
pub tabulate_same : {A : Type 0} (n : ℕ) (f g : ℕ → A) → ((k : ℕ) → k < n → f k ≡ g k) → tabulate n f ≡ tabulate n g
tabulate_same n f g same =
    tabulate_unique n g (tabulate n f) (f 0) (tabulate_length n f) (λ k h. tabulate_at n f k (f 0) h ∙ same k h)

-- the first values of a longer table
pub take_tabulate : {A : Type 0} (n m : ℕ) (f : ℕ → A) → n ≤ m → take n (tabulate m f) ≡ tabulate n f
unfolding tabulate
take_tabulate {A} zero m f h = refl
take_tabulate {A} (suc n) zero f h = absurd (not-suc-le-zero h)
take_tabulate {A} (suc n) (suc m) f h = ap (λ (l : List A). f 0 ∷ l) (take_tabulate n m (λ i. f (suc i)) (le_of_suc-le-suc h))

-- no value of a function is over a bound, and none of its table
pub tabulate_few : (n : ℕ) (f : ℕ → ℕ) (most : ℕ) → ((i : ℕ) → f i ≤ most) → NoneOver most (tabulate n f)
tabulate_few n f most few i = cases (below_or_above i n)
  where
    cases : (i < n) ⊎ (n ≤ i) → get_or (tabulate n f) i 0 ≤ most
    cases (inl l) = le_trans (le_of_eq (tabulate_at n f i 0 l)) (few i)
    cases (inr l) = le_trans (le_of_eq (get_or-eq_default (tabulate n f) 0 (rw (tabulate_length n f) l))) zero-le
