-- Laws of the entries of a list that pass a test: which are kept, whether all of them pass, and whether some do; and of one test after another.
-- Assumes nothing.
use mathlib.Core.Path.{◌≡◌, refl, sym, ap, ap₂, ◌∙◌}
use mathlib.Core.Bool.{Bool, true, false, not, cond, ◌&&◌, ◌||◌}
use mathlib.Core.List.Memᴰ
use mathlib.Core.List.{List, [], ◌∷◌, map, Memᴰ}
use mathlib.Core.Logic.{◌⊎◌, inl, inr}
use Prim.Native.Nat.{◌≤◌}
use native.Mathlib.Omega.{arith}
use lib.ListN.{length}
use Rattle.theory_sums.specs.Sums.{some}
use Rattle.numbers.proofs.Bools.{and_left, and_right, and_both, or_cases, or_left, or_right, clash}
use Rattle.record_lines.specs.Changes.{keep, every}

module _ {A : Type 0} (test : A → Bool) where
  -- what is kept is one of the list and passes
  pub keep_elim : (xs : List A) {a : A} → Memᴰ a (keep test xs) → Memᴰ a xs × (test a ≡ true)
  keep_elim [] m = absurd (Memᴰ.not-nil m)
  keep_elim (x ∷ xs) {a} m = cases (test x) refl (keep_elim xs) m
    where
      cases : (p : Bool) → test x ≡ p → (Memᴰ a (keep test xs) → Memᴰ a xs × (test a ≡ true)) → Memᴰ a (cond p (x ∷ keep test xs) (keep test xs))
          → Memᴰ a (x ∷ xs) × (test a ≡ true)
      cases true h rest m = first (Memᴰ.cases_cons m)
        where
          first : (a ≡ x) ⊎ Memᴰ a (keep test xs) → Memᴰ a (x ∷ xs) × (test a ≡ true)
          first (inl e) = (Memᴰ.head e, ap test e ∙ h)
          first (inr later) = let found = rest later in (Memᴰ.tail found.0, found.1)
      cases false h rest m = let found = rest m in (Memᴰ.tail found.0, found.1)

  -- no more are kept than there are
  pub keep_fewer : (xs : List A) → length (keep test xs) ≤ length xs
  keep_fewer [] = omega arith
  keep_fewer (x ∷ xs) = cases (test x) (keep_fewer xs)
    where
      cases : (p : Bool) → length (keep test xs) ≤ length xs → length (cond p (x ∷ keep test xs) (keep test xs)) ≤ length (x ∷ xs)
      cases true rest = omega arith
      cases false rest = omega arith

  -- where not every one fails the other test, one is kept
  pub keep_some : (xs : List A) → every (λ x. not (test x)) xs ≡ false → 1 ≤ length (keep test xs)
  keep_some [] h = clash {p = true} refl h
  keep_some (x ∷ xs) h = cases (test x) (keep_some xs) h
    where
      cases : (p : Bool) → (every (λ x. not (test x)) xs ≡ false → 1 ≤ length (keep test xs)) → not p && every (λ x. not (test x)) xs ≡ false
          → 1 ≤ length (cond p (x ∷ keep test xs) (keep test xs))
      cases true rest h = omega arith
      cases false rest h = rest h

  pub every_intro : (xs : List A) → ((a : A) → Memᴰ a xs → test a ≡ true) → every test xs ≡ true
  every_intro [] h = refl
  every_intro (x ∷ xs) h = and_both (h x (Memᴰ.head refl)) (every_intro xs (λ a m. h a (Memᴰ.tail m)))

  pub every_elim : (xs : List A) → every test xs ≡ true → {a : A} → Memᴰ a xs → test a ≡ true
  every_elim [] h m = absurd (Memᴰ.not-nil m)
  every_elim (x ∷ xs) h {a} m = cases (Memᴰ.cases_cons m) (every_elim xs (and_right (test x) (every test xs) h))
    where
      cases : (a ≡ x) ⊎ Memᴰ a xs → (Memᴰ a xs → test a ≡ true) → test a ≡ true
      cases (inl e) rest = ap test e ∙ and_left (test x) (every test xs) h
      cases (inr later) rest = rest later

  -- where not every one passes, one fails
  pub every_fails : (xs : List A) → every test xs ≡ false → (a : A) × Memᴰ a xs × (test a ≡ false)
  every_fails [] h = clash {p = true} refl h
  every_fails (x ∷ xs) h = cases (test x) refl h (every_fails xs)
    where
      cases : (p : Bool) → test x ≡ p → p && every test xs ≡ false → (every test xs ≡ false → (a : A) × Memᴰ a xs × (test a ≡ false))
          → (a : A) × Memᴰ a (x ∷ xs) × (test a ≡ false)
      cases true e h rest = let found = rest h in (found.0, Memᴰ.tail found.1, found.2)
      cases false e h rest = (x, Memᴰ.head refl, e)

  pub some_intro : (xs : List A) {a : A} → Memᴰ a xs → test a ≡ true → some test xs ≡ true
  unfolding some
  some_intro [] m h = absurd (Memᴰ.not-nil m)
  some_intro (x ∷ xs) {a} m h = cases (Memᴰ.cases_cons m) (λ later. some_intro xs later h)
    where
      cases : (a ≡ x) ⊎ Memᴰ a xs → (Memᴰ a xs → some test xs ≡ true) → test x || some test xs ≡ true
      cases (inl e) rest = or_left (some test xs) (ap test (sym e) ∙ h)
      cases (inr later) rest = or_right (test x) (rest later)

  pub some_elim : (xs : List A) → some test xs ≡ true → (a : A) × Memᴰ a xs × (test a ≡ true)
  unfolding some
  some_elim [] h = clash {p = true} refl (sym h)
  some_elim (x ∷ xs) h = cases (or_cases (test x) (some test xs) h) (some_elim xs)
    where
      cases : (test x ≡ true) ⊎ (some test xs ≡ true) → (some test xs ≡ true → (a : A) × Memᴰ a xs × (test a ≡ true)) → (a : A) × Memᴰ a (x ∷ xs) × (test a ≡ true)
      cases (inl here) rest = (x, Memᴰ.head refl, here)
      cases (inr later) rest = let found = rest later in (found.0, Memᴰ.tail found.1, found.2)

-- tests that agree on the entries keep the same ones
pub keep_same : {A : Type 0} (f g : A → Bool) (xs : List A) → ((a : A) → Memᴰ a xs → f a ≡ g a) → keep f xs ≡ keep g xs
keep_same f g [] h = refl
keep_same {A} f g (x ∷ xs) h =
    ap₂ (λ (p : Bool) (rest : List A). cond p (x ∷ rest) rest) (h x (Memᴰ.head refl)) (keep_same f g xs (λ a m. h a (Memᴰ.tail m)))

-- ---- one test after another

module _ {A : Type 0} where
  -- what is kept of what was kept passes both tests
  pub keep_keep : (f g : A → Bool) (xs : List A) → keep f (keep g xs) ≡ keep (λ x. g x && f x) xs
  keep_keep f g [] = refl
  keep_keep f g (x ∷ xs) = cases (g x) (keep_keep f g xs)
    where
      cases : (p : Bool) → keep f (keep g xs) ≡ keep (λ x. g x && f x) xs → keep f (cond p (x ∷ keep g xs) (keep g xs)) ≡ cond (p && f x) (x ∷ keep (λ x. g x && f x) xs) (keep (λ x. g x && f x) xs)
      cases true later = ap (λ (l : List A). cond (f x) (x ∷ l) l) later
      cases false later = later

  -- and every one of what fails a test passes another exactly if every one passes either
  pub every_kept : (f g : A → Bool) (xs : List A) → every f (keep (λ x. not (g x)) xs) ≡ every (λ x. g x || f x) xs
  every_kept f g [] = refl
  every_kept f g (x ∷ xs) = cases (g x) (every_kept f g xs)
    where
      kept : List A
      kept = keep (λ x. not (g x)) xs

      cases : (p : Bool) → every f kept ≡ every (λ x. g x || f x) xs → every f (cond (not p) (x ∷ kept) kept) ≡ (p || f x) && every (λ x. g x || f x) xs
      cases true later = later
      cases false later = ap (λ (q : Bool). f x && q) later

  -- what passes is kept
  pub keep_intro : (f : A → Bool) (xs : List A) {a : A} → Memᴰ a xs → f a ≡ true → Memᴰ a (keep f xs)
  keep_intro f [] m h = absurd (Memᴰ.not-nil m)
  keep_intro f (x ∷ xs) {a} m h = cases (f x) refl (Memᴰ.cases_cons m) (λ later. keep_intro f xs later h)
    where
      cases : (p : Bool) → f x ≡ p → (a ≡ x) ⊎ Memᴰ a xs → (Memᴰ a xs → Memᴰ a (keep f xs)) → Memᴰ a (cond p (x ∷ keep f xs) (keep f xs))
      cases true e (inl same) later = Memᴰ.head same
      cases true e (inr m) later = Memᴰ.tail (later m)
      cases false e (inl same) later = clash h (ap f same ∙ e)
      cases false e (inr m) later = later m

  -- a test that all pass keeps all
  pub keep_all : (xs : List A) → keep (λ x. true) xs ≡ xs
  keep_all [] = refl
  keep_all (x ∷ xs) = ap (λ (l : List A). x ∷ l) (keep_all xs)

  pub every_same : (f g : A → Bool) (xs : List A) → ((a : A) → Memᴰ a xs → f a ≡ g a) → every f xs ≡ every g xs
  every_same f g [] h = refl
  every_same f g (x ∷ xs) h = ap₂ (λ (p q : Bool). p && q) (h x (Memᴰ.head refl)) (every_same f g xs (λ a m. h a (Memᴰ.tail m)))

pub every_map : {A B : Type 0} (f : B → Bool) (g : A → B) (xs : List A) → every f (map g xs) ≡ every (λ x. f (g x)) xs
every_map f g [] = refl
every_map f g (x ∷ xs) = ap (λ (q : Bool). f (g x) && q) (every_map f g xs)
