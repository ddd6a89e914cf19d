-- Laws of sums over lists and over the numbers below a bound: sums of equal, of larger, of added and of multiplied terms, sums over joined
-- lists and ranges, two sums exchanged, and parts of a sum. Assumes nothing.
use mathlib.Core.Path.{◌≡◌, refl, sym, ap, ap₂, ◌∙◌}
use mathlib.Core.Bool.{Bool, true, false, ◌&&◌, ◌||◌}
use mathlib.Core.List.{List, [], ◌∷◌, ◌++◌, map, flat_map, Memᴰ}
use mathlib.Core.Logic.{◌⊎◌, inl, inr}
use Prim.Native.Nat.{ℕ, zero, suc, ◌+◌, ◌-◌, ◌*◌, ◌^◌, ◌≤◌, ◌<◌}
use native.Mathlib.Nat.{le_trans, le_of_eq, le_of_suc-le-suc, eq-or-lt_of_le, add-zero, zero-add, add-suc, add_assoc, mul-zero, mul-add, mul_comm, two-pow-succ, le_refl, le_step, lt-suc_self, add-le-add, add_comm, sub-zero, suc-sub-suc}
use native.Mathlib.Numerals.{add-one}
use native.Mathlib.Omega.{arith}
use lib.Arith.{le-zero}
use lib.Dec.{leb, ltb, eqb, leb-zero, leb-suc-zero, leb-suc-suc, eqb-zero-suc, eqb-suc-zero, eqb-suc-suc}
use lib.ListN.{length}
use Rattle.theory_sums.specs.Sums.{indicator, sum, how_many, some, sum_below}

-- ---- over a list

module _ {A : Type 0} where
  pub sum_same : (f g : A → ℕ) (xs : List A) → ((x : A) → Memᴰ x xs → f x ≡ g x) → sum f xs ≡ sum g xs
  unfolding sum
  sum_same f g [] h = refl
  sum_same f g (x ∷ xs) h = ap₂ (λ (u v : ℕ). u + v) (h x (Memᴰ.head refl)) (sum_same f g xs (λ y m. h y (Memᴰ.tail m)))

  pub sum_le : (f g : A → ℕ) (xs : List A) → ((x : A) → Memᴰ x xs → f x ≤ g x) → sum f xs ≤ sum g xs
  unfolding sum
  sum_le f g [] h = le_refl 0
  sum_le f g (x ∷ xs) h = add-le-add (h x (Memᴰ.head refl)) (sum_le f g xs (λ y m. h y (Memᴰ.tail m)))

  pub sum_append : (f : A → ℕ) (xs ys : List A) → sum f (xs ++ ys) ≡ sum f xs + sum f ys
  unfolding sum
  sum_append f [] ys = sym (zero-add (sum f ys))
  sum_append f (x ∷ xs) ys = ap (λ (u : ℕ). f x + u) (sum_append f xs ys) ∙ omega arith

  pub sum_add : (f g : A → ℕ) (xs : List A) → sum (λ x. f x + g x) xs ≡ sum f xs + sum g xs
  unfolding sum
  sum_add f g [] = refl
  sum_add f g (x ∷ xs) = ap (λ (u : ℕ). f x + g x + u) (sum_add f g xs) ∙ omega arith

  pub sum_zero : (xs : List A) → sum (λ x. 0) xs ≡ 0
  unfolding sum
  sum_zero [] = refl
  sum_zero (x ∷ xs) = ap (λ (u : ℕ). 0 + u) (sum_zero xs)

  pub sum_ones : (xs : List A) → sum (λ x. 1) xs ≡ length xs
  unfolding sum
  sum_ones [] = refl
  sum_ones (x ∷ xs) = ap (λ (u : ℕ). 1 + u) (sum_ones xs) ∙ omega arith

  -- where at most one entry passes a test, some entry passes it and another exactly if one does
  pub some_is_how_many : (p q : A → Bool) (xs : List A) → how_many p xs ≤ 1 → indicator (some (λ x. p x && q x) xs) ≡ how_many (λ x. p x && q x) xs
  unfolding sum some
  some_is_how_many p q [] h = refl
  some_is_how_many p q (x ∷ xs) h = cases (p x) (q x) h (some_is_how_many p q xs)
    where
      later : ℕ
      later = how_many (λ y. p y && q y) xs

      fewer : (a b : Bool) → indicator (a && b) ≤ indicator a
      fewer true true = le_refl 1
      fewer true false = omega arith
      fewer false b = le_refl 0

      later_fewer : later ≤ how_many p xs
      later_fewer = sum_le (λ y. indicator (p y && q y)) (λ y. indicator (p y)) xs (λ y m. fewer (p y) (q y))

      cases : (a b : Bool) → indicator a + how_many p xs ≤ 1 → (how_many p xs ≤ 1 → indicator (some (λ y. p y && q y) xs) ≡ later)
          → indicator (a && b || some (λ y. p y && q y) xs) ≡ indicator (a && b) + later
      cases true true k ih = omega (arith, later_fewer)
      cases true false k ih = ih (omega arith) ∙ sym (zero-add later)
      cases false b k ih = ih (omega arith) ∙ sym (zero-add later)

  -- no entry passes a test
  pub some_none : (test : A → Bool) (xs : List A) → ((x : A) → test x ≡ false) → some test xs ≡ false
  unfolding some
  some_none test [] h = refl
  some_none test (x ∷ xs) h = ap₂ (λ (p q : Bool). p || q) (h x) (some_none test xs h)

module _ {A B : Type 0} where
  pub sum_map : (f : B → ℕ) (g : A → B) (xs : List A) → sum f (map g xs) ≡ sum (λ x. f (g x)) xs
  unfolding sum
  sum_map f g [] = refl
  sum_map f g (x ∷ xs) = ap (λ (u : ℕ). f (g x) + u) (sum_map f g xs)

  pub sum_flat_map : (f : B → ℕ) (g : A → List B) (xs : List A) → sum f (flat_map g xs) ≡ sum (λ x. sum f (g x)) xs
  unfolding sum flat_map
  sum_flat_map f g [] = refl
  sum_flat_map f g (x ∷ xs) = sum_append f (g x) (flat_map g xs) ∙ ap (λ (u : ℕ). sum f (g x) + u) (sum_flat_map f g xs)

-- ---- over the numbers below a bound

pub sum_below_same : (f g : ℕ → ℕ) (k : ℕ) → ((i : ℕ) → i < k → f i ≡ g i) → sum_below f k ≡ sum_below g k
unfolding sum_below
sum_below_same f g zero h = refl
sum_below_same f g (suc k) h = ap₂ (λ (u v : ℕ). u + v) (sum_below_same f g k (λ i l. h i (le_step l))) (h k (lt-suc_self k))

pub sum_below_le : (f g : ℕ → ℕ) (k : ℕ) → ((i : ℕ) → i < k → f i ≤ g i) → sum_below f k ≤ sum_below g k
unfolding sum_below
sum_below_le f g zero h = le_refl 0
sum_below_le f g (suc k) h = add-le-add (sum_below_le f g k (λ i l. h i (le_step l))) (h k (lt-suc_self k))

pub sum_below_zero : (k : ℕ) → sum_below (λ i. 0) k ≡ 0
unfolding sum_below
sum_below_zero zero = refl
sum_below_zero (suc k) = ap (λ (u : ℕ). u + 0) (sum_below_zero k)

pub sum_below_ones : (k : ℕ) → sum_below (λ i. 1) k ≡ k
unfolding sum_below
sum_below_ones zero = refl
sum_below_ones (suc k) = ap (λ (u : ℕ). u + 1) (sum_below_ones k) ∙ add-one k

-- no more numbers below k pass a test than there are
pub few_tests : (test : ℕ → Bool) (k : ℕ) → sum_below (λ i. indicator (test i)) k ≤ k
few_tests test k = le_trans (sum_below_le (λ i. indicator (test i)) (λ i. 1) k (λ i h. most (test i))) (le_of_eq (sum_below_ones k))
  where
    most : (t : Bool) → indicator t ≤ 1
    most true = le_refl 1
    most false = omega arith

pub sum_below_add : (f g : ℕ → ℕ) (k : ℕ) → sum_below (λ i. f i + g i) k ≡ sum_below f k + sum_below g k
unfolding sum_below
sum_below_add f g zero = refl
sum_below_add f g (suc k) = ap (λ (u : ℕ). u + (f k + g k)) (sum_below_add f g k) ∙ omega arith

pub sum_below_mul : (c : ℕ) (f : ℕ → ℕ) (k : ℕ) → sum_below (λ i. c * f i) k ≡ c * sum_below f k
unfolding sum_below
sum_below_mul c f zero = sym (mul-zero c)
sum_below_mul c f (suc k) = ap (λ (u : ℕ). u + c * f k) (sum_below_mul c f k) ∙ sym (mul-add c (sum_below f k) (f k))

pub sum_below_append : (f : ℕ → ℕ) (k l : ℕ) → sum_below f (k + l) ≡ sum_below f k + sum_below (λ i. f (k + i)) l
unfolding sum_below
sum_below_append f k zero = ap (sum_below f) (add-zero k) ∙ sym (add-zero (sum_below f k))
sum_below_append f k (suc l) =
    ap (sum_below f) (add-suc k l) ∙ ap (λ (u : ℕ). u + f (k + l)) (sum_below_append f k l)
    ∙ add_assoc (sum_below f k) (sum_below (λ i. f (k + i)) l) (f (k + l))

-- the first term apart
pub sum_below_first : (f : ℕ → ℕ) (k : ℕ) → sum_below f (suc k) ≡ f 0 + sum_below (λ i. f (suc i)) k
unfolding sum_below
sum_below_first f zero = omega arith
sum_below_first f (suc k) = ap (λ (u : ℕ). u + f (suc k)) (sum_below_first f k) ∙ omega arith

-- the terms in the opposite order
pub sum_below_reversed : (f : ℕ → ℕ) (d : ℕ) → sum_below (λ i. f (d - i)) (suc d) ≡ sum_below f (suc d)
unfolding sum_below
sum_below_reversed f zero = ap (λ (u : ℕ). 0 + u) (ap f (sub-zero 0))
sum_below_reversed f (suc d) =
    sum_below_first (λ i. f (suc d - i)) (suc d)
    ∙ ap₂ (λ (u v : ℕ). u + v) (ap f (sub-zero (suc d)))
    (sum_below_same _ (λ i. f (d - i)) (suc d) (λ i l. ap f (suc-sub-suc d i)) ∙ sum_below_reversed f d)
    ∙ add_comm (f (suc d)) (sum_below f (suc d))

pub sum_below_exchange : (f : ℕ → ℕ → ℕ) (k l : ℕ) → sum_below (λ i. sum_below (f i) l) k ≡ sum_below (λ j. sum_below (λ i. f i j) k) l
unfolding sum_below
sum_below_exchange f zero l = sym (sum_below_zero l)
sum_below_exchange f (suc k) l =
    ap (λ (u : ℕ). u + sum_below (f k) l) (sum_below_exchange f k l) ∙ sym (sum_below_add (λ j. sum_below (λ i. f i j) k) (f k) l)

-- a sum over a list and one over the numbers below a bound, exchanged
pub sum_below_lem : {A : Type 0} (f : ℕ → A → ℕ) (k : ℕ) (xs : List A) → sum_below (λ i. sum (f i) xs) k ≡ sum (λ x. sum_below (λ i. f i x) k) xs
unfolding sum_below
sum_below_lem f zero xs = sym (sum_zero xs)
sum_below_lem f (suc k) xs = ap (λ (u : ℕ). u + sum (f k) xs) (sum_below_lem f k xs) ∙ sym (sum_add (λ x. sum_below (λ i. f i x) k) (f k) xs)

less_or_same : (i k : ℕ) → indicator (ltb i k) + indicator (eqb i k) ≡ indicator (leb i k)
less_or_same zero zero = refl
less_or_same zero (suc k) = rw (leb-suc-suc 0 k, leb-zero k, eqb-zero-suc k, leb-zero (suc k))
less_or_same (suc i) zero = rw (leb-suc-zero (suc i), eqb-suc-zero i, leb-suc-zero i)
less_or_same (suc i) (suc k) = rw (leb-suc-suc (suc i) k, eqb-suc-suc i k, leb-suc-suc i k) (less_or_same i k)

-- a number is met once below a bound that is above it, and else not at all
pub sum_below_once : (i k : ℕ) → sum_below (λ j. indicator (eqb i j)) k ≡ indicator (ltb i k)
unfolding sum_below
sum_below_once i zero = ap indicator (sym (leb-suc-zero i))
sum_below_once i (suc k) =
    ap (λ (u : ℕ). u + indicator (eqb i k)) (sum_below_once i k) ∙ less_or_same i k ∙ ap indicator (sym (leb-suc-suc i k))

-- two sums exchanged where one factor goes by the inner number alone
pub sum_below_weights : (p : ℕ → ℕ → ℕ) (f : ℕ → ℕ) (k l : ℕ)
    → sum_below (λ i. sum_below (λ j. p i j * f j) l) k ≡ sum_below (λ j. sum_below (λ i. p i j) k * f j) l
sum_below_weights p f k l =
    sum_below_exchange (λ i j. p i j * f j) k l
    ∙ sum_below_same (λ j. sum_below (λ i. p i j * f j) k) (λ j. sum_below (λ i. p i j) k * f j) l (λ j h.
    sum_below_same (λ i. p i j * f j) (λ i. f j * p i j) k (λ i m. mul_comm (p i j) (f j))
    ∙ sum_below_mul (f j) (λ i. p i j) k ∙ mul_comm (f j) (sum_below (λ i. p i j) k))

-- the masks of n + 1 parts: those of n parts, without and with the last part
pub sum_below_masks : (f : ℕ → ℕ) (n : ℕ) → sum_below f (2 ^ suc n) ≡ sum_below f (2 ^ n) + sum_below (λ a. f (a + 2 ^ n)) (2 ^ n)
sum_below_masks f n =
    ap (sum_below f) (two-pow-succ n) ∙ sum_below_append f (2 ^ n) (2 ^ n)
    ∙ ap (λ (u : ℕ). sum_below f (2 ^ n) + u)
    (sum_below_same (λ i. f (2 ^ n + i)) (λ a. f (a + 2 ^ n)) (2 ^ n) (λ i h. ap f (add_comm (2 ^ n) i)))

-- a sum over the masks of n + 1 parts, if what it has for a mask of n parts, without and with the last part, is known
pub sum_below_halves : (f g : ℕ → ℕ) (n : ℕ) → ((a : ℕ) → a < 2 ^ n → g a ≡ f a + f (a + 2 ^ n)) → sum_below g (2 ^ n) ≡ sum_below f (2 ^ suc n)
sum_below_halves f g n h =
    sum_below_same g (λ a. f a + f (a + 2 ^ n)) (2 ^ n) h ∙ sum_below_add f (λ a. f (a + 2 ^ n)) (2 ^ n) ∙ sym (sum_below_masks f n)

-- ---- a part of a sum is no more than the whole

pub sum_below_prefix : (f : ℕ → ℕ) (t k : ℕ) → t ≤ k → sum_below f t ≤ sum_below f k
unfolding sum_below
sum_below_prefix f t zero h = rw (le-zero h) (le_refl 0)
sum_below_prefix f t (suc k) h = cases (eq-or-lt_of_le h) (sum_below_prefix f t k)
  where
    cases : (t ≡ suc k) ⊎ (t < suc k) → (t ≤ k → sum_below f t ≤ sum_below f k) → sum_below f t ≤ sum_below f k + f k
    cases (inl e) ih = rw e (le_refl (sum_below f k + f k))
    cases (inr l) ih = omega (arith, ih (le_of_suc-le-suc l))

pub sum_below_term : (f : ℕ → ℕ) (i k : ℕ) → i < k → f i ≤ sum_below f k
unfolding sum_below
sum_below_term f i k h = le_trans (let one : f i ≤ sum_below f i + f i = omega arith in one) (sum_below_prefix f (suc i) k h)
