-- `orders n` is what it says: a list that holds each of the positions 1 to n once occurs there exactly once, nothing else occurs there, and
-- there are n! of them. Assumes nothing.
use mathlib.Core.Path.{◌≡◌, refl, sym, ap, ap₂, ◌∙◌}
use mathlib.Core.Bool.{Bool, true, false, cond, ◌&&◌, and-false}
use mathlib.Core.List.Memᴰ
use mathlib.Core.List.{List, [], ◌∷◌, map, flat_map, Memᴰ}
use mathlib.Core.Logic.{◌⊎◌, inl, inr}
use Prim.Native.Nat.{ℕ, zero, suc, ◌+◌, ◌*◌, ◌<◌}
use native.Mathlib.Nat.{add-zero, zero-add, add_left_comm, mul-one, le_refl}
use native.Mathlib.Omega.{arith}
use lib.Dec.{eqb, leb, eqb-zero-suc, eqb-suc-zero, eqb-suc-suc, leb-suc-suc, leb-zero}
use lib.ListN.{length}
use borrow.Author.Tests.{eqb-true, eq-eqb, lt-leb}
use Rattle.numbers.specs.Counts.{factorial}
use Rattle.theory_sums.specs.Sums.{indicator, sum, how_many, sum_below}
use Rattle.theory_sums.proofs.Sums.{sum_same, sum_map, sum_flat_map, sum_zero, sum_ones, sum_below_same, sum_below_zero, sum_below_once}
use Rattle.numbers.proofs.Bools.{and_left, and_right, clash, true_or_false}
use Rattle.theory_orders.specs.Orders.{is_position, times, IsOrder, inserted, orders, same}

-- ---- one position more

-- whatever depends on the length of a list and on a sum over it, summed over the lists with one position more
pub sum_inserted : (f : ℕ → ℕ → ℕ) (w : ℕ → ℕ) (i : ℕ) (list : List ℕ)
    → sum (λ l. f (length l) (sum w l)) (inserted i list) ≡ suc (length list) * f (suc (length list)) (w i + sum w list)
unfolding sum inserted
sum_inserted f w i [] = omega arith
sum_inserted f w i (j ∷ rest) =
    ap (λ (u : ℕ). f (suc (suc (length rest))) (w i + (w j + sum w rest)) + u)
    (sum_map (λ l. f (length l) (sum w l)) (λ list. j ∷ list) (inserted i rest)
    ∙ sum_inserted (λ n s. f (suc n) (w j + s)) w i rest
    ∙ ap (λ (u : ℕ). suc (length rest) * f (suc (suc (length rest))) u) (add_left_comm (w j) (w i) (sum w rest)))
    ∙ omega arith

-- ---- there are n! orders

sum_orders : (f : ℕ → ℕ) (n : ℕ) → sum (λ order. f (length order)) (orders n) ≡ factorial n * f n
unfolding orders sum factorial flat_map
sum_orders f zero = omega arith
sum_orders f (suc n) =
    sum_flat_map (λ order. f (length order)) (inserted (suc n)) (orders n)
    ∙ sum_same (λ order. sum (λ l. f (length l)) (inserted (suc n) order)) (λ order. suc (length order) * f (suc (length order))) (orders n)
    (λ order m. sum_inserted (λ l s. f l) (λ i. 0) (suc n) order)
    ∙ sum_orders (λ l. suc l * f (suc l)) n
    ∙ omega arith

pub orders_length : (n : ℕ) → length (orders n) ≡ factorial n
orders_length n = sym (sum_ones (orders n)) ∙ sum_orders (λ l. 1) n ∙ mul-one (factorial n)

-- ---- nothing else is an order

sum_of_inserted : (w : ℕ → ℕ) (i : ℕ) (list : List ℕ) (l : List ℕ) → Memᴰ l (inserted i list) → sum w l ≡ w i + sum w list
unfolding sum inserted
sum_of_inserted w i [] l m = ap (sum w) (Memᴰ.eq_of_singleton m)
sum_of_inserted w i (j ∷ rest) l m = cases (Memᴰ.cases_cons m) (sum_of_inserted w i rest)
  where
    cases : (l ≡ i ∷ j ∷ rest) ⊎ Memᴰ l (map (λ list. j ∷ list) (inserted i rest))
        → ((t : List ℕ) → Memᴰ t (inserted i rest) → sum w t ≡ w i + sum w rest) → sum w l ≡ w i + (w j + sum w rest)
    cases (inl e) ih = ap (sum w) e
    cases (inr later) ih =
        let found = Memᴰ.of_map (λ (list : List ℕ). j ∷ list) (inserted i rest) later in
        ap (sum w) (sym found.2) ∙ ap (λ (u : ℕ). w j + u) (ih found.0 found.1) ∙ add_left_comm (w j) (w i) (sum w rest)

flat_map_cases : {A B : Type 0} (f : A → List B) (xs : List A) {y : B} → Memᴰ y (flat_map f xs) → (x : A) × Memᴰ x xs × Memᴰ y (f x)
unfolding flat_map
flat_map_cases f [] m = absurd (Memᴰ.not-nil m)
flat_map_cases {A} {B} f (x ∷ xs) {y} m = cases (Memᴰ.append_cases (f x) m) (flat_map_cases f xs)
  where
    cases : Memᴰ y (f x) ⊎ Memᴰ y (flat_map f xs) → (Memᴰ y (flat_map f xs) → (z : A) × Memᴰ z xs × Memᴰ y (f z))
        → (z : A) × Memᴰ z (x ∷ xs) × Memᴰ y (f z)
    cases (inl here) rest = (x, Memᴰ.head refl, here)
    cases (inr later) rest = let found = rest later in (found.0, Memᴰ.tail found.1, found.2)

-- every sum over an order is the sum over the positions
pub sum_of_order : (w : ℕ → ℕ) (n : ℕ) (order : List ℕ) → Memᴰ order (orders n) → sum w order ≡ sum_below (λ i. w (suc i)) n
unfolding orders sum sum_below
sum_of_order w zero order m = ap (sum w) (Memᴰ.eq_of_singleton m)
sum_of_order w (suc n) order m =
    let found = flat_map_cases (inserted (suc n)) (orders n) m in
    sum_of_inserted w (suc n) found.0 order found.2 ∙ ap (λ (u : ℕ). w (suc n) + u) (sum_of_order w n found.0 found.1) ∙ omega arith

position_once : (n i : ℕ) → sum_below (λ j. indicator (eqb i (suc j))) n ≡ indicator (is_position n i)
position_once n zero =
    sum_below_same (λ j. indicator (eqb 0 (suc j))) (λ j. 0) n (λ j h. ap indicator (eqb-zero-suc j)) ∙ sum_below_zero n
position_once n (suc i) =
    sum_below_same (λ j. indicator (eqb (suc i) (suc j))) (λ j. indicator (eqb i j)) n (λ j h. ap indicator (eqb-suc-suc i j))
    ∙ sum_below_once i n ∙ rw (leb-suc-suc 0 i, leb-zero i)

pub orders_only : (n : ℕ) (order : List ℕ) → Memᴰ order (orders n) → IsOrder n order
orders_only n order m i = sum_of_order (λ j. indicator (eqb i j)) n order m ∙ position_once n i

-- ---- each order is there once

pub eqb_comm : (a b : ℕ) → eqb a b ≡ eqb b a
eqb_comm zero zero = refl
eqb_comm zero (suc b) = eqb-zero-suc b ∙ sym (eqb-suc-zero b)
eqb_comm (suc a) zero = eqb-suc-zero a ∙ sym (eqb-zero-suc a)
eqb_comm (suc a) (suc b) = eqb-suc-suc a b ∙ eqb_comm a b ∙ sym (eqb-suc-suc b a)

-- a list without the first i in it
without : ℕ → List ℕ → List ℕ
without i [] = []
without i (j ∷ rest) = cond (eqb i j) rest (j ∷ without i rest)

times_without : (i : ℕ) (list : List ℕ) → times i list ≡ 1 → (j : ℕ) → times j list ≡ indicator (eqb j i) + times j (without i list)
unfolding without sum
times_without i [] h j = absurd (omega arith)
times_without i (y ∷ rest) h j = cases (eqb i y) refl h (times_without i rest)
  where
    cases : (b : Bool) → eqb i y ≡ b → indicator b + times i rest ≡ 1
        → (times i rest ≡ 1 → (x : ℕ) → times x rest ≡ indicator (eqb x i) + times x (without i rest))
        → indicator (eqb j y) + times j rest ≡ indicator (eqb j i) + times j (cond b rest (y ∷ without i rest))
    cases true e k ih = ap (λ (x : ℕ). indicator (eqb j x) + times j rest) (sym (eqb-true i y e))
    cases false e k ih = let later : times j rest ≡ indicator (eqb j i) + times j (without i rest) = ih (omega arith) j in omega arith

-- Of the lists with i put in, a list that holds i once is there as often as the list was the same without i.
inserted_once : (i : ℕ) (order list : List ℕ) → times i order ≡ 1 → times i list ≡ 0
    → how_many (same order) (inserted i list) ≡ indicator (same (without i order) list)
unfolding without sum inserted same
inserted_once i [] list h k = absurd (omega arith)
inserted_once i (x ∷ rest) [] h k = rw (eqb_comm x i) (cases (eqb i x))
  where
    cases : (b : Bool) → indicator (b && same rest []) + 0 ≡ indicator (same (cond b rest (x ∷ without i rest)) [])
    cases true = add-zero (indicator (same rest []))
    cases false = refl
inserted_once i (x ∷ rest) (y ∷ others) h k =
    rw (eqb_comm x i, sum_map (λ l. indicator (same (x ∷ rest) l)) (λ l. y ∷ l) (inserted i others))
    (cases (eqb i x) refl (eqb i y) refl (eqb x y) refl h k (inserted_once i rest others))
  where
    none : (b : Bool) → b ≡ false → sum (λ l. indicator (b && same rest l)) (inserted i others) ≡ 0
    none b e = rw e (sum_zero (inserted i others))

    cases : (b : Bool) → eqb i x ≡ b → (c : Bool) → eqb i y ≡ c → (d : Bool) → eqb x y ≡ d → indicator b + times i rest ≡ 1
        → indicator c + times i others ≡ 0
        → (times i rest ≡ 1 → times i others ≡ 0 → how_many (same rest) (inserted i others) ≡ indicator (same (without i rest) others))
        → indicator (b && same rest (y ∷ others)) + sum (λ l. indicator (d && same rest l)) (inserted i others)
        ≡ indicator (same (cond b rest (x ∷ without i rest)) (y ∷ others))
    cases true e c f true g p q ih =
        absurd (omega (arith, ap indicator (sym f ∙ eq-eqb i y (eqb-true i x e ∙ eqb-true x y g))))
    cases true e c f false g p q ih =
        ap (λ (u : ℕ). indicator (same rest (y ∷ others)) + u) (none false refl) ∙ add-zero (indicator (same rest (y ∷ others)))
    cases false e c f true g p q ih =
        zero-add (how_many (same rest) (inserted i others)) ∙ ih (omega arith) (omega arith) ∙ rw g
    cases false e c f false g p q ih = ap (λ (u : ℕ). 0 + u) (none false refl) ∙ rw g

-- one position more
position_suc : (n i : ℕ) → indicator (is_position (suc n) i) ≡ indicator (eqb i (suc n)) + indicator (is_position n i)
unfolding sum_below
position_suc n i = omega (arith, position_once n i, position_once (suc n) i)

pub orders_once : (n : ℕ) (order : List ℕ) → IsOrder n order → how_many (same order) (orders n) ≡ 1
unfolding orders sum sum_below same flat_map
orders_once zero [] h = refl
orders_once zero (x ∷ rest) h = absurd (omega (arith, h x, position_once 0 x, ap indicator (eq-eqb x x refl)))
orders_once (suc n) order h =
    let new : indicator (is_position n (suc n)) ≡ 0 = rw (lt-leb (suc n) n (le_refl (suc n)), and-false (leb 1 (suc n))) in
    let last : times (suc n) order ≡ 1 = omega (arith, h (suc n), position_suc n (suc n), ap indicator (eq-eqb (suc n) (suc n) refl)) in
    sum_flat_map (λ l. indicator (same order l)) (inserted (suc n)) (orders n)
    ∙ sum_same (λ list. how_many (same order) (inserted (suc n) list)) (λ list. indicator (same (without (suc n) order) list)) (orders n)
    (λ list m. inserted_once (suc n) order list last (orders_only n list m (suc n) ∙ new))
    ∙ orders_once n (without (suc n) order) (λ i. omega (arith, h i, times_without (suc n) order last i, position_suc n i))

same_is : (list other : List ℕ) → same list other ≡ true → list ≡ other
unfolding same
same_is [] [] h = refl
same_is [] (j ∷ others) h = clash h refl
same_is (i ∷ rest) [] h = clash h refl
same_is (i ∷ rest) (j ∷ others) h =
    ap₂ (λ (x : ℕ) (xs : List ℕ). x ∷ xs) (eqb-true i j (and_left (eqb i j) (same rest others) h))
    (same_is rest others (and_right (eqb i j) (same rest others) h))

how_many_found : {A : Type 0} (test : A → Bool) (xs : List A) → 0 < how_many test xs → (x : A) × Memᴰ x xs × (test x ≡ true)
unfolding sum
how_many_found test [] h = absurd (omega arith)
how_many_found {A} test (x ∷ xs) h = cases (true_or_false (test x)) (how_many_found test xs)
  where
    cases : (test x ≡ true) ⊎ (test x ≡ false) → (0 < how_many test xs → (y : A) × Memᴰ y xs × (test y ≡ true))
        → (y : A) × Memᴰ y (x ∷ xs) × (test y ≡ true)
    cases (inl t) rest = (x, Memᴰ.head refl, t)
    cases (inr f) rest =
        let found = rest (omega (arith, ap indicator f)) in
        (found.0, Memᴰ.tail found.1, found.2)

pub orders_all : (n : ℕ) (order : List ℕ) → IsOrder n order → Memᴰ order (orders n)
orders_all n order h =
    let found = how_many_found (same order) (orders n) (omega (arith, orders_once n order h)) in
    Memᴰ.cast (same_is order found.0 found.2) found.1
