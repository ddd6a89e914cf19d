-- Products of polynomials by their coefficients: equal, larger and added factors, sums of products, a product with 1, the product of two rows of
-- binomials, the value of a product, and the rules for what one part more or less makes of it. Assumes nothing.
use mathlib.Core.Path.{◌≡◌, refl, sym, ap, ap₂, ◌∙◌}
use mathlib.Core.Bool.{Bool, true, false, cond}
use mathlib.Core.Logic.{◌⊎◌, inl, inr}
use Prim.Native.Nat.{ℕ, zero, suc, ◌+◌, ◌-◌, ◌*◌, ◌≤◌, ◌<◌}
use native.Mathlib.Nat.{le_refl, zero-add, add-zero, add_comm, add_assoc, add_left_comm, add-suc, mul_comm, mul-zero, mul-one, zero-mul, mul-add, add-mul, mul-le-mul, sub-zero, suc-sub-suc, le_of_suc-le-suc}
use native.Mathlib.Omega.{arith}
use lib.Arith.{lt_of_le-ne}
use lib.Dec.{leb, eqb}
use borrow.Author.Tests.{le-leb, lt-leb, ne_eqb}
use Rattle.numbers.specs.Counts.{choose}
use Rattle.numbers.proofs.Bounds.{below_or_above}
use Rattle.numbers.proofs.Counts.{choose_none}
use Rattle.theory_sums.specs.Sums.{indicator, sum_below}
use Rattle.theory_sums.proofs.Sums.{sum_below_same, sum_below_le, sum_below_zero, sum_below_add, sum_below_mul, sum_below_append, sum_below_first, sum_below_exchange}
use Rattle.theory_figures.proofs.Sizes.{sum_below_only}
use Rattle.theory_blocks.specs.Blocks.{product}

-- ---- equal, larger and added factors

pub product_same : (f g p q : ℕ → ℕ) (j : ℕ) → ((i : ℕ) → i ≤ j → f i ≡ p i) → ((i : ℕ) → i ≤ j → g i ≡ q i) → product f g j ≡ product p q j
unfolding product
product_same f g p q j h k =
    sum_below_same _ _ (suc j) (λ i l. ap₂ (λ (u v : ℕ). u * v) (h i (le_of_suc-le-suc l)) (k (j - i) (omega arith)))

pub product_le : (f g p q : ℕ → ℕ) (j : ℕ) → ((i : ℕ) → i ≤ j → f i ≤ p i) → ((i : ℕ) → i ≤ j → g i ≤ q i) → product f g j ≤ product p q j
unfolding product
product_le f g p q j h k = sum_below_le _ _ (suc j) (λ i l. mul-le-mul (h i (le_of_suc-le-suc l)) (k (j - i) (omega arith)))

pub product_add : (f p g : ℕ → ℕ) (j : ℕ) → product (λ i. f i + p i) g j ≡ product f g j + product p g j
unfolding product
product_add f p g j =
    sum_below_same _ (λ i. f i * g (j - i) + p i * g (j - i)) (suc j) (λ i l. add-mul (f i) (p i) (g (j - i))) ∙ sum_below_add _ _ (suc j)

pub product_either : (f g h : ℕ → ℕ) (j : ℕ) → product f (λ i. g i + h i) j ≡ product f g j + product f h j
unfolding product
product_either f g h j =
    sum_below_same _ (λ i. f i * g (j - i) + f i * h (j - i)) (suc j) (λ i l. mul-add (f i) (g (j - i)) (h (j - i))) ∙ sum_below_add _ _ (suc j)

-- a sum of products that have one factor in common
pub product_sum : (f : ℕ → ℕ) (test : ℕ → Bool) (g : ℕ → ℕ → ℕ) (k j : ℕ)
    → sum_below (λ a. cond (test a) (product f (g a) j) 0) k ≡ product f (λ s. sum_below (λ a. cond (test a) (g a s) 0) k) j
unfolding product
product_sum f test g k j =
    sum_below_same _ (λ a. sum_below (λ i. f i * cond (test a) (g a (j - i)) 0) (suc j)) k (λ a l. inside (test a) (g a))
    ∙ sum_below_exchange (λ a i. f i * cond (test a) (g a (j - i)) 0) k (suc j)
    ∙ sum_below_same _ _ (suc j) (λ i l. sum_below_mul (f i) (λ a. cond (test a) (g a (j - i)) 0) k)
  where
    inside : (t : Bool) (h : ℕ → ℕ) → cond t (sum_below (λ i. f i * h (j - i)) (suc j)) 0 ≡ sum_below (λ i. f i * cond t (h (j - i)) 0) (suc j)
    inside true h = refl
    inside false h = sym (sum_below_same _ (λ i. 0) (suc j) (λ i l. mul-zero (f i)) ∙ sum_below_zero (suc j))

-- ---- sums that end early

-- terms that are 0 may be left out at the end
pub sum_below_beyond : (f : ℕ → ℕ) (k m : ℕ) → ((i : ℕ) → k ≤ i → f i ≡ 0) → sum_below f (k + m) ≡ sum_below f k
sum_below_beyond f k m none =
    sum_below_append f k m
    ∙ ap (λ (u : ℕ). sum_below f k + u) (sum_below_same _ (λ i. 0) m (λ i l. none (k + i) (omega arith)) ∙ sum_below_zero m)
    ∙ add-zero (sum_below f k)

-- a product is a sum as far as its first factor goes
pub product_cut : (f g : ℕ → ℕ) (m j : ℕ) → ((i : ℕ) → m < i → f i ≡ 0)
    → sum_below (λ i. f i * cond (leb i j) (g (j - i)) 0) (suc m) ≡ product f g j
unfolding product
product_cut f g m j none =
    sym (sum_below_beyond term (suc m) (suc j) (λ i l. ap (λ (u : ℕ). u * cond (leb i j) (g (j - i)) 0) (none i l) ∙ zero-mul _))
    ∙ ap (sum_below term) (add_comm (suc m) (suc j))
    ∙ sum_below_beyond term (suc j) (suc m) (λ i l. ap (λ (t : Bool). f i * cond t (g (j - i)) 0) (lt-leb i j l) ∙ mul-zero (f i))
    ∙ sum_below_same term _ (suc j) (λ i l. ap (λ (t : Bool). f i * cond t (g (j - i)) 0) (le-leb i j (le_of_suc-le-suc l)))
  where
    term : ℕ → ℕ
    term i = f i * cond (leb i j) (g (j - i)) 0

-- a product with 1, on either side, and with 0
product_one : (f g : ℕ → ℕ) (j : ℕ) → f 0 ≡ 1 → ((i : ℕ) → f (suc i) ≡ 0) → product f g j ≡ g j
unfolding product
product_one f g j one none =
    sum_below_first (λ i. f i * g (j - i)) j
    ∙ ap₂ (λ (u v : ℕ). u + v) (ap₂ (λ (u v : ℕ). u * g v) one (sub-zero j))
    (sum_below_same _ (λ i. 0) j (λ i l. ap (λ (u : ℕ). u * g (j - suc i)) (none i) ∙ zero-mul _) ∙ sum_below_zero j)
    ∙ omega arith

pub product_unit : (f : ℕ → ℕ) (j : ℕ) → product f (λ i. indicator (eqb i 0)) j ≡ f j
unfolding product
product_unit f j =
    sum_below_only (λ i. f i * indicator (eqb (j - i) 0)) j (suc j) (le_refl (suc j)) (λ i l other.
    ap (λ (t : Bool). f i * indicator t) (ne_eqb (j - i) 0 (λ e. other (omega arith))) ∙ mul-zero (f i))
    ∙ (let gone : j - j ≡ 0 = omega arith in ap (λ (x : ℕ). f j * indicator (eqb x 0)) gone) ∙ mul-one (f j)

pub product_none : (f : ℕ → ℕ) (j : ℕ) → product f (λ i. 0) j ≡ 0
unfolding product
product_none f j = sum_below_same _ (λ i. 0) (suc j) (λ i l. mul-zero (f i)) ∙ sum_below_zero (suc j)

-- the lowest coefficient
pub product_first : (f g : ℕ → ℕ) → product f g 0 ≡ f 0 * g 0
unfolding product sum_below
product_first f g = zero-add (f 0 * g (0 - 0)) ∙ ap (λ (x : ℕ). f 0 * g x) (sub-zero 0)

-- the highest coefficient, of factors that end at m and n
pub product_top : (n m : ℕ) (f g : ℕ → ℕ) → ((i : ℕ) → m < i → f i ≡ 0) → ((i : ℕ) → n < i → g i ≡ 0) → product f g (n + m) ≡ f m * g n
unfolding product
product_top n m f g short few =
    sum_below_only (λ i. f i * g (n + m - i)) m (suc (n + m)) (omega arith) (λ i l other. cases i other (below_or_above m i))
    ∙ (let rest : n + m - m ≡ n = omega arith in ap (λ (x : ℕ). f m * g x) rest)
  where
    cases : (i : ℕ) → (i ≡ m → ⊥) → (m < i) ⊎ (i ≤ m) → f i * g (n + m - i) ≡ 0
    cases i other (inl beyond) = ap (λ (u : ℕ). u * g (n + m - i)) (short i beyond) ∙ zero-mul _
    cases i other (inr below) = ap (λ (u : ℕ). f i * u) (few (n + m - i) (lacks i other below)) ∙ mul-zero (f i)
      where
        lacks : (i : ℕ) → (i ≡ m → ⊥) → i ≤ m → n < n + m - i
        lacks i other below = let less : i < m = lt_of_le-ne below other in omega arith

-- and none beyond it
pub product_beyond : (n m : ℕ) (f g : ℕ → ℕ) → ((i : ℕ) → m < i → f i ≡ 0) → ((i : ℕ) → n < i → g i ≡ 0) → (j : ℕ) → n + m < j → product f g j ≡ 0
unfolding product
product_beyond n m f g short few j l = sum_below_same _ (λ i. 0) (suc j) (λ i k. each i (below_or_above m i)) ∙ sum_below_zero (suc j)
  where
    each : (i : ℕ) → (m < i) ⊎ (i ≤ m) → f i * g (j - i) ≡ 0
    each i (inl beyond) = ap (λ (x : ℕ). x * g (j - i)) (short i beyond) ∙ zero-mul _
    each i (inr within) = ap (λ (x : ℕ). f i * x) (few (j - i) (omega arith)) ∙ mul-zero (f i)

-- ---- binomials

-- one part more in the first factor
choose_more : (m : ℕ) (g : ℕ → ℕ) (j : ℕ) → product (choose (suc m)) g (suc j) ≡ product (choose m) g j + product (choose m) g (suc j)
unfolding product choose
choose_more m g j =
    sum_below_first (λ i. choose (suc m) i * g (suc j - i)) (suc j)
    ∙ ap (λ (u : ℕ). 1 * g (suc j - 0) + u)
    (sum_below_same _ (λ i. choose m i * g (j - i) + choose m (suc i) * g (suc j - suc i)) (suc j) (λ i l.
    ap (λ (x : ℕ). (choose m i + choose m (suc i)) * g x) (suc-sub-suc j i)
    ∙ add-mul (choose m i) (choose m (suc i)) (g (j - i))
    ∙ ap (λ (x : ℕ). choose m i * g (j - i) + choose m (suc i) * g x) (sym (suc-sub-suc j i)))
    ∙ sum_below_add _ _ (suc j))
    ∙ add_left_comm (1 * g (suc j - 0)) _ _
    ∙ ap (λ (u : ℕ). product (choose m) g j + u)
    (ap (λ (u : ℕ). u * g (suc j - 0) + sum_below (λ i. choose m (suc i) * g (suc j - suc i)) (suc j)) (sym (choose_none m))
    ∙ sym (sum_below_first (λ i. choose m i * g (suc j - i)) (suc j)))

-- Vandermonde: sets of m + n parts, by what they have of the first m
pub product_choose : (m n j : ℕ) → product (choose m) (choose n) j ≡ choose (n + m) j
unfolding choose
product_choose zero n j = product_one (choose 0) (choose n) j refl (λ i. refl) ∙ ap (λ (x : ℕ). choose x j) (sym (add-zero n))
product_choose (suc m) n zero = product_first (choose (suc m)) (choose n) ∙ ap (λ (u : ℕ). 1 * u) (choose_none n) ∙ sym (choose_none (n + suc m))
product_choose (suc m) n (suc j) =
    choose_more m (choose n) j ∙ ap₂ (λ (u v : ℕ). u + v) (product_choose m n j) (product_choose m n (suc j))
    ∙ ap (λ (x : ℕ). choose x (suc j)) (sym (add-suc n m))

-- ---- values

-- the terms of a triangle by rows and by diagonals
triangle : (F : ℕ → ℕ → ℕ) (k : ℕ) → sum_below (λ s. sum_below (λ i. F i (s - i)) (suc s)) k ≡ sum_below (λ i. sum_below (F i) (k - i)) k
unfolding sum_below
triangle F zero = refl
triangle F (suc k) =
    ap (λ (u : ℕ). u + (sum_below (λ i. F i (k - i)) k + F k (k - k))) (triangle F k) ∙ sym (add_assoc _ _ _)
    ∙ sym (ap₂ (λ (u v : ℕ). u + v)
    (sum_below_same (λ i. sum_below (F i) (suc k - i)) (λ i. sum_below (F i) (k - i) + F i (k - i)) k (λ i l.
    let next : suc k - i ≡ suc (k - i) = omega arith in ap (sum_below (F i)) next)
    ∙ sum_below_add (λ i. sum_below (F i) (k - i)) (λ i. F i (k - i)) k)
    (let last : suc k - k ≡ 1 = omega arith in
    let same : k - k ≡ 0 = omega arith in
    ap (sum_below (F k)) last ∙ zero-add (F k 0) ∙ ap (F k) (sym same)))

-- a weighted sum of the coefficients of a product, each weight going by the sum of both degrees
pub product_weighed : (f g w : ℕ → ℕ) (k : ℕ)
    → sum_below (λ s. product f g s * w s) k ≡ sum_below (λ i. f i * sum_below (λ t. g t * w (i + t)) (k - i)) k
unfolding product
product_weighed f g w k =
    sum_below_same _ (λ s. sum_below (λ i. f i * (g (s - i) * w (i + (s - i)))) (suc s)) k (λ s l.
    mul_comm (sum_below (λ i. f i * g (s - i)) (suc s)) (w s)
    ∙ sym (sum_below_mul (w s) (λ i. f i * g (s - i)) (suc s))
    ∙ sum_below_same _ _ (suc s) (λ i m.
    let back : s ≡ i + (s - i) = omega arith in turned (w s) (f i) (g (s - i)) ∙ ap (λ (x : ℕ). f i * (g (s - i) * w x)) back))
    ∙ triangle (λ i t. f i * (g t * w (i + t))) k
    ∙ sum_below_same _ _ k (λ i l. sum_below_mul (f i) (λ t. g t * w (i + t)) (k - i))
  where
    turned : (x y z : ℕ) → x * (y * z) ≡ y * (z * x)
    turned x y z = omega arith

-- ---- one part more or less

-- (j + 1) f(j + 1), the coefficients of the derivative: sets with one part marked that may leave
abbrev pub more : (ℕ → ℕ) → ℕ → ℕ
more f j = suc j * f (suc j)

-- (n - j) f(j): sets of n parts with one part marked that may come
abbrev pub less : ℕ → (ℕ → ℕ) → ℕ → ℕ
less n f j = (n - j) * f j

pub product_more : (f g : ℕ → ℕ) (j : ℕ) → more (product f g) j ≡ product (more f) g j + product f (more g) j
unfolding product sum_below
product_more f g j =
    sym (sum_below_mul (suc j) (λ i. f i * g (suc j - i)) (suc (suc j)))
    ∙ sum_below_same _ (λ i. i * f i * g (suc j - i) + f i * ((suc j - i) * g (suc j - i))) (suc (suc j)) (λ i l.
    let both : suc j ≡ i + (suc j - i) = omega arith in
    ap (λ (x : ℕ). x * (f i * g (suc j - i))) both ∙ spread i (suc j - i) (f i) (g (suc j - i)))
    ∙ sum_below_add _ _ (suc (suc j))
    ∙ ap₂ (λ (u v : ℕ). u + v)
    (sum_below_first (λ i. i * f i * g (suc j - i)) (suc j) ∙ ap (λ (u : ℕ). u + sum_below (λ i. suc i * f (suc i) * g (suc j - suc i)) (suc j)) (none (f 0) (g (suc j - 0)))
    ∙ zero-add _
    ∙ sum_below_same _ _ (suc j) (λ i l. ap (λ (x : ℕ). suc i * f (suc i) * g x) (suc-sub-suc j i)))
    (ap₂ (λ (u v : ℕ). u + v)
    (sum_below_same _ _ (suc j) (λ i l. let next : suc j - i ≡ suc (j - i) = omega arith in ap (λ (x : ℕ). f i * (x * g x)) next))
    (let gone : suc j - suc j ≡ 0 = omega arith in ap (λ (x : ℕ). f (suc j) * (x * g (suc j - suc j))) gone ∙ last (f (suc j)) (g (suc j - suc j)))
    ∙ add-zero _)
  where
    spread : (x y a b : ℕ) → (x + y) * (a * b) ≡ x * a * b + a * (y * b)
    spread x y a b = omega arith

    none : (a b : ℕ) → 0 * a * b ≡ 0
    none a b = omega arith

    last : (a b : ℕ) → a * (0 * b) ≡ 0
    last a b = omega arith

pub product_less : (m n : ℕ) (f g : ℕ → ℕ) → ((i : ℕ) → m < i → f i ≡ 0) → ((i : ℕ) → n < i → g i ≡ 0)
    → (j : ℕ) → less (n + m) (product f g) j ≡ product (less m f) g j + product f (less n g) j
unfolding product
product_less m n f g short few j =
    sym (sum_below_mul (n + m - j) (λ i. f i * g (j - i)) (suc j))
    ∙ sum_below_same _ (λ i. (m - i) * f i * g (j - i) + f i * ((n - (j - i)) * g (j - i))) (suc j) (λ i l.
    cases i (le_of_suc-le-suc l) (below_or_above m i) (below_or_above n (j - i)))
    ∙ sum_below_add _ _ (suc j)
  where
    spread : (x y a b : ℕ) → (x + y) * (a * b) ≡ x * a * b + a * (y * b)
    spread x y a b = omega arith

    nothing_left : (x y z b : ℕ) → x * (0 * b) ≡ y * 0 * b + 0 * (z * b)
    nothing_left x y z b = omega arith

    nothing_right : (x y z a : ℕ) → x * (a * 0) ≡ y * a * 0 + a * (z * 0)
    nothing_right x y z a = omega arith

    cases : (i : ℕ) → i ≤ j → (m < i) ⊎ (i ≤ m) → (n < j - i) ⊎ (j - i ≤ n)
        → (n + m - j) * (f i * g (j - i)) ≡ (m - i) * f i * g (j - i) + f i * ((n - (j - i)) * g (j - i))
    cases i l (inl beyond) q = rw (short i beyond) (nothing_left (n + m - j) (m - i) (n - (j - i)) (g (j - i)))
    cases i l (inr within) (inl beyond) = rw (few (j - i) beyond) (nothing_right (n + m - j) (m - i) (n - (j - i)) (f i))
    cases i l (inr within) (inr small) =
        let both : n + m - j ≡ (m - i) + (n - (j - i)) = omega arith in
        ap (λ (x : ℕ). x * (f i * g (j - i))) both ∙ spread (m - i) (n - (j - i)) (f i) (g (j - i))
