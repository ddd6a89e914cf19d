-- 003's equations (12) and (13): their values at every whole number are those of the path counts that blocks give, and no other path counts have these
-- values. Assumes nothing.
use mathlib.Core.Path.{◌≡◌, refl, sym, ap, ap₂, ◌∙◌}
use mathlib.Core.Bool.{Bool, true, false, cond}
use mathlib.Core.Logic.{◌⊎◌, inl, inr}
use Prim.Native.Nat.{ℕ, zero, suc, suc-le-suc, ◌+◌, ◌-◌, ◌*◌, ◌/◌, ◌%◌, ◌^◌, ◌≤◌, ◌<◌}
use native.Mathlib.Nat.{sub-le, le_step, lt-suc_self, zero-add, add-mul, mul_comm, mul_left_comm, mul-zero, mul-one, zero-mul, zero-lt-suc, not-suc-le-zero, le_of_suc-le-suc, mod-eq_of_lt, div-eq_of_lt, add-mul-mod_self_left, add-mul-div_left, pow-zero, pow-suc, pow-succ'}
use native.Mathlib.Numerals.{add-one}
use native.Mathlib.Omega.{arith}
use lib.Dec.{eqb}
use lib.Pow.{pow-add}
use borrow.Author.Tests.{ne_eqb}
use Rattle.numbers.specs.Counts.{choose}
use Rattle.numbers.proofs.Bounds.{below_or_above}
use Rattle.numbers.proofs.Counts.{choose_above, none_beyond}
use Rattle.theory_sums.specs.Sums.{indicator, sum_below}
use Rattle.theory_sums.proofs.Sums.{sum_below_same, sum_below_zero, sum_below_add, sum_below_mul, sum_below_first, sum_below_reversed, sum_below_exchange, sum_below_term}
use Rattle.theory_sets.specs.Masks.{has}
use Rattle.theory_blocks.specs.Blocks.{product, in_state, ways, count_of_blocks, parts_in, RisingCounts}
use Rattle.theory_blocks.specs.Formula.{reflected, factor, factors, decomposed}
use Rattle.theory_blocks.proofs.Products.{sum_below_beyond, product_beyond, product_weighed, product_choose}
use Rattle.theory_blocks.proofs.Whole.{Within, stopped_in, running_or_stopped}

-- ---- values

module _ (u : ℕ) where
  -- the other way round: by the size of the sets
  reflected_sizes : (n : ℕ) (φ : ℕ → ℕ) → reflected n φ u ≡ sum_below (λ j. φ j * u ^ (n - j)) (suc n)
  unfolding reflected
  reflected_sizes n φ =
      sym (sum_below_reversed (λ k. φ (n - k) * u ^ k) n)
      ∙ sum_below_same _ _ (suc n) (λ j l. let back : n - (n - j) ≡ j = omega arith in ap (λ (x : ℕ). φ x * u ^ (n - j)) back)

  reflected_same : (n : ℕ) (φ ψ : ℕ → ℕ) → ((j : ℕ) → j ≤ n → φ j ≡ ψ j) → reflected n φ u ≡ reflected n ψ u
  unfolding reflected
  reflected_same n φ ψ same = sum_below_same _ _ (suc n) (λ k l. ap (λ (x : ℕ). x * u ^ k) (same (n - k) (omega arith)))

  reflected_add : (n : ℕ) (φ ψ : ℕ → ℕ) → reflected n (λ j. φ j + ψ j) u ≡ reflected n φ u + reflected n ψ u
  unfolding reflected
  reflected_add n φ ψ =
      sum_below_same _ (λ k. φ (n - k) * u ^ k + ψ (n - k) * u ^ k) (suc n) (λ k l. add-mul (φ (n - k)) (ψ (n - k)) (u ^ k))
      ∙ sum_below_add _ _ (suc n)

  -- the value of a product is the product of the values
  module _ (n m : ℕ) (f g : ℕ → ℕ) (short : (i : ℕ) → m < i → f i ≡ 0) (few : (i : ℕ) → n < i → g i ≡ 0) where
    -- the second factor behind a set of i parts in the first
    behind : (i : ℕ) → i ≤ m → sum_below (λ t. g t * u ^ (n + m - (i + t))) (suc (n + m) - i) ≡ reflected n g u * u ^ (m - i)
    behind i l =
        let long : suc (n + m) - i ≡ suc n + (m - i) = omega arith in
        ap (sum_below (λ t. g t * u ^ (n + m - (i + t)))) long
        ∙ sum_below_beyond (λ t. g t * u ^ (n + m - (i + t))) (suc n) (m - i) (λ t k. ap (λ (x : ℕ). x * u ^ (n + m - (i + t))) (few t k) ∙ zero-mul _)
        ∙ sum_below_same _ (λ t. u ^ (m - i) * (g t * u ^ (n - t))) (suc n) (λ t k.
        let apart : n + m - (i + t) ≡ (n - t) + (m - i) = omega arith in
        ap (λ (x : ℕ). g t * u ^ x) apart ∙ ap (λ (x : ℕ). g t * x) (pow-add u (n - t) (m - i)) ∙ turned (g t) (u ^ (n - t)) (u ^ (m - i)))
        ∙ sum_below_mul (u ^ (m - i)) (λ t. g t * u ^ (n - t)) (suc n)
        ∙ ap (λ (x : ℕ). u ^ (m - i) * x) (sym (reflected_sizes n g)) ∙ mul_comm _ _
      where
        turned : (x y z : ℕ) → x * (y * z) ≡ z * (x * y)
        turned x y z = omega arith

    reflected_product : reflected (n + m) (product f g) u ≡ reflected m f u * reflected n g u
    reflected_product =
        reflected_sizes (n + m) (product f g)
        ∙ product_weighed f g (λ s. u ^ (n + m - s)) (suc (n + m))
        ∙ sum_below_same _ (λ i. reflected n g u * (f i * u ^ (m - i))) (suc (n + m)) (λ i l. each i (below_or_above m i))
        ∙ sum_below_mul (reflected n g u) (λ i. f i * u ^ (m - i)) (suc (n + m))
        ∙ ap (λ (x : ℕ). reflected n g u * x)
        (let long : suc (n + m) ≡ suc m + n = omega arith in
        ap (sum_below (λ i. f i * u ^ (m - i))) long
        ∙ sum_below_beyond (λ i. f i * u ^ (m - i)) (suc m) n (λ i k. ap (λ (x : ℕ). x * u ^ (m - i)) (short i k) ∙ zero-mul _)
        ∙ sym (reflected_sizes m f))
        ∙ mul_comm _ _
      where
        each : (i : ℕ) → (m < i) ⊎ (i ≤ m) → f i * sum_below (λ t. g t * u ^ (n + m - (i + t))) (suc (n + m) - i) ≡ reflected n g u * (f i * u ^ (m - i))
        each i (inl beyond) = rw (short i beyond) (zero-mul _ ∙ sym (ap (λ (x : ℕ). reflected n g u * x) (zero-mul _) ∙ mul-zero _))
        each i (inr within) = ap (λ (x : ℕ). f i * x) (behind i within) ∙ mul_left_comm (f i) (reflected n g u) (u ^ (m - i))

  -- of no part and of one part
  reflected_none : (φ : ℕ → ℕ) → reflected 0 φ u ≡ φ 0
  unfolding reflected sum_below
  reflected_none φ = ap (λ (x : ℕ). 0 + φ 0 * x) (pow-zero u) ∙ omega arith

  reflected_one : (φ : ℕ → ℕ) → reflected 1 φ u ≡ φ 1 + φ 0 * u
  unfolding reflected sum_below
  reflected_one φ = ap₂ (λ (x y : ℕ). 0 + φ 1 * x + φ 0 * y) (pow-zero u) (pow-suc u 0 ∙ ap (λ (x : ℕ). x * u) (pow-zero u)) ∙ omega arith

  -- all sets of n parts: (1 + u)^n
  pub reflected_choose : (n : ℕ) → reflected n (choose n) u ≡ (1 + u) ^ n
  unfolding choose
  reflected_choose zero = reflected_none (choose 0) ∙ sym (pow-zero (1 + u))
  reflected_choose (suc n) =
      reflected_same (suc n) (choose (suc n)) (product (choose 1) (choose n)) (λ j l.
      sym (product_choose 1 n j ∙ ap (λ (x : ℕ). choose x j) (add-one n)))
      ∙ ap (λ (x : ℕ). reflected x (product (choose 1) (choose n)) u) (sym (add-one n))
      ∙ reflected_product n 1 (choose 1) (choose n) (λ i l. choose_above 1 i l) (λ i l. choose_above n i l)
      ∙ ap₂ (λ (x y : ℕ). x * y) (reflected_one (choose 1) ∙ omega arith) (reflected_choose n)
      ∙ sym (pow-succ' (1 + u) n)

-- ---- the values decide the counts

-- the lowest digit by itself
lowest_digit : (u : ℕ) (f : ℕ → ℕ) (k : ℕ) → sum_below (λ j. f j * u ^ j) (suc k) ≡ f 0 + u * sum_below (λ j. f (suc j) * u ^ j) k
lowest_digit u f k =
    sum_below_first (λ j. f j * u ^ j) k
    ∙ ap₂ (λ (x y : ℕ). x + y) (ap (λ (x : ℕ). f 0 * x) (pow-zero u) ∙ mul-one (f 0))
    (sum_below_same _ (λ j. u * (f (suc j) * u ^ j)) k (λ j l. ap (λ (x : ℕ). f (suc j) * x) (pow-succ' u j) ∙ mul_left_comm (f (suc j)) u (u ^ j))
    ∙ sum_below_mul u (λ j. f (suc j) * u ^ j) k)

-- numbers in one base, each below it, are told by their digits
digits_same : (u : ℕ) (a b : ℕ → ℕ) (k : ℕ) → ((i : ℕ) → i < k → a i < u) → ((i : ℕ) → i < k → b i < u)
    → sum_below (λ i. a i * u ^ i) k ≡ sum_below (λ i. b i * u ^ i) k → (i : ℕ) → i < k → a i ≡ b i
digits_same u a b zero ha hb e i l = absurd (not-suc-le-zero l)
digits_same u a b (suc k) ha hb e zero l = sym (first a (ha 0 l)) ∙ ap (λ (x : ℕ). x % u) e ∙ first b (hb 0 l)
  where
    first : (f : ℕ → ℕ) → f 0 < u → sum_below (λ j. f j * u ^ j) (suc k) % u ≡ f 0
    first f h = ap (λ (x : ℕ). x % u) (lowest_digit u f k) ∙ add-mul-mod_self_left (f 0) u _ ∙ mod-eq_of_lt h
digits_same u a b (suc k) ha hb e (suc i) l =
    digits_same u (λ j. a (suc j)) (λ j. b (suc j)) k (λ j h. ha (suc j) (suc-le-suc h)) (λ j h. hb (suc j) (suc-le-suc h))
    (sym (rest a (ha 0 (zero-lt-suc k))) ∙ ap (λ (x : ℕ). x / u) e ∙ rest b (hb 0 (zero-lt-suc k))) i (le_of_suc-le-suc l)
  where
    rest : (f : ℕ → ℕ) → f 0 < u → sum_below (λ j. f j * u ^ j) (suc k) / u ≡ sum_below (λ j. f (suc j) * u ^ j) k
    rest f h =
        ap (λ (x : ℕ). x / u) (lowest_digit u f k) ∙ add-mul-div_left (f 0) _ (omega arith)
        ∙ ap (λ (x : ℕ). x + sum_below (λ j. f (suc j) * u ^ j) k) (div-eq_of_lt h) ∙ zero-add _

-- two rows of path counts that have the same values are the same
pub reflected_decides : (n : ℕ) (φ ψ : ℕ → ℕ) → ((u : ℕ) → reflected n φ u ≡ reflected n ψ u) → (j : ℕ) → j ≤ n → φ j ≡ ψ j
unfolding reflected
reflected_decides n φ ψ same j l =
    let back : n - (n - j) ≡ j = omega arith in
    ap φ (sym back)
    ∙ digits_same base (λ k. φ (n - k)) (λ k. ψ (n - k)) (suc n) (λ i h. omega (arith, sum_below_term φ (n - i) (suc n) (omega arith)))
    (λ i h. omega (arith, sum_below_term ψ (n - i) (suc n) (omega arith))) (same base) (n - j) (omega arith)
    ∙ ap ψ back
  where
    base : ℕ
    base = suc (sum_below φ (suc n) + sum_below ψ (suc n))

-- ---- blocks

module _ (sizes : ℕ → ℕ) (φ : ℕ → ℕ → ℕ) where
  -- a block's counts, in either state, end with its parts
  state_beyond : (r : ℕ) → Within sizes φ r → (b : ℕ) → b < r → (t : Bool) (i : ℕ) → sizes b < i
      → in_state t (sizes b) (φ b) i ≡ 0
  state_beyond r few b l true i k = none_beyond (sizes b) i (few b l i) k
  state_beyond r few b l false i k = none_beyond (sizes b) i (sub-le (choose (sizes b) i) (φ b i)) k

  ways_beyond : (r : ℕ) → Within sizes φ r → (running j : ℕ) → parts_in sizes r < j → ways sizes φ r running j ≡ 0
  unfolding ways sum_below
  ways_beyond zero few running j l = rw (ne_eqb j 0 (λ e. omega arith))
  ways_beyond (suc r) few running j l =
      product_beyond (parts_in sizes r) (sizes r) _ (ways sizes φ r running) (state_beyond (suc r) few r (lt-suc_self r) (has running r))
      (ways_beyond r (λ b k. few b (le_step k)) running) j l

  module _ (u : ℕ) where
    both_values : (r : ℕ) → Within sizes φ r → (b : ℕ) → b < r
        → reflected (sizes b) (φ b) u + reflected (sizes b) (stopped_in sizes φ b) u ≡ (1 + u) ^ sizes b
    both_values r few b l =
        sym (reflected_add u (sizes b) (φ b) (stopped_in sizes φ b))
        ∙ reflected_same u (sizes b) _ _ (λ j k. running_or_stopped sizes φ r few b l j) ∙ reflected_choose u (sizes b)

    -- x^n z and x^n (1 - z) add up to x^n: nothing is cut off
    pub factor_both : (r : ℕ) → Within sizes φ r → (b : ℕ) → b < r
        → factor true (sizes b) (φ b) u + factor false (sizes b) (φ b) u ≡ (1 + u) ^ sizes b
    factor_both r few b l = omega (arith, both_values r few b l)

    -- a block's value in either state
    state_value : (r : ℕ) → Within sizes φ r → (b : ℕ) → b < r → (t : Bool)
        → reflected (sizes b) (in_state t (sizes b) (φ b)) u ≡ factor t (sizes b) (φ b) u
    state_value r few b l true = refl
    state_value r few b l false = omega (arith, both_values r few b l)

    ways_value : (r : ℕ) → Within sizes φ r → (running : ℕ)
        → reflected (parts_in sizes r) (ways sizes φ r running) u ≡ factors sizes φ r running u
    unfolding ways factors sum_below
    ways_value zero few running = reflected_none u (λ j. indicator (eqb j 0))
    ways_value (suc r) few running =
        reflected_product u (parts_in sizes r) (sizes r) _ (ways sizes φ r running) (state_beyond (suc r) few r (lt-suc_self r) (has running r))
        (ways_beyond r (λ b k. few b (le_step k)) running)
        ∙ ap₂ (λ (x y : ℕ). x * y) (state_value (suc r) few r (lt-suc_self r) (has running r)) (ways_value r (λ b k. few b (le_step k)) running)

    -- (12) is the sum of φ(n-k) u^k over the path counts of the whole
    pub whole_decomposed : (r : ℕ) → Within sizes φ r → (works : ℕ → Bool)
        → reflected (parts_in sizes r) (count_of_blocks sizes φ r works) u ≡ decomposed sizes φ r works u
    unfolding reflected count_of_blocks decomposed
    whole_decomposed r few works =
        sum_below_same _ (λ k. sum_below (λ a. cond (works a) (ways sizes φ r a (parts_in sizes r - k) * u ^ k) 0) (2 ^ r)) (suc (parts_in sizes r)) (λ k l.
        mul_comm _ (u ^ k) ∙ sym (sum_below_mul (u ^ k) (λ a. cond (works a) (ways sizes φ r a (parts_in sizes r - k)) 0) (2 ^ r))
        ∙ sum_below_same _ _ (2 ^ r) (λ a h. inside (works a) (u ^ k) (ways sizes φ r a (parts_in sizes r - k))))
        ∙ sum_below_exchange (λ k a. cond (works a) (ways sizes φ r a (parts_in sizes r - k) * u ^ k) 0) (suc (parts_in sizes r)) (2 ^ r)
        ∙ sum_below_same _ _ (2 ^ r) (λ a h. outside (works a) (λ k. ways sizes φ r a (parts_in sizes r - k) * u ^ k) (factors sizes φ r a u) (ways_value r few a))
      where
        inside : (t : Bool) (x y : ℕ) → x * cond t y 0 ≡ cond t (y * x) 0
        inside true x y = mul_comm x y
        inside false x y = mul-zero x

        outside : (t : Bool) (f : ℕ → ℕ) (x : ℕ) → sum_below f (suc (parts_in sizes r)) ≡ x → sum_below (λ k. cond t (f k) 0) (suc (parts_in sizes r)) ≡ cond t x 0
        outside true f x e = e
        outside false f x e = sum_below_zero (suc (parts_in sizes r))

-- ---- counts that pass 13 and 14

-- also if no block has them: the counts of the whole are the only ones whose values (12) gives
module _ (sizes : ℕ → ℕ) (φ : ℕ → ℕ → ℕ) (r : ℕ) (rising : (b : ℕ) → b < r → RisingCounts (sizes b) (φ b)) (works : ℕ → Bool) where
  pub rising_decomposed : (u : ℕ) → reflected (parts_in sizes r) (count_of_blocks sizes φ r works) u ≡ decomposed sizes φ r works u
  rising_decomposed u = whole_decomposed sizes φ u r (λ b l. (rising b l).most) works

  pub rising_only : (ψ : ℕ → ℕ) → ((u : ℕ) → reflected (parts_in sizes r) ψ u ≡ decomposed sizes φ r works u)
      → (j : ℕ) → j ≤ parts_in sizes r → ψ j ≡ count_of_blocks sizes φ r works j
  rising_only ψ same = reflected_decides (parts_in sizes r) ψ (count_of_blocks sizes φ r works) (λ u. same u ∙ sym (rising_decomposed u))
