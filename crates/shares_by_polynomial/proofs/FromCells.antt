-- The share from h's cells: the weights and the sums stay in range, the terms add up to the share without n!/L, and with it they are a number in
-- 0..n!. Assumes nothing.
use mathlib.Core.Path.{◌≡◌, refl, sym, ap, ap₂, ◌∙◌}
use mathlib.Core.Bool.{Bool, false, not}
use mathlib.Core.List.{List}
use Prim.Native.Nat.{ℕ, zero, suc, ◌+◌, ◌-◌, ◌*◌, ◌/◌, ◌%◌, ◌^◌, ◌≤◌, ◌<◌}
use native.Mathlib.Nat.{le_antisymm, le_trans, le_of_eq, mul-le-mul, le_of_mul-le-mul_right, div-le_self, mul-zero, mul_comm, mul-add, mul-sub, div-add-mod', add-zero}
use native.Mathlib.Numerals.{add-one}
use native.Mathlib.Omega.{arith}
use lib.Dec.{leb}
use lib.IntN.{ℤ, pos, negsuc, nat_abs, ◌+ℤ◌, ◌-ℤ◌, ◌*ℤ◌, *ℤ_comm, pos-*ℤ-pos, pos-+ℤ-pos}
use lib.ListN.{get_or}
use borrow.Author.Tests.{leb-true}
use Rattle.numbers.specs.Counts.{factorial, choose}
use Rattle.theory_sums.specs.Sums.{sum_below, sum_belowℤ}
use Rattle.theory_sums.proofs.Sums.{sum_below_same, sum_below_exchange, sum_below_mul, sum_below_prefix}
use Rattle.theory_sums.proofs.Integers.{ring}
use Rattle.theory_sums.proofs.IntegerSums.{sum_belowℤ_same, sum_belowℤ_mul, sum_belowℤ_exchange}
use Rattle.theory_sets.specs.Masks.{any}
use Rattle.numbers.proofs.Bools.{not_not}
use Rattle.theory_sets.proofs.Ranges.{any_none}
use Rattle.shares_claim.specs.Polynomials.{share_from, row_length, in_cells}
use Rattle.shares_claim.specs.Inside.{common, power_weight, Bounded}
use Rattle.shares_claim.proofs.Magnitudes.{nat_abs_product}
use Rattle.shares_claim.proofs.Regrouped.{power_term, power_sum, regrouped, power_weight_whole, share_regrouped}
use Rattle.shares_claim.proofs.Terms.{terms_most, limit_few}
use Rattle.shares_by_polynomial.specs.Inside.{above, below, cell_weight, InRange, share_of_cells}
use Rattle.shares_claim.proofs.Sums.{row_below, place_below, grid_sum, grid_sumℕ, carried_more}
use Rattle.numbers.proofs.Counts.{factorial_rises, choose_small, up_to_16_given}

-- ---- by computing

computed : (test : ℕ → Bool) → any (λ n. not (test n)) 17 ≡ false → (n : ℕ) → n ≤ 16 → test n ≡ not false
computed test all n h = sym (not_not (test n)) ∙ ap not (any_none (λ n. not (test n)) 17 n all (omega arith))

commons_some : any (λ n. not (leb 1 (common n))) 17 ≡ false
unfolding any common
commons_some = refl

commons_few : any (λ n. not (leb (common n) 720720)) 17 ≡ false
unfolding any common
commons_few = refl

quotients_some : any (λ n. not (leb 1 (factorial n / common n))) 17 ≡ false
unfolding any common factorial
quotients_some = refl

module _ (n : ℕ) (few : n ≤ 16) where
  pub common_some : 0 < common n
  common_some = leb-true 1 (common n) (computed (λ n. leb 1 (common n)) commons_some n few)

  pub common_few : common n ≤ 720720
  common_few = leb-true (common n) 720720 (computed (λ n. leb (common n) 720720) commons_few n few)

  pub quotient_some : 0 < factorial n / common n
  quotient_some = leb-true 1 (factorial n / common n) (computed (λ n. leb 1 (factorial n / common n)) quotients_some n few)

  pub factorial_small : factorial n ≤ 20922789888000
  unfolding factorial
  factorial_small = factorial_rises n 16 few

-- ---- the weights

module _ (n m k j : ℕ) (few : n ≤ 16) (some : 1 ≤ k) (most : k ≤ m) (within : m + j ≤ n) where
  pub divisor_some : 0 < k * choose (m + j) k
  divisor_some = cases (k * choose (m + j) k) (power_weight_whole n m k j few some most within)
    where
      cases : (x : ℕ) → power_weight n m k j * x ≡ common n → 0 < x
      cases zero e = absurd (omega (arith, common_some n few, sym (mul-zero (power_weight n m k j)) ∙ e))
      cases (suc x) e = omega arith

  pub divisor_few : k * choose (m + j) k ≤ 16 * 65536
  divisor_few = let low : k ≤ 16 = omega arith in mul-le-mul low (choose_small (m + j) k (omega arith))

  pub power_weight_few : power_weight n m k j ≤ 720720
  unfolding power_weight
  power_weight_few = le_trans (div-le_self (common n) (k * choose (m + j) k)) (common_few n few)

  module _ (i : ℕ) (l : i < m) where
    pub factors_few : choose (m - 1 - i) (k - 1) * (i + 1) ≤ 65536 * 16
    factors_few = let low : i + 1 ≤ 16 = omega arith in mul-le-mul (choose_small (m - 1 - i) (k - 1) (omega arith)) low

    pub cell_weight_few : choose (m - 1 - i) (k - 1) * (i + 1) * power_weight n m k j ≤ 65536 * 16 * 720720
    cell_weight_few = mul-le-mul factors_few power_weight_few

-- ---- a number above and below 0

pub apart : (z : ℤ) → z ≡ pos (above z) -ℤ pos (below z)
unfolding above below
apart (pos x) = simp ring
apart (negsuc x) = simp ring

pub magnitude : (z : ℤ) → above z + below z ≡ nat_abs z
unfolding above below
magnitude (pos x) = add-zero x
magnitude (negsuc x) = omega arith

-- ---- the sums

-- the term of a cell, row by row, and its size
pub cell_term : ℕ → ℕ → ℕ → (ℕ → ℕ → ℤ) → ℕ → ℤ
cell_term n m k h c = pos (cell_weight n m k (c / row_length n m) (c % row_length n m)) *ℤ h (c / row_length n m + 1) (c % row_length n m)

pub cell_size : ℕ → ℕ → ℕ → (ℕ → ℕ → ℤ) → ℕ → ℕ
cell_size n m k h c = cell_weight n m k (c / row_length n m) (c % row_length n m) * nat_abs (h (c / row_length n m + 1) (c % row_length n m))

module _ (n m k : ℕ) (few : n ≤ 16) (some : 1 ≤ k) (most : k ≤ m) (within : m ≤ n) (h : ℕ → ℕ → ℤ) where
  turned : (x y w u : ℤ) → x *ℤ y *ℤ w *ℤ u ≡ w *ℤ (x *ℤ (y *ℤ u))
  turned x y w u = simp ring

  one_term : (i j : ℕ) → pos (cell_weight n m k i j) *ℤ h (i + 1) j ≡ pos (power_weight n m k j) *ℤ power_term m h k j i
  unfolding cell_weight
  one_term i j =
      ap (λ (u : ℤ). u *ℤ h (i + 1) j)
      (sym (pos-*ℤ-pos (choose (m - 1 - i) (k - 1) * (i + 1)) (power_weight n m k j))
      ∙ ap (λ (u : ℤ). u *ℤ pos (power_weight n m k j)) (sym (pos-*ℤ-pos (choose (m - 1 - i) (k - 1)) (i + 1))))
      ∙ turned (pos (choose (m - 1 - i) (k - 1))) (pos (i + 1)) (pos (power_weight n m k j)) (h (i + 1) j)

  pub cells_regrouped : sum_belowℤ (cell_term n m k h) (m * row_length n m) ≡ regrouped n m h k
  unfolding cell_term regrouped power_sum
  cells_regrouped =
      sym (grid_sum (λ i j. pos (cell_weight n m k i j) *ℤ h (i + 1) j) m (row_length n m) (omega arith))
      ∙ sum_belowℤ_exchange (λ i j. pos (cell_weight n m k i j) *ℤ h (i + 1) j) m (row_length n m)
      ∙ sum_belowℤ_same _ (λ j. sum_belowℤ (power_term m h k j) m *ℤ pos (power_weight n m k j)) (row_length n m) (λ j l.
      sum_belowℤ_same _ _ m (λ i p. one_term i j)
      ∙ sum_belowℤ_mul (pos (power_weight n m k j)) (power_term m h k j) m
      ∙ *ℤ_comm (pos (power_weight n m k j)) (sum_belowℤ (power_term m h k j) m))
      ∙ ap (sum_belowℤ (λ j. sum_belowℤ (power_term m h k j) m *ℤ pos (power_weight n m k j))) (let more : row_length n m ≡ suc (n - m) = omega arith in more)

  one_size : (i j : ℕ) → cell_weight n m k i j * nat_abs (h (i + 1) j) ≡ power_weight n m k j * nat_abs (power_term m h k j i)
  one_size i j =
      sym (nat_abs_product (pos (cell_weight n m k i j)) (h (i + 1) j)) ∙ ap nat_abs (one_term i j)
      ∙ nat_abs_product (pos (power_weight n m k j)) (power_term m h k j i)

  pub cells_most : Bounded n m h → sum_below (cell_size n m k h) (m * row_length n m) ≤ 2 ^ 45
  unfolding cell_size
  cells_most bounded =
      le_trans (le_of_eq (sym (grid_sumℕ (λ i j. cell_weight n m k i j * nat_abs (h (i + 1) j)) m (row_length n m) (omega arith))
      ∙ sum_below_exchange (λ i j. cell_weight n m k i j * nat_abs (h (i + 1) j)) m (row_length n m)
      ∙ sum_below_same _ (λ j. sum_below (λ i. nat_abs (power_term m h k j i)) m * power_weight n m k j) (row_length n m) (λ j l.
      sum_below_same _ _ m (λ i p. one_size i j)
      ∙ sum_below_mul (power_weight n m k j) (λ i. nat_abs (power_term m h k j i)) m
      ∙ mul_comm (power_weight n m k j) (sum_below (λ i. nat_abs (power_term m h k j i)) m))
      ∙ ap (sum_below (λ j. sum_below (λ i. nat_abs (power_term m h k j i)) m * power_weight n m k j)) (let more : row_length n m ≡ suc (n - m) = omega arith in more)))
      (le_trans (terms_most n m k few some most within h bounded) (limit_few n k few some (omega arith)))

  -- the share is the sum, times n!/L, as a number
  module _ (added taken : ℕ) (total : pos added -ℤ pos taken ≡ sum_belowℤ (cell_term n m k h) (m * row_length n m))
      (whole : share_from n m h k ≡ pos (nat_abs (share_from n m h k))) where
    settled : added * (factorial n / common n) ≡ nat_abs (share_from n m h k) + taken * (factorial n / common n)
    settled =
        ap nat_abs
        (sym (pos-*ℤ-pos added (factorial n / common n)) ∙ split (pos added) (pos taken) (pos (factorial n / common n))
        ∙ ap₂ (λ (u v : ℤ). u +ℤ v)
        (ap (λ (u : ℤ). u *ℤ pos (factorial n / common n)) (total ∙ cells_regrouped) ∙ sym (share_regrouped n m h k few some most within) ∙ whole)
        (pos-*ℤ-pos taken (factorial n / common n))
        ∙ pos-+ℤ-pos (nat_abs (share_from n m h k)) (taken * (factorial n / common n)))
      where
        split : (x y q : ℤ) → x *ℤ q ≡ (x -ℤ y) *ℤ q +ℤ y *ℤ q
        split x y q = simp ring

    pub taken_fewer : taken ≤ added
    taken_fewer = le_of_mul-le-mul_right (omega (arith, settled)) (quotient_some n few)

    pub share_number : (added - taken) * (factorial n / common n) ≡ nat_abs (share_from n m h k)
    share_number =
        let q : ℕ = factorial n / common n in
        mul_comm (added - taken) q ∙ mul-sub q added taken ∙ ap₂ (λ (x y : ℕ). x - y) (mul_comm q added) (mul_comm q taken)
        ∙ (let rest : added * q - taken * q ≡ nat_abs (share_from n m h k) = omega (arith, settled) in rest)

-- a cell's term and its size, by how far the coefficient is above and below 0
module _ (n m k : ℕ) (h : ℕ → ℕ → ℤ) (c weight : ℕ) (z : ℤ)
    (weighs : weight ≡ cell_weight n m k (c / row_length n m) (c % row_length n m)) (stands : z ≡ h (c / row_length n m + 1) (c % row_length n m)) where
  pub cell_apart : cell_term n m k h c ≡ pos (weight * above z) -ℤ pos (weight * below z)
  unfolding cell_term
  cell_apart =
      ap₂ (λ (x : ℕ) (u : ℤ). pos x *ℤ u) (sym weighs) (sym stands ∙ apart z) ∙ split (pos weight) (pos (above z)) (pos (below z))
      ∙ ap₂ (λ (u v : ℤ). u -ℤ v) (pos-*ℤ-pos weight (above z)) (pos-*ℤ-pos weight (below z))
    where
      split : (w x y : ℤ) → w *ℤ (x -ℤ y) ≡ w *ℤ x -ℤ w *ℤ y
      split w x y = simp ring

  pub cell_size_lem : cell_size n m k h c ≡ weight * above z + weight * below z
  unfolding cell_size
  cell_size_lem = ap₂ (λ (x y : ℕ). x * y) (sym weighs) (ap nat_abs (sym stands) ∙ sym (magnitude z)) ∙ mul-add weight (above z) (below z)

-- the coefficient of a cell's term stands one row further
pub next_row : (n m : ℕ) (cells : List ℤ) (c : ℕ) → get_or cells (c + row_length n m) (pos 0) ≡ in_cells n m cells (c / row_length n m + 1) (c % row_length n m)
unfolding in_cells
next_row n m cells c =
    let place : c + row_length n m ≡ (c / row_length n m + 1) * row_length n m + c % row_length n m
    = omega (arith, div-add-mod' c (row_length n m)) in
    ap (λ (i : ℕ). get_or cells i (pos 0)) place

pub end_few : (n m : ℕ) → n ≤ 16 → m ≤ n → m * row_length n m ≤ 289
end_few n m most h =
    let rows : m ≤ 17 = omega arith in
    let row : row_length n m ≤ 17 = omega arith in
    mul-le-mul rows row

pub factors_fit : (n k i : ℕ) → n ≤ 16 → i ≤ 16 → choose n k * i ≤ 65536 * 16
factors_fit n k i few low = mul-le-mul (choose_small n k few) low

-- ---- what a loop over the cells carries

module _ (n m k : ℕ) (cells : List ℤ) where
  pub terms_none : sum_belowℤ (cell_term n m k (in_cells n m cells)) 0 ≡ pos 0 -ℤ pos 0
  unfolding sum_belowℤ
  terms_none = refl

  pub sizes_none : sum_below (cell_size n m k (in_cells n m cells)) 0 ≡ 0
  unfolding sum_below
  sizes_none = refl

  module _ (c weight : ℕ) (weighs : weight ≡ cell_weight n m k (c / row_length n m) (c % row_length n m)) where
    pub terms_more : (added taken : ℕ) → pos added -ℤ pos taken ≡ sum_belowℤ (cell_term n m k (in_cells n m cells)) c
        → sum_belowℤ (cell_term n m k (in_cells n m cells)) (c + 1)
        ≡ pos (added + weight * above (get_or cells (c + row_length n m) (pos 0))) -ℤ pos (taken + weight * below (get_or cells (c + row_length n m) (pos 0)))
    terms_more added taken before =
        let z : ℤ = get_or cells (c + row_length n m) (pos 0) in
        sym (carried_more (cell_term n m k (in_cells n m cells)) c added taken (weight * above z) (weight * below z) before
        (cell_apart n m k (in_cells n m cells) c weight z weighs (next_row n m cells c)))

    pub sizes_more : sum_below (cell_size n m k (in_cells n m cells)) (c + 1)
        ≡ sum_below (cell_size n m k (in_cells n m cells)) c
        + (weight * above (get_or cells (c + row_length n m) (pos 0)) + weight * below (get_or cells (c + row_length n m) (pos 0)))
    unfolding sum_below
    sizes_more =
        ap (sum_below (cell_size n m k (in_cells n m cells))) (add-one c)
        ∙ ap (λ (x : ℕ). sum_below (cell_size n m k (in_cells n m cells)) c + x)
        (cell_size_lem n m k (in_cells n m cells) c weight (get_or cells (c + row_length n m) (pos 0)) weighs (next_row n m cells c))

  module _ (few : n ≤ 16) (some : 1 ≤ k) (most : k ≤ m) (within : m ≤ n) where
    -- what a cell adds and what it takes, each with all before it
    pub amounts_few : Bounded n m (in_cells n m cells) → (c weight : ℕ) → c < m * row_length n m
        → weight ≡ cell_weight n m k (c / row_length n m) (c % row_length n m)
        → (cell_weight n m k (c / row_length n m) (c % row_length n m) ≡ cell_weight n m k (c / row_length n m) (c % row_length n m))
        × ((sum_below (cell_size n m k (in_cells n m cells)) c + weight * above (get_or cells (c + row_length n m) (pos 0)) ≤ 2 ^ 45)
        × (sum_below (cell_size n m k (in_cells n m cells)) c + weight * below (get_or cells (c + row_length n m) (pos 0)) ≤ 2 ^ 45))
    amounts_few bounded c weight inner weighs =
        let x : ℕ = weight * above (get_or cells (c + row_length n m) (pos 0)) in
        let y : ℕ = weight * below (get_or cells (c + row_length n m) (pos 0)) in
        let together : sum_below (cell_size n m k (in_cells n m cells)) c + (x + y) ≤ 2 ^ 45 =
        le_trans (le_of_eq (sym (sizes_more c weight weighs)))
        (le_trans (sum_below_prefix (cell_size n m k (in_cells n m cells)) (c + 1) (m * row_length n m) (omega arith))
        (cells_most n m k few some most within (in_cells n m cells) bounded)) in
        (refl, (omega (arith, together), omega (arith, together)))

    -- the whole sum, times n!/L
    module _ (added taken c : ℕ) (total : pos added -ℤ pos taken ≡ sum_belowℤ (cell_term n m k (in_cells n m cells)) c)
        (up : c ≤ m * row_length n m) (down : m * row_length n m ≤ c) (range : InRange n (share_of_cells n m cells k)) where
      whole : pos added -ℤ pos taken ≡ sum_belowℤ (cell_term n m k (in_cells n m cells)) (m * row_length n m)
      whole = total ∙ ap (sum_belowℤ (cell_term n m k (in_cells n m cells))) (le_antisymm up down)

      pub fewer : (pos added -ℤ pos taken ≡ pos added -ℤ pos taken) × (taken ≤ added)
      fewer = (refl, taken_fewer n m k few some most within (in_cells n m cells) added taken whole range.0)

      pub share_is : (share_of_cells n m cells k ≡ pos ((added - taken) * (factorial n / common n))) × ((added - taken) * (factorial n / common n) ≤ 20922789888000)
      share_is =
          let number = share_number n m k few some most within (in_cells n m cells) added taken whole range.0 in (
            range.0 ∙ ap pos (sym number),
            le_trans (le_of_eq number) (le_trans range.1 (factorial_small n few)),
          )

-- ---- what search is told

-- of a cell that is added, and of the whole sum
pub ruleset sharing = (row_below, place_below, up_to_16_given, end_few, terms_none, sizes_none, terms_more, sizes_more, amounts_few, common_some, fewer, share_is)

-- of a weight
pub ruleset weighing = (up_to_16_given, factors_fit, power_weight_few, divisor_some, divisor_few)
