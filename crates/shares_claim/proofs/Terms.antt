-- All terms on the way from h's coefficients to a share are together at most 2 L 3^(n-k) in absolute value, for n up to 16. With
-- |h(i,j)| at most C(m,i) C(n-m,j) 2^(i+j), the terms of a power of z add up to at most k C(m,k) 3^(m-k) times C(n-m,j) 2^(j+1), and the weight of
-- the power makes L of k C(m,k) at most. Assumes nothing.
use mathlib.Core.Path.{◌≡◌, refl, sym, ap, ap₂, ◌∙◌}
use mathlib.Core.Bool.{false, not}
use mathlib.Core.Logic.{◌⊎◌, inl, inr}
use Prim.Native.Nat.{ℕ, zero, suc, zero-le, ◌+◌, ◌-◌, ◌*◌, ◌^◌, ◌≤◌, ◌<◌}
use native.Mathlib.Nat.{le_trans, le_of_eq, add-le-add, zero-mul, mul-le-mul_left, mul-le-mul_right, pow-suc}
use native.Mathlib.Omega.{arith}
use lib.Dec.{leb}
use lib.IntN.{ℤ, pos, ◌*ℤ◌, nat_abs}
use lib.Pow.{pow-add}
use borrow.Author.Tests.{leb-true}
use Rattle.numbers.specs.Counts.{choose}
use Rattle.numbers.proofs.Counts.{choose_above, choose_rises, choose_parts}
use Rattle.theory_sums.specs.Sums.{sum_below}
use Rattle.theory_sums.proofs.Sums.{sum_below_same, sum_below_le, sum_below_zero, sum_below_mul, sum_below_add, sum_below_first}
use Rattle.theory_sets.specs.Masks.{any}
use Rattle.numbers.proofs.Bools.{not_not}
use Rattle.numbers.proofs.Bounds.{below_or_above}
use Rattle.theory_sets.proofs.Ranges.{any_none}
use Rattle.shares_claim.specs.Inside.{common, power_weight, Bounded}
use Rattle.shares_claim.proofs.Magnitudes.{nat_abs_product}
use Rattle.shares_claim.proofs.Regrouped.{power_weight_whole, power_term}

-- the bound
abbrev pub limit : ℕ → ℕ → ℕ
limit n k = 2 * (common n * 3 ^ (n - k))

-- ---- binomials

term_weight : (m k i : ℕ) → 1 ≤ k → k ≤ m → i < m
    → choose (m - 1 - i) (k - 1) * ((i + 1) * choose m (i + 1)) ≤ k * choose m k * choose (m - k) i
term_weight m k i some most l = cases (below_or_above (m - k) i)
  where
    cases : ((m - k) < i) ⊎ (i ≤ m - k) → choose (m - 1 - i) (k - 1) * ((i + 1) * choose m (i + 1)) ≤ k * choose m k * choose (m - k) i
    cases (inl above) =
        rw (choose_above (m - 1 - i) (k - 1) (omega arith)) (le_trans (le_of_eq (zero-mul ((i + 1) * choose m (i + 1)))) zero-le)
    cases (inr within) =
        let row : m - 1 - i ≡ k - 1 + (m - k - i) = omega arith in
        let next : i + 1 ≡ suc i = omega arith in
        let rest : m - k ≡ i + (m - k - i) = omega arith in
        let own : k ≡ suc (k - 1) = omega arith in
        le_of_eq (ap₂ (λ (x y : ℕ). choose x (k - 1) * (y * choose m y)) row next
        ∙ choose_parts (k - 1) i (m - k - i) m (omega arith)
        ∙ sym (ap₂ (λ (x y : ℕ). x * choose m x * choose y i) own rest))

-- the binomial theorem for 1 + 2
powers_of_three : (n k : ℕ) → sum_below (λ i. choose n i * 2 ^ i) k ≤ 3 ^ n
unfolding sum_below choose
powers_of_three n zero = zero-le
powers_of_three zero (suc k) =
    le_of_eq (sum_below_first (λ i. choose 0 i * 2 ^ i) k
    ∙ ap (λ (u : ℕ). 1 + u) (sum_below_same _ (λ i. 0) k (λ i l. zero-mul (2 ^ suc i)) ∙ sum_below_zero k))
powers_of_three (suc n) (suc k) =
    le_trans (le_of_eq split) (le_trans (add-le-add (mul-le-mul_left 2 (powers_of_three n k)) (powers_of_three n (suc k)))
    (le_of_eq (three (3 ^ n) ∙ sym (pow-suc 3 n))))
  where
    three : (x : ℕ) → 2 * x + x ≡ x * 3
    three x = omega arith

    both : (i : ℕ) → (choose n i + choose n (suc i)) * 2 ^ suc i ≡ 2 * (choose n i * 2 ^ i) + choose n (suc i) * 2 ^ suc i
    both i = ap (λ (u : ℕ). (choose n i + choose n (suc i)) * u) (pow-suc 2 i) ∙ parted (choose n i) (choose n (suc i)) (2 ^ i)
        ∙ ap (λ (u : ℕ). 2 * (choose n i * 2 ^ i) + choose n (suc i) * u) (sym (pow-suc 2 i))
      where
        parted : (x y p : ℕ) → (x + y) * (p * 2) ≡ 2 * (x * p) + y * (p * 2)
        parted x y p = omega arith

    split : sum_below (λ i. choose (suc n) i * 2 ^ i) (suc k)
        ≡ 2 * sum_below (λ i. choose n i * 2 ^ i) k + sum_below (λ i. choose n i * 2 ^ i) (suc k)
    split =
        sum_below_first (λ i. choose (suc n) i * 2 ^ i) k
        ∙ ap (λ (u : ℕ). 1 + u) (sum_below_same _ _ k (λ i l. both i)
        ∙ sum_below_add (λ i. 2 * (choose n i * 2 ^ i)) (λ i. choose n (suc i) * 2 ^ suc i) k
        ∙ ap (λ (u : ℕ). u + sum_below (λ i. choose n (suc i) * 2 ^ suc i) k) (sum_below_mul 2 (λ i. choose n i * 2 ^ i) k))
        ∙ moved (sum_below (λ i. choose n i * 2 ^ i) k) (sum_below (λ i. choose n (suc i) * 2 ^ suc i) k)
        ∙ ap (λ (u : ℕ). 2 * sum_below (λ i. choose n i * 2 ^ i) k + u) (sym (sum_below_first (λ i. choose n i * 2 ^ i) k))
      where
        moved : (x y : ℕ) → 1 + (2 * x + y) ≡ 2 * x + (1 + y)
        moved x y = omega arith

-- ---- by computing

-- the limit is far within 64 bits
limits_few : any (λ n. any (λ k. not (leb (limit n (suc k)) (2 ^ 45))) n) 17 ≡ false
unfolding any common
limits_few = refl

pub limit_few : (n k : ℕ) → n ≤ 16 → 1 ≤ k → k ≤ n → limit n k ≤ 2 ^ 45
limit_few n k few some most =
    let own : suc (k - 1) ≡ k = omega arith in
    leb-true (limit n k) (2 ^ 45) (sym (not_not (leb (limit n k) (2 ^ 45)))
    ∙ ap (λ (x : ℕ). not (not (leb (limit n x) (2 ^ 45)))) (sym own)
    ∙ ap not (any_none (λ k. not (leb (limit n (suc k)) (2 ^ 45))) n (k - 1)
    (any_none (λ n. any (λ k. not (leb (limit n (suc k)) (2 ^ 45))) n) 17 n limits_few (omega arith)) (omega arith)))

-- ---- all terms together

module _ (n m k : ℕ) (few : n ≤ 16) (some : 1 ≤ k) (most : k ≤ m) (within : m ≤ n) (h : ℕ → ℕ → ℤ) (bounded : Bounded n m h) where
  -- the size of a term: the powers of 2 of x^i apart
  term_most : (i j : ℕ) → i < m → j ≤ n - m
      → nat_abs (power_term m h k j i) ≤ k * choose m k * (2 * (choose (n - m) j * 2 ^ j)) * (choose (m - k) i * 2 ^ i)
  term_most i j l r =
      le_trans (le_of_eq (nat_abs_product (pos (choose (m - 1 - i) (k - 1))) (pos (i + 1) *ℤ h (i + 1) j)
      ∙ ap (λ (u : ℕ). choose (m - 1 - i) (k - 1) * u) (nat_abs_product (pos (i + 1)) (h (i + 1) j))))
      (le_trans (mul-le-mul_left (choose (m - 1 - i) (k - 1)) (mul-le-mul_left (i + 1) (bounded (i + 1) j (omega arith) r)))
      (le_trans (le_of_eq (apart (choose (m - 1 - i) (k - 1)) (i + 1) (choose m (i + 1)) (choose (n - m) j) (2 ^ (i + 1 + j))))
      (le_trans (mul-le-mul_right (choose (n - m) j * 2 ^ (i + 1 + j)) (term_weight m k i some most l))
      (le_of_eq (ap (λ (u : ℕ). k * choose m k * choose (m - k) i * (choose (n - m) j * u)) powers
      ∙ joined (k * choose m k) (choose (m - k) i) (choose (n - m) j) (2 ^ i) (2 ^ j))))))
    where
      apart : (a s b c p : ℕ) → a * (s * (b * c * p)) ≡ a * (s * b) * (c * p)
      apart a s b c p = omega arith

      powers : 2 ^ (i + 1 + j) ≡ 2 * (2 ^ i * 2 ^ j)
      powers = pow-add 2 (i + 1) j ∙ ap (λ (u : ℕ). u * 2 ^ j) (pow-add 2 i 1) ∙ twice (2 ^ i) (2 ^ j)
        where
          twice : (x y : ℕ) → x * 2 * y ≡ 2 * (x * y)
          twice x y = omega arith

      joined : (w x c p q : ℕ) → w * x * (c * (2 * (p * q))) ≡ w * (2 * (c * q)) * (x * p)
      joined w x c p q = omega arith

  -- the terms of a power of z, with its weight
  power_most : (j : ℕ) → j ≤ n - m
      → sum_below (λ i. nat_abs (power_term m h k j i)) m * power_weight n m k j ≤ 2 * (common n * 3 ^ (m - k)) * (choose (n - m) j * 2 ^ j)
  power_most j r =
      le_trans (mul-le-mul_right (power_weight n m k j)
      (le_trans (sum_below_le _ (λ i. k * choose m k * (2 * (choose (n - m) j * 2 ^ j)) * (choose (m - k) i * 2 ^ i)) m (λ i l. term_most i j l r))
      (le_trans (le_of_eq (sum_below_mul (k * choose m k * (2 * (choose (n - m) j * 2 ^ j))) (λ i. choose (m - k) i * 2 ^ i) m))
      (mul-le-mul_left (k * choose m k * (2 * (choose (n - m) j * 2 ^ j))) (powers_of_three (m - k) m)))))
      (le_trans (le_of_eq (turned (k * choose m k) (choose (n - m) j * 2 ^ j) (3 ^ (m - k)) (power_weight n m k j)))
      (le_trans (mul-le-mul_right (2 * (3 ^ (m - k) * (choose (n - m) j * 2 ^ j)))
      (le_trans (mul-le-mul_left (power_weight n m k j) (mul-le-mul_left k (choose_rises m (m + j) k (omega arith))))
      (le_of_eq (power_weight_whole n m k j few some most (omega arith)))))
      (le_of_eq (last (common n) (3 ^ (m - k)) (choose (n - m) j * 2 ^ j)))))
    where
      turned : (w z p x : ℕ) → w * (2 * z) * p * x ≡ x * w * (2 * (p * z))
      turned w z p x = omega arith

      last : (c p z : ℕ) → c * (2 * (p * z)) ≡ 2 * (c * p) * z
      last c p z = omega arith

  pub terms_most : sum_below (λ j. sum_below (λ i. nat_abs (power_term m h k j i)) m * power_weight n m k j) (suc (n - m)) ≤ limit n k
  terms_most =
      le_trans (sum_below_le _ (λ j. 2 * (common n * 3 ^ (m - k)) * (choose (n - m) j * 2 ^ j)) (suc (n - m)) (λ j l. power_most j (omega arith)))
      (le_trans (le_of_eq (sum_below_mul (2 * (common n * 3 ^ (m - k))) (λ j. choose (n - m) j * 2 ^ j) (suc (n - m))))
      (le_trans (mul-le-mul_left (2 * (common n * 3 ^ (m - k))) (powers_of_three (n - m) (suc (n - m))))
      (le_of_eq (joined (common n) (3 ^ (m - k)) (3 ^ (n - m)) ∙ ap (λ (u : ℕ). 2 * (common n * u)) (sym powers)))))
    where
      joined : (c p q : ℕ) → 2 * (c * p) * q ≡ 2 * (c * (p * q))
      joined c p q = omega arith

      powers : 3 ^ (n - k) ≡ 3 ^ (m - k) * 3 ^ (n - m)
      powers = let sum : n - k ≡ m - k + (n - m) = omega arith in ap (λ (x : ℕ). 3 ^ x) sum ∙ pow-add 3 (m - k) (n - m)
