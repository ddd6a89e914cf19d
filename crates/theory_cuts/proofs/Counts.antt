-- Path counts, tail and signature of the dual: φ*(j) = C(n,j) - φ(n-j), T*(k) = n! - T(n-k) (000, eq. 36), and N*(k) = N(n+1-k) (000, eq. 37).
-- Assumes nothing.
use mathlib.Core.Path.{◌≡◌, refl, sym, ap, ap₂, ◌∙◌}
use mathlib.Core.Bool.{Bool, true, false, cond, not, ◌&&◌}
use Prim.Native.Nat.{ℕ, suc, ◌+◌, ◌-◌, ◌*◌, ◌^◌, ◌≤◌, ◌<◌}
use native.Mathlib.Nat.{sub-add_cancel}
use native.Mathlib.Omega.{arith}
use lib.Dec.{eqb}
use lib.Pow.{pow_pos}
use Rattle.numbers.specs.Counts.{factorial, choose}
use Rattle.numbers.proofs.Bools.{same_eqb}
use Rattle.numbers.proofs.Counts.{choose_mirror, choose_factorials}
use Rattle.theory_sums.specs.Sums.{indicator, sum_below}
use Rattle.theory_sums.proofs.Integers.{differences_across}
use Rattle.theory_sums.proofs.Sums.{sum_below_same, sum_below_add, sum_below_reversed}
use Rattle.theory_sets.specs.Masks.{has, size}
use Rattle.theory_orders.specs.Formulas.{path_count}
use Rattle.theory_orders.proofs.Sizes.{size_rest, size_bits}
use Rattle.theory_figures.specs.Figures.{tail, signature}
use Rattle.theory_orders.proofs.Agreeing.{path_count_same}
use Rattle.theory_figures.proofs.Sizes.{sets_of_size}
use Rattle.theory_cuts.specs.Cuts.{remaining, cut, dual, from_last}
use Rattle.theory_cuts.proofs.Cuts.{remaining_below, remaining_twice, remaining_part, dual_is_cut}

-- ---- sums over the sets that remain

-- each set remains of exactly one set
pub sum_remaining : (n : ℕ) (f : ℕ → ℕ) → sum_below (λ a. f (remaining n a)) (2 ^ n) ≡ sum_below f (2 ^ n)
sum_remaining n f =
    let whole : 2 ^ n ≡ suc (2 ^ n - 1) = omega (arith, pow_pos n) in
    ap (sum_below (λ a. f (remaining n a))) whole ∙ sum_below_reversed f (2 ^ n - 1) ∙ ap (sum_below f) (sym whole)

pub size_remaining : (n a : ℕ) → a < 2 ^ n → size (remaining n a) + size a ≡ n
size_remaining n a h =
    ap (λ (u : ℕ). u + size a)
    (size_bits n (remaining n a) (remaining_below n a)
    ∙ sum_below_same (λ i. indicator (has (remaining n a) i)) (λ i. indicator (not (has a i))) n (λ i l. ap indicator (remaining_part n a i h l)))
    ∙ size_rest n a h

-- ---- path counts

-- a set is of size j exactly if n - j parts remain of it
size_exchanged : (n a j : ℕ) → a < 2 ^ n → j ≤ n → eqb (size (remaining n a)) j ≡ eqb (size a) (n - j)
size_exchanged n a j h most =
    same_eqb (size (remaining n a)) j (size a) (n - j) (λ e. omega (arith, size_remaining n a h)) (λ e. omega (arith, size_remaining n a h))

module _ (n : ℕ) (works : ℕ → Bool) (j : ℕ) (most : j ≤ n) where
  -- a set of n - j parts that is no path set is what remains of a cut set of j parts
  cut_path_count_sum : path_count n (cut n works) j + path_count n works (n - j) ≡ choose n j
  unfolding path_count cut
  cut_path_count_sum =
      ap (λ (u : ℕ). u + path_count n works (n - j))
      (sym (sum_remaining n (λ a. cond (not (works (remaining n a)) && eqb (size a) j) 1 0))
      ∙ sum_below_same _ (λ a. cond (not (works a) && eqb (size a) (n - j)) 1 0) (2 ^ n) (λ a h.
      ap₂ (λ (p q : Bool). cond {A = ℕ} (not p && q) 1 0) (ap works (remaining_twice n a h)) (size_exchanged n a j h most)))
      ∙ sym (sum_below_add (λ a. cond (not (works a) && eqb (size a) (n - j)) 1 0) (λ a. cond (works a && eqb (size a) (n - j)) 1 0) (2 ^ n))
      ∙ sum_below_same _ (λ a. cond (eqb (size a) (n - j)) 1 0) (2 ^ n) (λ a h. either (works a) (eqb (size a) (n - j)))
      ∙ sets_of_size n (n - j) ∙ choose_mirror n (n - j) j (sub-add_cancel most)
    where
      either : (p q : Bool) → cond {A = ℕ} (not p && q) 1 0 + cond (p && q) 1 0 ≡ cond q 1 0
      either true true = refl
      either true false = refl
      either false true = refl
      either false false = refl

  pub dual_path_count_sum : path_count n (dual n works) j + path_count n works (n - j) ≡ choose n j
  dual_path_count_sum = ap (λ (u : ℕ). u + path_count n works (n - j)) (path_count_same n (dual n works) (cut n works) (dual_is_cut n works) j) ∙ cut_path_count_sum

  -- φ*(j) = C(n,j) - φ(n-j)
  pub dual_path_count : path_count n (dual n works) j ≡ choose n j - path_count n works (n - j)
  dual_path_count = omega (arith, dual_path_count_sum)

-- ---- tail and signature

module _ (n : ℕ) (works : ℕ → Bool) where
  -- T*(k) + T(n-k) = n!
  pub dual_tail : (k : ℕ) → k ≤ n → tail n (path_count n (dual n works)) k + tail n (path_count n works) (n - k) ≡ factorial n
  unfolding tail
  dual_tail k most =
      let back : n - (n - k) ≡ k = omega arith in
      ap (λ (x : ℕ). path_count n (dual n works) (n - k) * factorial (n - k) * factorial k + path_count n works x * factorial x * factorial (n - k)) back
      ∙ joined (path_count n (dual n works) (n - k)) (path_count n works k) (factorial (n - k)) (factorial k)
      ∙ ap (λ (u : ℕ). u * (factorial (n - k) * factorial k))
      (ap (λ (x : ℕ). path_count n (dual n works) (n - k) + path_count n works x) (sym back) ∙ dual_path_count_sum n works (n - k) (omega arith)
      ∙ choose_mirror n (n - k) k (sub-add_cancel most))
      ∙ choose_factorials n (n - k) k (sub-add_cancel most)
    where
      joined : (x y p q : ℕ) → x * p * q + y * q * p ≡ (x + y) * (p * q)
      joined x y p q = omega arith

  -- N*(k) = N(n+1-k)
  pub dual_signature : (k : ℕ) → 1 ≤ k → k ≤ n
      → signature n (path_count n (dual n works)) k ≡ signature n (path_count n works) (from_last n k)
  unfolding signature
  dual_signature k some most =
      let after : n - (k - 1) ≡ n + 1 - k = omega arith in
      let before : n - k ≡ n + 1 - k - 1 = omega arith in
      let first = dual_tail (k - 1) (omega arith) in
      let second = dual_tail k most in
      differences_across (tail n (path_count n (dual n works)) (k - 1)) (tail n (path_count n (dual n works)) k)
      (tail n (path_count n works) (n + 1 - k - 1)) (tail n (path_count n works) (n + 1 - k))
      (ap (λ (x : ℕ). tail n (path_count n (dual n works)) (k - 1) + tail n (path_count n works) x) (sym after) ∙ first
      ∙ sym (ap (λ (x : ℕ). tail n (path_count n (dual n works)) k + tail n (path_count n works) x) (sym before) ∙ second))
