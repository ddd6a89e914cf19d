-- Path counts, tail and signature of at least k of n: all sets of k parts and more are path sets, the tail is n! up to n - k failures and 0
-- beyond, and all n! failure orders stand at N(n-k+1). Assumes nothing.
use mathlib.Core.Path.{◌≡◌, sym, ap, ◌∙◌}
use mathlib.Core.Bool.{Bool, true, false, cond, ◌&&◌, and-false}
use mathlib.Core.Logic.{◌⊎◌, inl, inr}
use Prim.Native.Nat.{ℕ, suc, ◌+◌, ◌-◌, ◌*◌, ◌^◌, ◌≤◌, ◌<◌}
use native.Mathlib.Nat.{sub-add_cancel}
use native.Mathlib.Omega.{arith}
use lib.Dec.{eqb, leb}
use lib.IntN.{pos}
use borrow.Author.Tests.{eqb-true, eq-eqb, le-leb, lt-leb, ne_eqb}
use Rattle.numbers.specs.Counts.{factorial, choose}
use Rattle.numbers.proofs.Bools.{true_or_false}
use Rattle.numbers.proofs.Bounds.{below_or_above}
use Rattle.numbers.proofs.Counts.{choose_factorials, choose_mirror}
use Rattle.theory_sums.specs.Sums.{sum_below}
use Rattle.theory_sums.proofs.Sums.{sum_below_same, sum_below_zero}
use Rattle.theory_sets.specs.Masks.{size}
use Rattle.theory_sets.specs.Structures.{Semicoherent}
use Rattle.theory_orders.specs.Counting.{count}
use Rattle.theory_orders.specs.Formulas.{path_count}
use Rattle.theory_figures.specs.Figures.{tail, signature}
use Rattle.theory_figures.proofs.Sizes.{sets_of_size}
use Rattle.theory_figures.proofs.Tails.{tail_step, signature_is_count}
use Rattle.theory_patterns.specs.Patterns.{at_least, at_least_family}
use Rattle.theory_patterns.proofs.Families.{stopped_semicoherent, at_least_stopped}

-- φ(j) = C(n,j) for j from k on, and 0 below
pub at_least_path_count : (n k j : ℕ) → path_count n (at_least k) j ≡ cond (leb k j) (choose n j) 0
unfolding path_count at_least
at_least_path_count n k j =
    sum_below_same _ (λ a. cond (leb k j && eqb (size a) j) 1 0) (2 ^ n) (λ a h. ap (λ (t : Bool). cond t 1 0) (of_size_lem (size a) (true_or_false (eqb (size a) j))))
    ∙ cases (leb k j)
  where
    of_size_lem : (s : ℕ) → (eqb s j ≡ true) ⊎ (eqb s j ≡ false) → leb k s && eqb s j ≡ leb k j && eqb s j
    of_size_lem s (inl same) = ap (λ (x : ℕ). leb k x && eqb s j) (eqb-true s j same)
    of_size_lem s (inr other) = rw (other, and-false (leb k s), and-false (leb k j))

    cases : (t : Bool) → sum_below (λ a. cond (t && eqb (size a) j) 1 0) (2 ^ n) ≡ cond t (choose n j) 0
    cases true = sets_of_size n j
    cases false = sum_below_zero (2 ^ n)

-- T(m) = n! for m up to n - k, and 0 beyond
pub at_least_tail : (n k m : ℕ) → m ≤ n → tail n (path_count n (at_least k)) m ≡ cond (leb k (n - m)) (factorial n) 0
unfolding tail
at_least_tail n k m most =
    ap (λ (x : ℕ). x * factorial (n - m) * factorial m) (at_least_path_count n k (n - m)) ∙ cases (leb k (n - m))
  where
    joined : (x p q : ℕ) → x * p * q ≡ x * (p * q)
    joined x p q = omega arith

    nothing : (p q : ℕ) → 0 * p * q ≡ 0
    nothing p q = omega arith

    cases : (t : Bool) → cond t (choose n (n - m)) 0 * factorial (n - m) * factorial m ≡ cond t (factorial n) 0
    cases true =
        joined (choose n (n - m)) (factorial (n - m)) (factorial m)
        ∙ ap (λ (x : ℕ). x * (factorial (n - m) * factorial m)) (choose_mirror n (n - m) m (sub-add_cancel most))
        ∙ choose_factorials n (n - m) m (sub-add_cancel most)
    cases false = nothing (factorial (n - m)) (factorial m)

module _ (n k : ℕ) (some : 1 ≤ k) (most : k ≤ n) where
  coherent : Semicoherent n (at_least k)
  coherent = stopped_semicoherent n (at_least_family n k) (at_least k) (at_least_stopped n k some most)

  module _ (m : ℕ) (first : 1 ≤ m) (last : m ≤ n) where
    runs : (failures : ℕ) → failures ≤ n → k ≤ n - failures → tail n (path_count n (at_least k)) failures ≡ factorial n
    runs failures few h = at_least_tail n k failures few ∙ ap (λ (t : Bool). cond t (factorial n) 0) (le-leb k (n - failures) h)

    stopped : (failures : ℕ) → failures ≤ n → n - failures < k → tail n (path_count n (at_least k)) failures ≡ 0
    stopped failures few h = at_least_tail n k failures few ∙ ap (λ (t : Bool). cond t (factorial n) 0) (lt-leb k (n - failures) h)

    step : count n (at_least k) (2 ^ n - 1) m + tail n (path_count n (at_least k)) m ≡ tail n (path_count n (at_least k)) (m - 1)
    step =
        let next : m ≡ suc (m - 1) = omega arith in
        ap (λ (x : ℕ). count n (at_least k) (2 ^ n - 1) x + tail n (path_count n (at_least k)) x) next ∙ tail_step n (at_least k) coherent (m - 1) (omega arith)

    -- all n! orders stand at N(n-k+1), of the count
    pub at_least_count : count n (at_least k) (2 ^ n - 1) m ≡ cond (eqb m (n + 1 - k)) (factorial n) 0
    at_least_count = cases (below_or_above m (n + 1 - k)) (below_or_above (n + 1 - k) m)
      where
        elsewhere : count n (at_least k) (2 ^ n - 1) m ≡ 0 → (m ≡ n + 1 - k → ⊥) → count n (at_least k) (2 ^ n - 1) m ≡ cond (eqb m (n + 1 - k)) (factorial n) 0
        elsewhere none other = none ∙ sym (ap (λ (t : Bool). cond t (factorial n) 0) (ne_eqb m (n + 1 - k) other))

        cases : (m < n + 1 - k) ⊎ (n + 1 - k ≤ m) → (n + 1 - k < m) ⊎ (m ≤ n + 1 - k) → count n (at_least k) (2 ^ n - 1) m ≡ cond (eqb m (n + 1 - k)) (factorial n) 0
        cases (inl before) other =
            elsewhere (omega (arith, step, runs m last (omega arith), runs (m - 1) (omega arith) (omega arith))) (λ e. omega arith)
        cases (inr behind) (inl far) =
            elsewhere (omega (arith, step, stopped (m - 1) (omega arith) (omega arith))) (λ e. omega arith)
        cases (inr behind) (inr near) =
            let here : m ≡ n + 1 - k = omega arith in
            let all : count n (at_least k) (2 ^ n - 1) m ≡ factorial n = omega (arith, step, stopped m last (omega arith), runs (m - 1) (omega arith) (omega arith)) in
            all ∙ sym (ap (λ (t : Bool). cond t (factorial n) 0) (eq-eqb m (n + 1 - k) here))

    -- and so of the figure
    pub at_least_signature : signature n (path_count n (at_least k)) m ≡ pos (cond (eqb m (n + 1 - k)) (factorial n) 0)
    at_least_signature = signature_is_count n (at_least k) coherent m first last ∙ ap pos at_least_count
