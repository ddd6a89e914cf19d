-- Laws of the importances: each is the count of failure orders for that part alone, together they total n!, and each comes from the path counts
-- of the sets with the part and of those without it. Assumes nothing.
use mathlib.Core.Path.{◌≡◌, refl, sym, ap, ap₂, ◌∙◌}
use mathlib.Core.Bool.{Bool, true, false, cond, not, ◌&&◌, and-true, and-false}
use mathlib.Core.Logic.{◌⊎◌, inl, inr}
use Prim.Native.Nat.{ℕ, zero, suc, ◌+◌, ◌-◌, ◌*◌, ◌^◌, ◌≤◌, ◌<◌}
use native.Mathlib.Nat.{zero-add, add-zero, zero-mul, le_of_eq}
use native.Mathlib.Numerals.{sub-one}
use native.Mathlib.Omega.{arith}
use lib.Count.{ones, ones_in, ones-ones}
use lib.Dec.{eqb}
use lib.Pow.{ones_lt, pow-lt}
use borrow.Author.Tests.{eqb-true, eq-eqb, ne_eqb, not-true}
use Rattle.numbers.specs.Counts.{factorial}
use Rattle.theory_sums.specs.Sums.{indicator, sum_below, sum_sets}
use Rattle.theory_sums.proofs.Sums.{sum_below_same, sum_below_zero, sum_below_add, sum_below_exchange}
use Rattle.theory_sets.specs.Masks.{has, size, meet}
use Rattle.theory_sets.specs.Structures.{Semicoherent}
use Rattle.numbers.proofs.Bools.{and_left, and_right, clash, false_of, true_or_false}
use Rattle.theory_sets.proofs.Masks.{has_empty, has_single, has_full}
use Rattle.theory_orders.specs.Counting.{count}
use Rattle.theory_orders.specs.Formulas.{path_count, added, taken, by_parts}
use Rattle.theory_orders.proofs.Agreeing.{difference_same}
use Rattle.theory_orders.proofs.Counting.{count_is_by_parts, count_and_taken}
use Rattle.theory_orders.proofs.Sizes.{size_add, size_meet, size_lacking}
use Rattle.theory_orders.proofs.Totals.{counts_total}
use Rattle.theory_figures.specs.Figures.{importance}
use Rattle.theory_figures.proofs.Sizes.{sum_below_only, sum_by_size, size_none, size_meet_all}

-- ---- the group of one part

pub size_single : (j : ℕ) → size (2 ^ j) ≡ 1
unfolding ones ones_in
size_single j = ap ones (sym (zero-add (2 ^ j))) ∙ size_add 0 j (has_empty j)

module _ (n j : ℕ) (l : j < n) where
  size_meet_single : (a : ℕ) → a < 2 ^ n → size (meet a (2 ^ j)) ≡ indicator (has a j)
  size_meet_single a h =
      size_meet n (2 ^ j) a h
      ∙ sum_below_only (λ i. indicator (has a i && has (2 ^ j) i)) j n l (λ i m other.
      ap indicator (ap (λ (b : Bool). has a i && b) (has_single j i ∙ ne_eqb i j other) ∙ and-false (has a i)))
      ∙ ap indicator (ap (λ (b : Bool). has a j && b) (has_single j j ∙ eq-eqb j j refl) ∙ and-true (has a j))

  -- a set that lacks the part leaves it
  left_single : (x : ℕ) (a : ℕ) → a < 2 ^ n
      → cond (has (2 ^ j) j && not (has a j) && eqb (size (2 ^ j) - size (meet a (2 ^ j))) 1) x 0 ≡ cond (not (has a j)) x 0
  left_single x a h =
      rw (has_single j j ∙ eq-eqb j j refl, size_meet_single a h, size_single j) (cases (has a j))
    where
      cases : (b : Bool) → cond (not b && eqb (1 - indicator b) 1) x 0 ≡ cond (not b) x 0
      cases true = refl
      cases false = refl

-- ---- each importance is a count

pub importance_is_count : (n : ℕ) (works : ℕ → Bool) → Semicoherent n works → (i : ℕ) → 1 ≤ i → i ≤ n
    → importance n works i ≡ count n works (2 ^ (i - 1)) 1
unfolding importance by_parts
importance_is_count n works coherent i some most =
    let l : i - 1 < n = omega arith in
    sym (count_is_by_parts n works coherent (2 ^ (i - 1)) (pow-lt l) 1
    ∙ sum_below_only _ (i - 1) n l (λ j m other.
    sum_below_same _ (λ a. 0) (2 ^ n) (λ a h.
    ap (λ (b : Bool). cond (b && not (has a j) && eqb (size (2 ^ (i - 1)) - size (meet a (2 ^ (i - 1)))) 1)
    (factorial (size a) * factorial (n - size a - 1) * (indicator (works (a + 2 ^ j)) - indicator (works a))) 0)
    (has_single (i - 1) j ∙ ne_eqb j (i - 1) other)) ∙ sum_below_zero (2 ^ n))
    ∙ sum_below_same _ _ (2 ^ n) (λ a h.
    left_single n (i - 1) l (factorial (size a) * factorial (n - size a - 1) * (indicator (works (a + 2 ^ (i - 1))) - indicator (works a))) a h))

-- ---- they total n!

module _ (n : ℕ) (works : ℕ → Bool) where
  -- what a set and a part outside it give, where the set leaves k + 1 of all parts
  leaves : ℕ → ℕ → ℕ → ℕ
  leaves j a k =
      cond (has (2 ^ n - 1) j && not (has a j) && eqb (size (2 ^ n - 1) - size (meet a (2 ^ n - 1))) (k + 1))
      (factorial (size a) * factorial (n - size a - 1) * (indicator (works (a + 2 ^ j)) - indicator (works a))) 0

  once : (j a : ℕ) → j < n → a < 2 ^ n
      → sum_below (leaves j a) n
      ≡ cond (not (has a j)) (factorial (size a) * factorial (n - size a - 1) * (indicator (works (a + 2 ^ j)) - indicator (works a))) 0
  unfolding leaves
  once j a l h =
      sum_below_same (leaves j a) (λ k. cond (not (has a j) && eqb (n - size a) (k + 1)) x 0) n (λ k m.
      rw (has_full n j l, ones-ones n, size_meet_all n a h))
      ∙ cases (true_or_false (has a j))
    where
      x : ℕ
      x = factorial (size a) * factorial (n - size a - 1) * (indicator (works (a + 2 ^ j)) - indicator (works a))

      cases : (has a j ≡ true) ⊎ (has a j ≡ false)
          → sum_below (λ k. cond (not (has a j) && eqb (n - size a) (k + 1)) x 0) n ≡ cond (not (has a j)) x 0
      cases (inl b) = rw b (sum_below_zero n)
      cases (inr b) =
          let some : size a < n = size_lacking n a j h l b in
          rw b
          (sum_below_only (λ k. cond (eqb (n - size a) (k + 1)) x 0) (n - size a - 1) n (omega arith) (λ k m other.
          ap (λ (t : Bool). cond t x 0) (ne_eqb (n - size a) (k + 1) (λ e. other (omega arith))))
          ∙ ap (λ (t : Bool). cond t x 0) (eq-eqb (n - size a) (n - size a - 1 + 1) (omega arith)))

  pub importances_total : Semicoherent n works → sum_below (λ i. importance n works (suc i)) n ≡ factorial n
  unfolding importance by_parts leaves
  importances_total coherent =
      sum_below_same _ (λ j. sum_below (λ k. sum_below (λ a. leaves j a k) (2 ^ n)) n) n (λ j l.
      ap (λ (x : ℕ). sum_sets n (λ a. not (has a x))
      (λ a. factorial (size a) * factorial (n - size a - 1) * (indicator (works (a + 2 ^ x)) - indicator (works a)))) (sub-one (suc j))
      ∙ sum_below_same _ (λ a. sum_below (leaves j a) n) (2 ^ n) (λ a h. sym (once j a l h))
      ∙ sum_below_exchange (leaves j) (2 ^ n) n)
      ∙ sum_below_exchange (λ j k. sum_below (λ a. leaves j a k) (2 ^ n)) n n
      ∙ sum_below_same _ (λ k. count n works (2 ^ n - 1) (k + 1)) n (λ k l. sym (count_is_by_parts n works coherent (2 ^ n - 1) (ones_lt n) (k + 1)))
      ∙ counts_total n works coherent

-- ---- by path counts

module _ (n : ℕ) (works : ℕ → Bool) (j : ℕ) (l : j < n) where
  -- the path counts of the sets with the part, and of those without it
  abbrev pub with_part : ℕ → ℕ
  with_part s = path_count n (λ a. works a && has a j) s

  without_part : ℕ → ℕ
  without_part s = path_count n (λ a. works a && not (has a j)) s

  with_or_without : (s : ℕ) → with_part s + without_part s ≡ path_count n works s
  unfolding path_count without_part
  with_or_without s =
      sym (sum_below_add _ _ (2 ^ n)) ∙ sum_below_same _ _ (2 ^ n) (λ a h. either (works a) (has a j) (eqb (size a) s))
    where
      either : (w b e : Bool) → ◌≡◌ {A = ℕ} (cond (w && b && e) 1 0 + cond (w && not b && e) 1 0) (cond (w && e) 1 0)
      either true true e = add-zero _
      either true false e = zero-add _
      either false b e = refl

  pub with_part_fewer : (s : ℕ) → with_part s ≤ path_count n works s
  with_part_fewer s = omega (arith, with_or_without s)

  -- no set with the part is empty, and none without it is full
  with_part_empty : with_part 0 ≡ 0
  unfolding path_count
  with_part_empty =
      sum_below_same _ (λ a. 0) (2 ^ n) (λ a h. ap (λ (t : Bool). cond t 1 0) (false_of (works a && has a j && eqb (size a) 0) (λ t.
      let inside : works a && has a j ≡ true = and_left (works a && has a j) (eqb (size a) 0) t in
      let none : a ≡ 0 = size_none a (eqb-true (size a) 0 (and_right (works a && has a j) (eqb (size a) 0) t)) in
      clash (and_right (works a) (has a j) inside) (ap (λ (x : ℕ). has x j) none ∙ has_empty j))))
      ∙ sum_below_zero (2 ^ n)

  without_part_full : without_part n ≡ 0
  unfolding path_count without_part
  without_part_full =
      sum_below_same _ (λ a. 0) (2 ^ n) (λ a h. ap (λ (t : Bool). cond t 1 0) (false_of (works a && not (has a j) && eqb (size a) n) (λ t.
      let outside : works a && not (has a j) ≡ true = and_left (works a && not (has a j)) (eqb (size a) n) t in
      let all : size a ≡ n = eqb-true (size a) n (and_right (works a && not (has a j)) (eqb (size a) n) t) in
      omega (arith, size_lacking n a j h l (not-true (has a j) (and_right (works a) (not (has a j)) outside))))))
      ∙ sum_below_zero (2 ^ n)

  -- a sum by size of which the first, or the last, term is 0
  from_one : (f : ℕ → ℕ) (k : ℕ) → f 0 ≡ 0 → sum_below f (suc k) ≡ sum_below (λ s. f (suc s)) k
  unfolding sum_below
  from_one f zero h = ap (λ (u : ℕ). 0 + u) h
  from_one f (suc k) h = ap (λ (u : ℕ). u + f (suc k)) (from_one f k h)

  added_by_size : added n works (2 ^ j) 1 ≡ sum_below (λ s. with_part (suc s) * (factorial s * factorial (n - suc s))) n
  unfolding added
  added_by_size =
      sum_below_same _ (λ a. cond (works a && has a j) (factorial (size a - 1) * factorial (n - size a)) 0) (2 ^ n) (λ a h.
      rw (size_single j, size_meet_single n j l a h) (member (works a) (has a j) (factorial (size a - 1)) (factorial (n - size a))))
      ∙ sum_by_size n (λ a. works a && has a j) (λ s. factorial (s - 1) * factorial (n - s))
      ∙ from_one (λ s. with_part s * (factorial (s - 1) * factorial (n - s))) n
      (ap (λ (u : ℕ). u * (factorial (0 - 1) * factorial (n - 0))) with_part_empty ∙ zero-mul _)
      ∙ sum_below_same _ _ n (λ s m. ap (λ (x : ℕ). with_part (suc s) * (factorial x * factorial (n - suc s))) (sub-one (suc s)))
    where
      member : (w b : Bool) (p q : ℕ) → cond (w && eqb (indicator b) 1) (1 * p * q) 0 ≡ cond (w && b) (p * q) 0
      member true true p q = omega arith
      member true false p q = refl
      member false b p q = refl

  taken_by_size : taken n works (2 ^ j) 1 ≡ sum_below (λ s. (path_count n works s - with_part s) * (factorial s * factorial (n - suc s))) n
  unfolding taken sum_below without_part
  taken_by_size =
      sum_below_same _ (λ a. cond (works a && not (has a j)) (factorial (size a) * factorial (n - size a - 1)) 0) (2 ^ n) (λ a h.
      rw (size_single j, size_meet_single n j l a h) (member (works a) (has a j) (factorial (size a)) (factorial (n - size a - 1))))
      ∙ sum_by_size n (λ a. works a && not (has a j)) (λ s. factorial s * factorial (n - s - 1))
      ∙ ap (λ (u : ℕ). sum_below (λ s. without_part s * (factorial s * factorial (n - s - 1))) n + u)
      (ap (λ (u : ℕ). u * (factorial n * factorial (n - n - 1))) without_part_full ∙ zero-mul _)
      ∙ add-zero _
      ∙ sum_below_same _ _ n (λ s m.
      let rest : n - s - 1 ≡ n - suc s = omega arith in
      let less : without_part s ≡ path_count n works s - with_part s = omega (arith, with_or_without s) in
      ap₂ (λ (x y : ℕ). x * (factorial s * factorial y)) less rest)
    where
      member : (w b : Bool) (p q : ℕ) → cond (w && eqb (indicator b) 0) (1 * p * q) 0 ≡ cond (w && not b) (p * q) 0
      member true true p q = refl
      member true false p q = omega arith
      member false b p q = refl

  -- the importance, and over the sizes the path sets without the part, make those with it
  pub importance_by_size : Semicoherent n works
      → importance n works (suc j) + sum_below (λ s. (path_count n works s - with_part s) * (factorial s * factorial (n - suc s))) n
      ≡ sum_below (λ s. with_part (suc s) * (factorial s * factorial (n - suc s))) n
  importance_by_size coherent =
      ap₂ (λ (u v : ℕ). u + v)
      (importance_is_count n works coherent (suc j) (omega arith) l ∙ ap (λ (x : ℕ). count n works (2 ^ x) 1) (sub-one (suc j)))
      (sym taken_by_size)
      ∙ count_and_taken n works coherent (2 ^ j) (pow-lt l) 1 (le_of_eq (sym (size_single j))) ∙ added_by_size

-- ---- structures that agree on the sets of n parts have the same importances

pub importance_same : (n : ℕ) (f g : ℕ → Bool) → ((a : ℕ) → a < 2 ^ n → f a ≡ g a) → (i : ℕ) → 1 ≤ i → i ≤ n → importance n f i ≡ importance n g i
unfolding importance
importance_same n f g same i low high = sum_below_same _ _ (2 ^ n) (λ a h. step a h (true_or_false (has a (i - 1))))
  where
    step : (a : ℕ) → a < 2 ^ n → (has a (i - 1) ≡ true) ⊎ (has a (i - 1) ≡ false)
        → cond (not (has a (i - 1))) (factorial (size a) * factorial (n - size a - 1) * (indicator (f (a + 2 ^ (i - 1))) - indicator (f a))) 0
        ≡ cond (not (has a (i - 1))) (factorial (size a) * factorial (n - size a - 1) * (indicator (g (a + 2 ^ (i - 1))) - indicator (g a))) 0
    step a h (inl here) = rw here
    step a h (inr lacks) =
        ap (λ (d : ℕ). cond (not (has a (i - 1))) (factorial (size a) * factorial (n - size a - 1) * d) 0)
        (difference_same n f g same a (i - 1) h (omega arith) lacks)
