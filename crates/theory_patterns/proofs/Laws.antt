-- What designers would ask of the patterns: which of them are the series and the parallel machine, and the dual of at least k of n.
-- Assumes nothing.
use mathlib.Core.Path.{◌≡◌, sym, ap, ◌∙◌}
use mathlib.Core.Bool.{true, false, not, ◌||◌}
use mathlib.Core.Logic.{◌⊎◌, inl, inr}
use Prim.Native.Nat.{ℕ, ◌+◌, ◌-◌, ◌%◌, ◌^◌, ◌≤◌, ◌<◌}
use native.Mathlib.Nat.{add-mod_left, add-zero, mod-eq_of_lt, mod-lt, zero-add}
use native.Mathlib.Omega.{arith}
use lib.Count.{ones-ones}
use lib.Dec.{leb}
use borrow.Author.Tests.{le-leb, leb-true, lt-leb, not-false, not-true}
use Rattle.numbers.proofs.Bools.{clash, false_of, not_not, same_test}
use Rattle.numbers.proofs.Bounds.{below_or_above}
use Rattle.theory_sets.specs.Masks.{has, size, any}
use Rattle.theory_sets.proofs.Masks.{has_above, has_empty, has_full, same_bits}
use Rattle.theory_sets.proofs.Ranges.{any_intro, any_elim, any_none, any_false, any_same}
use Rattle.theory_orders.proofs.Sizes.{size_lacking}
use Rattle.theory_figures.proofs.Sizes.{size_none}
use Rattle.theory_cuts.specs.Cuts.{remaining, cut, dual}
use Rattle.theory_cuts.proofs.Counts.{size_remaining}
use Rattle.theory_cuts.proofs.Cuts.{dual_is_cut}
use Rattle.theory_patterns.specs.Patterns.{at_least, all_failed, row, ring, series, parallel}

-- ---- at least n, and at least 1

-- at least n of n is the series machine
pub at_least_all : (n a : ℕ) → a < 2 ^ n → at_least n a ≡ series n a
unfolding at_least series
at_least_all n a h = same_test (leb n (size a)) (not (any (λ i. not (has a i)) n)) there back
  where
    there : leb n (size a) ≡ true → not (any (λ i. not (has a i)) n) ≡ true
    there runs =
        ap not (any_false (λ i. not (has a i)) n (λ i l failed.
        omega (arith, leb-true n (size a) runs, size_lacking n a i h l (not-true (has a i) failed))))

    back : not (any (λ i. not (has a i)) n) ≡ true → leb n (size a) ≡ true
    back none =
        let whole : a ≡ 2 ^ n - 1 = same_bits a (2 ^ n - 1) (λ i. bit i (below_or_above i n)) in
        le-leb n (size a) (omega (arith, ap size whole, ones-ones n))
      where
        bit : (i : ℕ) → (i < n) ⊎ (n ≤ i) → has a i ≡ has (2 ^ n - 1) i
        bit i (inl below) =
            not-false (has a i) (any_none (λ i. not (has a i)) n i (not-true (any (λ i. not (has a i)) n) none) below) ∙ sym (has_full n i below)
        bit i (inr above) = has_above a n i h above ∙ sym (has_above (2 ^ n - 1) n i (omega (arith, h)) above)

-- at least 1 of n is the parallel machine
pub at_least_one : (n a : ℕ) → a < 2 ^ n → at_least 1 a ≡ parallel n a
unfolding at_least parallel
at_least_one n a h = same_test (leb 1 (size a)) (any (has a) n) there back
  where
    there : leb 1 (size a) ≡ true → any (has a) n ≡ true
    there runs =
        not-false (any (has a) n) (false_of (not (any (has a) n)) (λ t.
        let empty : a ≡ 0 = same_bits a 0 (λ i. bit (not-true (any (has a) n) t) i (below_or_above i n)) in
        omega (arith, leb-true 1 (size a) runs, ap size empty, ones-ones 0)))
      where
        bit : any (has a) n ≡ false → (i : ℕ) → (i < n) ⊎ (n ≤ i) → has a i ≡ has 0 i
        bit none i (inl below) = any_none (has a) n i none below ∙ sym (has_empty i)
        bit none i (inr above) = has_above a n i h above ∙ sym (has_empty i)

    back : any (has a) n ≡ true → leb 1 (size a) ≡ true
    back some = let found = any_elim (has a) n some in cases found.0 found.2 (below_or_above (size a) 1)
      where
        cases : (i : ℕ) → has a i ≡ true → (size a < 1) ⊎ (1 ≤ size a) → leb 1 (size a) ≡ true
        cases i t (inl none) = clash t (ap (λ (x : ℕ). has x i) (size_none a (omega arith)) ∙ has_empty i)
        cases i t (inr more) = le-leb 1 (size a) more

-- ---- the dual

-- the dual of at least k of n is at least n - k + 1
pub at_least_dual : (n k : ℕ) → k ≤ n → (a : ℕ) → a < 2 ^ n → dual n (at_least k) a ≡ at_least (n + 1 - k) a
unfolding at_least cut
at_least_dual n k most a h = dual_is_cut n (at_least k) a h ∙ cases (below_or_above (size a) (n + 1 - k))
  where
    cases : (size a < n + 1 - k) ⊎ (n + 1 - k ≤ size a) → not (leb k (size (remaining n a))) ≡ leb (n + 1 - k) (size a)
    cases (inl few) =
        ap not (le-leb k (size (remaining n a)) (omega (arith, size_remaining n a h))) ∙ sym (lt-leb (n + 1 - k) (size a) few)
    cases (inr many) =
        ap not (lt-leb k (size (remaining n a)) (omega (arith, size_remaining n a h))) ∙ sym (le-leb (n + 1 - k) (size a) many)

-- ---- rows and rings of k = n and k = 1

-- the one set of n neighbours of a row is all parts
pub row_all : (n a : ℕ) → row n n a ≡ parallel n a
unfolding row parallel all_failed any
row_all n a =
    ap (λ (count : ℕ). not (any (λ i. all_failed n (λ j. i + j) a) count)) one
    ∙ not_not (any (λ j. has a (0 + j)) n) ∙ any_same (λ j. has a (0 + j)) (has a) n (λ j l. ap (has a) (zero-add j))
  where
    one : n + 1 - n ≡ 1
    one = omega arith

-- n neighbours of a ring are all parts, whichever is the first
around : (n i a : ℕ) → i < n → any (λ j. has a ((i + j) % n)) n ≡ any (has a) n
around n i a l = same_test (any (λ j. has a ((i + j) % n)) n) (any (has a) n) there back
  where
    there : any (λ j. has a ((i + j) % n)) n ≡ true → any (has a) n ≡ true
    there some =
        let found = any_elim (λ j. has a ((i + j) % n)) n some in
        any_intro (has a) n ((i + found.0) % n) (mod-lt (i + found.0) (omega arith)) found.2

    back : any (has a) n ≡ true → any (λ j. has a ((i + j) % n)) n ≡ true
    back some =
        let found = any_elim (has a) n some in
        cases found.0 found.1 found.2 (below_or_above found.0 i)
      where
        cases : (b : ℕ) → b < n → has a b ≡ true → (b < i) ⊎ (i ≤ b) → any (λ j. has a ((i + j) % n)) n ≡ true
        cases b m t (inl before) =
            any_intro (λ j. has a ((i + j) % n)) n (n + b - i) (omega arith)
            (ap (has a) (ap (λ (x : ℕ). x % n) sum ∙ add-mod_left n b ∙ mod-eq_of_lt m) ∙ t)
          where
            sum : i + (n + b - i) ≡ n + b
            sum = omega arith
        cases b m t (inr behind) =
            any_intro (λ j. has a ((i + j) % n)) n (b - i) (omega arith) (ap (has a) (ap (λ (x : ℕ). x % n) sum ∙ mod-eq_of_lt m) ∙ t)
          where
            sum : i + (b - i) ≡ b
            sum = omega arith

pub ring_all : (n a : ℕ) → 1 ≤ n → ring n n a ≡ parallel n a
unfolding ring parallel all_failed
ring_all n a some =
    ap not (any_same (λ i. all_failed n (λ j. (i + j) % n) a) (λ i. not (any (has a) n)) n (λ i l. ap not (around n i a l))
    ∙ same_test (any (λ i. not (any (has a) n)) n) (not (any (has a) n))
    (λ t. (any_elim (λ i. not (any (has a) n)) n t).2) (λ t. any_intro (λ i. not (any (has a) n)) n 0 some t))
    ∙ not_not (any (has a) n)

-- one neighbour is a part
pub row_one : (n a : ℕ) → row n 1 a ≡ series n a
unfolding row series all_failed any
row_one n a =
    ap (λ (count : ℕ). not (any (λ i. not (false || has a (i + 0))) count)) all
    ∙ ap not (any_same (λ i. not (false || has a (i + 0))) (λ i. not (has a i)) n (λ i l. ap (λ (x : ℕ). not (has a x)) (add-zero i)))
  where
    all : n + 1 - 1 ≡ n
    all = omega arith

pub ring_one : (n a : ℕ) → ring n 1 a ≡ series n a
unfolding ring series all_failed any
ring_one n a =
    ap not (any_same (λ i. not (false || has a ((i + 0) % n))) (λ i. not (has a i)) n (λ i l.
    ap (λ (x : ℕ). not (has a x)) (ap (λ (x : ℕ). x % n) (add-zero i) ∙ mod-eq_of_lt l)))
