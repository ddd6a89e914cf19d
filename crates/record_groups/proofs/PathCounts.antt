-- A machine without a group of its parts has no more path sets of any size than before: each is, with its parts at their old positions, a path set
-- of the machine as it was.
-- Assumes nothing.
use mathlib.Core.Path.{◌≡◌, refl, sym, ap, ap₂, ◌∙◌, subst}
use mathlib.Core.Bool.{Bool, true, false, cond, ◌&&◌}
use mathlib.Core.List.{List, [], ◌∷◌, Memᴰ}
use Prim.Native.Nat.{ℕ, zero, suc, ◌+◌, ◌*◌, ◌/◌, ◌%◌, ◌^◌, ◌≤◌, ◌<◌}
use native.Mathlib.Nat.{pow-succ', lt_of_lt_of_le, le_of_suc-le-suc, not-suc-le-zero}
use native.Mathlib.Omega.{arith}
use lib.Count.{ones, ones_step}
use lib.Dec.{eqb}
use lib.ListN.{length}
use lib.Pow.{pow_mono}
use Rattle.numbers.proofs.Bools.{clash, false_of, and_both, and_left, and_right}
use Rattle.theory_sums.specs.Sums.{sum_below}
use Rattle.theory_sets.specs.Masks.{has, size, holds}
use Rattle.theory_sets.specs.Structures.{listed}
use Rattle.theory_sets.proofs.Masks.{has_suc, even, has_even}
use Rattle.theory_sets.proofs.Lists.{listed_intro, listed_elim}
use Rattle.theory_orders.specs.Formulas.{path_count}
use Rattle.masks.specs.Groups.{meets, squeezed}
use Rattle.masks.proofs.Groups.{meets_part, apart_part, apart_half, shared_part, squeezed_none, squeezed_holds}
use Rattle.record_numbers.specs.Numbering.{most_parts, others}
use Rattle.record_lines.specs.Changes.{sets_without}
use Rattle.record_lines.proofs.TakenOut.{without_from}

-- ---- a set and a group, by the lowest position

-- they share no part if they do not share the lowest and their halves share none
apart_whole : (n group set : ℕ) → set < 2 ^ n → (has set 0 ≡ true → has group 0 ≡ false) → meets (group / 2) (set / 2) ≡ false → meets group set ≡ false
apart_whole n group set small low rest =
    false_of (meets group set) (λ some. let found = shared_part n group set small some in cases found.0 found.2 found.3)
  where
    cases : (i : ℕ) → has set i ≡ true → has group i ≡ true → ⊥
    cases zero s g = clash g (low s)
    cases (suc i) s g = clash (meets_part (group / 2) (set / 2) i (sym (has_suc set i) ∙ s) (sym (has_suc group i) ∙ g)) rest

-- a set that shares no part with the group is as large when its positions are squeezed out
size_squeezed : (n group set : ℕ) → meets group set ≡ false → set < 2 ^ n → size (squeezed n group set) ≡ size set
unfolding squeezed
size_squeezed zero group set apart small = let none : 0 ≡ set = omega arith in ap size none
size_squeezed (suc n) group set apart small =
    cases (has group 0) refl (size_squeezed n (group / 2) (set / 2) (apart_half group set apart) (omega (arith, pow-succ' 2 n)))
  where
    rest : ℕ
    rest = squeezed n (group / 2) (set / 2)

    cases : (p : Bool) → has group 0 ≡ p → size rest ≡ size (set / 2) → size (cond p rest (set % 2 + 2 * rest)) ≡ size set
    cases true e same =
        let low : set % 2 ≡ 0 = even set (false_of (has set 0) (λ k. clash e (apart_part group set apart 0 k))) in
        omega (arith, ones_step set)
    cases false e same =
        let low : (set % 2 + 2 * rest) % 2 ≡ set % 2 = omega arith in
        let half : (set % 2 + 2 * rest) / 2 ≡ rest = omega arith in
        ones_step (set % 2 + 2 * rest) ∙ ap₂ (λ (x y : ℕ). x + ones y) low half ∙ omega (arith, ones_step set)

-- ---- sums over the sets of the parts that are left

-- the sets without the lowest part, and those with it
sum_by_lowest : (f : ℕ → ℕ) (k : ℕ) → sum_below f (2 * k) ≡ sum_below (λ a. f (2 * a)) k + sum_below (λ a. f (suc (2 * a))) k
unfolding sum_below
sum_by_lowest f zero = refl
sum_by_lowest f (suc k) =
    let two : 2 * suc k ≡ suc (suc (2 * k)) = omega arith in
    ap (sum_below f) two ∙ omega (arith, sum_by_lowest f k)

-- of n + 1 parts
masks_by_lowest : (f : ℕ → ℕ) (n : ℕ) → sum_below f (2 ^ suc n) ≡ sum_below (λ a. f (2 * a)) (2 ^ n) + sum_below (λ a. f (suc (2 * a))) (2 ^ n)
masks_by_lowest f n = ap (sum_below f) (pow-succ' 2 n) ∙ sum_by_lowest f (2 ^ n)

-- where each set that shares no part with the group weighs no more when it is squeezed, all sets of the parts that are left weigh no more than all
sum_left : (n : ℕ) (numbers : List ℕ) (group : ℕ) (new old : ℕ → ℕ) → length numbers ≤ n
    → ((a : ℕ) → a < 2 ^ length numbers → meets group a ≡ false → new (squeezed n group a) ≤ old a)
    → sum_below new (2 ^ length (others numbers group)) ≤ sum_below old (2 ^ length numbers)
unfolding sum_below others squeezed meets
sum_left n [] group new old few h = omega (arith, h 0 (omega arith) refl, ap new (squeezed_none n group))
sum_left zero (p ∷ ps) group new old few h = absurd (not-suc-le-zero few)
sum_left (suc n) (p ∷ ps) group new old few h =
    cases (has group 0) refl (λ lighter heavier each. sum_left n ps (group / 2) lighter heavier (le_of_suc-le-suc few) each)
  where
    left : List ℕ
    left = others ps (group / 2)

    -- of one set, by its half
    one : (a half value : ℕ) → a / 2 ≡ half → half < 2 ^ length ps → (has a 0 ≡ true → has group 0 ≡ false) → meets (group / 2) half ≡ false
        → cond (has group 0) (squeezed n (group / 2) half) (a % 2 + 2 * squeezed n (group / 2) half) ≡ value → new value ≤ old a
    one a half value is small low apart same =
        let inside : a < 2 ^ suc (length ps) = omega (arith, pow-succ' 2 (length ps)) in
        subst (λ (x : ℕ). new x ≤ old a)
        (ap (λ (x : ℕ). cond (has group 0) (squeezed n (group / 2) x) (a % 2 + 2 * squeezed n (group / 2) x)) is ∙ same)
        (h a inside (apart_whole (suc (length ps)) group a inside low (subst (λ (x : ℕ). meets (group / 2) x ≡ false) (sym is) apart)))

    Rest : Type 0
    Rest =
        (lighter heavier : ℕ → ℕ) → ((a : ℕ) → a < 2 ^ length ps → meets (group / 2) a ≡ false → lighter (squeezed n (group / 2) a) ≤ heavier a)
        → sum_below lighter (2 ^ length left) ≤ sum_below heavier (2 ^ length ps)

    cases : (q : Bool) → has group 0 ≡ q → Rest → sum_below new (2 ^ length (cond q left (p ∷ left))) ≤ sum_below old (2 ^ suc (length ps))
    cases true e rest =
        let without = rest new (λ a. old (2 * a)) (λ a small apart.
        one (2 * a) a (squeezed n (group / 2) a) (omega arith) small (λ k. clash k (has_even (2 * a) (omega arith))) apart
        (ap (λ (q : Bool). cond q (squeezed n (group / 2) a) (2 * a % 2 + 2 * squeezed n (group / 2) a)) e)) in
        omega (arith, masks_by_lowest old (length ps))
    cases false e rest =
        let without = rest (λ a. new (2 * a)) (λ a. old (2 * a)) (λ a small apart.
        one (2 * a) a (2 * squeezed n (group / 2) a) (omega arith) small (λ k. e) apart
        (ap (λ (q : Bool). cond q (squeezed n (group / 2) a) (2 * a % 2 + 2 * squeezed n (group / 2) a)) e ∙ omega arith)) in
        let having = rest (λ a. new (suc (2 * a))) (λ a. old (suc (2 * a))) (λ a small apart.
        one (suc (2 * a)) a (suc (2 * squeezed n (group / 2) a)) (omega arith) small (λ k. e) apart
        (ap (λ (q : Bool). cond q (squeezed n (group / 2) a) (suc (2 * a) % 2 + 2 * squeezed n (group / 2) a)) e ∙ omega arith)) in
        omega (arith, masks_by_lowest old (length ps), masks_by_lowest new (length left))

-- ---- path sets

-- a test that passes only where another does
test_fewer : (p q : Bool) → (p ≡ true → q ≡ true) → cond p 1 0 ≤ cond q 1 0
test_fewer true q h = rw (h refl) (omega arith)
test_fewer false q h = omega arith

module _ (numbers : List ℕ) (sets : List ℕ) (group : ℕ) (few : length numbers ≤ most_parts) (within : (a : ℕ) → Memᴰ a sets → a < 2 ^ length numbers) where
  -- a set that shares no part with the group was a path set if it is one of the machine that is left
  runs_before : (a : ℕ) → meets group a ≡ false → listed (sets_without group sets) (squeezed most_parts group a) ≡ true → listed sets a ≡ true
  runs_before a apart runs =
      let found = listed_elim (sets_without group sets) (squeezed most_parts group a) runs in
      let from = without_from group sets found.0 found.1 in
      let held : holds (squeezed most_parts group a) (squeezed most_parts group from.old) ≡ true = rw from.same found.2 in
      listed_intro sets a from.old from.member
      (squeezed_holds most_parts group a from.old apart from.lacks (lt_of_lt_of_le (within from.old from.member) (pow_mono few)) held)

  pub count_fewer : (j : ℕ) → path_count (length (others numbers group)) (listed (sets_without group sets)) j ≤ path_count (length numbers) (listed sets) j
  unfolding path_count
  count_fewer j =
      sum_left most_parts numbers group (λ a. cond (listed (sets_without group sets) a && eqb (size a) j) 1 0) (λ a. cond (listed sets a && eqb (size a) j) 1 0) few (λ a inside apart.
      test_fewer (listed (sets_without group sets) (squeezed most_parts group a) && eqb (size (squeezed most_parts group a)) j) (listed sets a && eqb (size a) j) (λ both.
      let same = size_squeezed most_parts group a apart (lt_of_lt_of_le inside (pow_mono few)) in
      and_both
      (runs_before a apart (and_left (listed (sets_without group sets) (squeezed most_parts group a)) (eqb (size (squeezed most_parts group a)) j) both))
      (ap (λ (k : ℕ). eqb k j) (sym same) ∙ and_right (listed (sets_without group sets) (squeezed most_parts group a)) (eqb (size (squeezed most_parts group a)) j) both)))
