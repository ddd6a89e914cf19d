-- Laws of a set and a group of parts: which parts they share, and that sets which share none with the group keep their order, stay apart and
-- stay not empty when its positions are squeezed out.
-- Assumes nothing.
use mathlib.Core.Path.{◌≡◌, refl, sym, ap, ap₂, ◌∙◌, subst}
use mathlib.Core.Bool.{Bool, true, false, not, cond}
use mathlib.Core.Logic.{◌⊎◌, inl, inr}
use Prim.Native.Nat.{ℕ, zero, suc, ◌+◌, ◌*◌, ◌/◌, ◌%◌, ◌^◌, ◌≤◌, ◌<◌}
use native.Mathlib.Nat.{pow-succ', div-div-eq-div-mul, lt_of_le_of_lt, le_of_suc-le-suc, not-suc-le-zero}
use native.Mathlib.Numerals.{add-one}
use native.Mathlib.Omega.{arith}
use borrow.Author.Tests.{eqb-true, eqb-false, eq-eqb, not-true}
use lib.Bits.{and_le_l}
use lib.Dec.{eqb}
use lib.Pow.{mod-pow-add}
use Rattle.theory_sets.specs.Masks.{has, meet, holds}
use Rattle.numbers.proofs.Bools.{clash, false_of, and_both, and_left, and_right, same_test}
use Rattle.theory_sets.proofs.Masks.{has_suc, odd, even, has_odd, has_even, has_empty, has_single, has_meet, holds_part, holds_of_parts, lacking}
use Rattle.numbers.proofs.Bounds.{below_or_above}
use Rattle.masks.specs.Groups.{meets, squeezed}

-- ---- the parts that they share

-- with a part that both have they share one
pub meets_part : (group set i : ℕ) → has set i ≡ true → has group i ≡ true → meets group set ≡ true
unfolding meets
meets_part group set i s g =
    ap not (false_of (eqb (meet set group) 0) (λ e.
    clash (has_meet set group i ∙ and_both s g) (ap (λ (x : ℕ). has x i) (eqb-true (meet set group) 0 e) ∙ has_empty i)))

-- where they share none, a part of the set is not in the group
pub apart_part : (group set : ℕ) → meets group set ≡ false → (i : ℕ) → has set i ≡ true → has group i ≡ false
apart_part group set none i s = false_of (has group i) (λ g. clash (meets_part group set i s g) none)

-- and where they share one, it is a part of the set
pub shared_part : (n group set : ℕ) → set < 2 ^ n → meets group set ≡ true → (i : ℕ) × (i < n) × (has set i ≡ true) × (has group i ≡ true)
unfolding meets
shared_part n group set h some =
    let both = meet set group in
    let found = lacking n both 0 (lt_of_le_of_lt (and_le_l set group) h) (holds_of_parts both 0 (λ i k. clash k (has_empty i)))
    (eqb-false both 0 (not-true (eqb both 0) some)) in
    let i = found.0 in
    let parts = sym (has_meet set group i) ∙ found.2 in
    (i, found.1, and_left (has set i) (has group i) parts, and_right (has set i) (has group i) parts)

below_power : (a : ℕ) → a < 2 ^ a
below_power zero = omega arith
below_power (suc a) = omega (arith, below_power a, pow-succ' 2 a)

-- the empty set shares none
apart_none : (group : ℕ) → meets group 0 ≡ false
unfolding meets
apart_none group = refl

-- halves of a set and a group that share no part share none
pub apart_half : (group set : ℕ) → meets group set ≡ false → meets (group / 2) (set / 2) ≡ false
apart_half group set none =
    false_of (meets (group / 2) (set / 2)) (λ some.
    let found = shared_part (set / 2) (group / 2) (set / 2) (below_power (set / 2)) some in
    let i = found.0 in
    clash (has_suc group i ∙ found.3) (apart_part group set none (suc i) (has_suc set i ∙ found.2)))

-- the group of a single part shares it with the sets that have it
pub meets_single : (i set : ℕ) → meets (2 ^ i) set ≡ has set i
meets_single i set =
    same_test (meets (2 ^ i) set) (has set i)
    (λ h.
    let found = shared_part set (2 ^ i) set (below_power set) h in
    subst (λ (j : ℕ). has set j ≡ true) (eqb-true found.0 i (sym (has_single i found.0) ∙ found.3)) found.2)
    (λ h. meets_part (2 ^ i) set i h (has_single i i ∙ eq-eqb i i refl))

-- ---- squeezed, by the lowest position

-- the lowest position in front of the rest, or skipped
abbrev front : Bool → ℕ → ℕ → ℕ
front skipped low rest = cond skipped rest (low + 2 * rest)

pub squeezed_none : (n group : ℕ) → squeezed n group 0 ≡ 0
unfolding squeezed
squeezed_none zero group = refl
squeezed_none (suc n) group = cases (has group 0) (squeezed_none n (group / 2))
  where
    cases : (p : Bool) → squeezed n (group / 2) 0 ≡ 0 → front p 0 (squeezed n (group / 2) 0) ≡ 0
    cases true rest = rest
    cases false rest = omega arith

-- a position more, which the set lacks, changes nothing
squeezed_more : (n group set : ℕ) → set < 2 ^ n → squeezed (suc n) group set ≡ squeezed n group set
unfolding squeezed
squeezed_more zero group set h = let none : set ≡ 0 = omega arith in ap (squeezed 1 group) none ∙ squeezed_none 1 group
squeezed_more (suc n) group set h =
    ap (front (has group 0) (set % 2)) (squeezed_more n (group / 2) (set / 2) (omega (arith, pow-succ' 2 n)))

module _ (n group set : ℕ) (h : set < 2 ^ suc n) where
  step : squeezed (suc n) group set ≡ front (has group 0) (set % 2) (squeezed (suc n) (group / 2) (set / 2))
  unfolding squeezed
  step = ap (front (has group 0) (set % 2)) (sym (squeezed_more n (group / 2) (set / 2) (omega (arith, pow-succ' 2 n))))

  -- a position of the group is skipped
  pub squeezed_skipped : has group 0 ≡ true → squeezed (suc n) group set ≡ squeezed (suc n) (group / 2) (set / 2)
  squeezed_skipped e = step ∙ ap (λ (p : Bool). front p (set % 2) (squeezed (suc n) (group / 2) (set / 2))) e

  -- and another is kept in front of the rest
  pub squeezed_kept : has group 0 ≡ false → squeezed (suc n) group set ≡ set % 2 + 2 * squeezed (suc n) (group / 2) (set / 2)
  squeezed_kept e = step ∙ ap (λ (p : Bool). front p (set % 2) (squeezed (suc n) (group / 2) (set / 2))) e

-- without a group nothing moves
pub squeezed_all : (n set : ℕ) → set < 2 ^ n → squeezed n 0 set ≡ set
unfolding squeezed
squeezed_all zero set h = omega arith
squeezed_all (suc n) set h =
    let rest : squeezed n 0 (set / 2) ≡ set / 2 = squeezed_all n (set / 2) (omega (arith, pow-succ' 2 n)) in
    ap (λ (p : Bool). front p (set % 2) (squeezed n 0 (set / 2))) (has_empty 0) ∙ omega arith

-- Without a single position the higher ones move down by one, and the lower ones stay.
pub squeezed_single : (n i set : ℕ) → i < n → set < 2 ^ n → squeezed n (2 ^ i) set ≡ set / 2 ^ suc i * 2 ^ i + set % 2 ^ i
unfolding squeezed
squeezed_single zero i set inside h = absurd (not-suc-le-zero inside)
squeezed_single (suc n) zero set inside h =
    let rest : squeezed n 0 (set / 2) ≡ set / 2 = squeezed_all n (set / 2) (omega (arith, pow-succ' 2 n)) in
    ap (λ (p : Bool). front p (set % 2) (squeezed n 0 (set / 2))) (has_odd 1 refl) ∙ omega arith
squeezed_single (suc n) (suc i) set inside h =
    let even_group : has (2 ^ suc i) 0 ≡ false = has_even (2 ^ suc i) (omega (arith, pow-succ' 2 i)) in
    let half : 2 ^ suc i / 2 ≡ 2 ^ i = omega (arith, pow-succ' 2 i) in
    let rest = squeezed_single n i (set / 2) (le_of_suc-le-suc inside) (omega (arith, pow-succ' 2 n)) in
    let quotient : set / 2 ^ suc (suc i) ≡ set / 2 / 2 ^ suc i = ap (λ (x : ℕ). set / x) (pow-succ' 2 (suc i)) ∙ sym (div-div-eq-div-mul set 2 (2 ^ suc i)) in
    let remainder : set % 2 ^ suc i ≡ set / 2 % 2 ^ i * 2 + set % 2 = ap (λ (m : ℕ). set % 2 ^ m) (sym (add-one i)) ∙ mod-pow-add set i 1 in
    let whole : set / 2 ^ suc (suc i) * 2 ^ suc i + set % 2 ^ suc i ≡ set / 2 / 2 ^ suc i * (2 * 2 ^ i) + (set / 2 % 2 ^ i * 2 + set % 2) =
    ap₂ (λ (x y : ℕ). x + y) (ap₂ (λ (x y : ℕ). x * y) quotient (pow-succ' 2 i)) remainder in
    ap₂ (λ (p : Bool) (x : ℕ). front p (set % 2) x) even_group (ap (λ (g : ℕ). squeezed n g (set / 2)) half ∙ rest) ∙ omega arith

-- moving together makes a mask no larger
pub squeezed_le : (n group set : ℕ) → squeezed n group set ≤ set
unfolding squeezed
squeezed_le zero group set = omega arith
squeezed_le (suc n) group set = cases (has group 0) (squeezed_le n (group / 2) (set / 2))
  where
    cases : (p : Bool) → squeezed n (group / 2) (set / 2) ≤ set / 2 → front p (set % 2) (squeezed n (group / 2) (set / 2)) ≤ set
    cases true rest = omega arith
    cases false rest = omega arith

-- ---- sets that share no part with the group

-- they keep their order
pub squeezed_rises : (n group a b : ℕ) → meets group a ≡ false → meets group b ≡ false → b < 2 ^ n → a < b → squeezed n group a < squeezed n group b
unfolding squeezed
squeezed_rises zero group a b ha hb small h = absurd (omega arith)
squeezed_rises (suc n) group a b ha hb small h =
    cases (has group 0) refl
    (squeezed_rises n (group / 2) (a / 2) (b / 2) (apart_half group a ha) (apart_half group b hb) (omega (arith, pow-succ' 2 n)))
    (ap (squeezed n (group / 2)))
    (below_or_above (a / 2) (b / 2))
  where
    low : ℕ
    low = squeezed n (group / 2) (a / 2)

    high : ℕ
    high = squeezed n (group / 2) (b / 2)

    even_of : (x : ℕ) → meets group x ≡ false → has group 0 ≡ true → x % 2 ≡ 0
    even_of x hx g = even x (false_of (has x 0) (λ k. clash g (apart_part group x hx 0 k)))

    cases : (p : Bool) → has group 0 ≡ p → (a / 2 < b / 2 → low < high) → (a / 2 ≡ b / 2 → low ≡ high) → (a / 2 < b / 2) ⊎ (b / 2 ≤ a / 2)
        → front p (a % 2) low < front p (b % 2) high
    cases true e rest same half = rest (omega (arith, even_of a ha e, even_of b hb e))
    cases false e rest same (inl below) = let r = rest below in omega arith
    cases false e rest same (inr above) = let r = same (omega arith) in omega arith

-- and stay not empty
pub squeezed_some : (n group a : ℕ) → meets group a ≡ false → a < 2 ^ n → 0 < a → 0 < squeezed n group a
squeezed_some n group a ha small h = omega (arith, squeezed_none n group, squeezed_rises n group 0 a (apart_none group) ha small h)

-- what one holds of another it held before
pub squeezed_holds : (n group a b : ℕ) → meets group a ≡ false → meets group b ≡ false → b < 2 ^ n → holds (squeezed n group a) (squeezed n group b) ≡ true → holds a b ≡ true
unfolding squeezed
squeezed_holds zero group a b ha hb small h = let none : b ≡ 0 = omega arith in holds_of_parts a b (λ i k. clash k (ap (λ (x : ℕ). has x i) none ∙ has_empty i))
squeezed_holds (suc n) group a b ha hb small h =
    cases (has group 0) refl
    (squeezed_holds n (group / 2) (a / 2) (b / 2) (apart_half group a ha) (apart_half group b hb) (omega (arith, pow-succ' 2 n))) h
  where
    low : ℕ
    low = squeezed n (group / 2) (a / 2)

    high : ℕ
    high = squeezed n (group / 2) (b / 2)

    -- by the lowest position and the rest
    both : (has b 0 ≡ true → has a 0 ≡ true) → holds (a / 2) (b / 2) ≡ true → (i : ℕ) → has b i ≡ true → has a i ≡ true
    both first rest zero k = first k
    both first rest (suc i) k = has_suc a i ∙ holds_part (a / 2) (b / 2) rest i (sym (has_suc b i) ∙ k)

    behind : (x y i : ℕ) → has (x % 2 + 2 * y) (suc i) ≡ has y i
    behind x y i =
        let half : (x % 2 + 2 * y) / 2 ≡ y = omega arith in
        has_suc (x % 2 + 2 * y) i ∙ ap (λ (z : ℕ). has z i) half

    cases : (p : Bool) → has group 0 ≡ p → (holds low high ≡ true → holds (a / 2) (b / 2) ≡ true) → holds (front p (a % 2) low) (front p (b % 2) high) ≡ true → holds a b ≡ true
    cases true e rest h = holds_of_parts a b (both (λ k. clash e (apart_part group b hb 0 k)) (rest h))
    cases false e rest h =
        holds_of_parts a b (both
        (λ k. has_odd a (omega (arith, odd b k, odd (a % 2 + 2 * low) (holds_part _ _ h 0 (has_odd (b % 2 + 2 * high) (omega (arith, odd b k)))))))
        (rest (holds_of_parts low high (λ i k. sym (behind a low i) ∙ holds_part _ _ h (suc i) (behind b high i ∙ k)))))
