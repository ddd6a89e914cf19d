-- Laws of masks: what bits a sum, a difference and an intersection have, that the bits decide the mask, and that `holds` is inclusion.
-- Bits are read lowest first: bit 0 is the number's remainder by 2, and bit i + 1 is bit i of its half. Assumes nothing.
use mathlib.Core.Path.{◌≡◌, refl, sym, ap, ◌∙◌, subst}
use mathlib.Core.Bool.{Bool, true, false, not, ◌&&◌, ◌||◌}
use mathlib.Core.Logic.{◌⊎◌, inl, inr}
use Prim.Native.Nat.{ℕ, zero, suc, ◌+◌, ◌-◌, ◌*◌, ◌/◌, ◌%◌, ◌^◌, ◌≤◌, ◌<◌, min, max, zero-le}
use native.Mathlib.Nat.{div-one, div-div-eq-div-mul, pow-succ', div-eq_of_lt, mod-lt, zero-lt-suc, zero-min, zero-max, add-div_right, le_of_suc-le-suc, not-suc-le-zero, le_antisymm, lt_of_lt_of_le, pow-suc, add-zero, zero-add}
use native.Mathlib.Numerals.{add-one}
use native.Mathlib.Omega.{arith}
use lib.Arith.{bin_ind}
use lib.Bits.{and_step, or_step, and_le_l}
use lib.Dec.{eqb, eqb-suc-suc, eqb-zero-suc, eqb-suc-zero}
use lib.Pow.{pow_mono, pow_pos, shr-shr, high, field, mod-mod-pow}
use borrow.Author.Tests.{eqb-true, eqb-false, eq-eqb, ne_eqb, not-true, not-false}
use Rattle.theory_sets.specs.Masks.{has, meet, join, holds, any}
use Rattle.numbers.proofs.Bools.{and_left, and_right, and_both, or_cases, or_right, or_false, or_swap, true_or_false, same_test, clash}
use Rattle.numbers.proofs.Bounds.{below_or_above}
use Rattle.theory_sets.proofs.Ranges.{any_elim, any_none}

-- ---- the lowest bit and the rest

pub has_zero : (a : ℕ) → has a 0 ≡ eqb (a % 2) 1
unfolding has
has_zero a = ap (λ (x : ℕ). eqb (x % 2) 1) (div-one a)

pub has_suc : (a i : ℕ) → has a (suc i) ≡ has (a / 2) i
unfolding has
has_suc a i = ap (λ (x : ℕ). eqb (x % 2) 1) (ap (λ (x : ℕ). a / x) (pow-succ' 2 i) ∙ sym (div-div-eq-div-mul a 2 (2 ^ i)))

pub odd : (a : ℕ) → has a 0 ≡ true → a % 2 ≡ 1
odd a h = eqb-true (a % 2) 1 (sym (has_zero a) ∙ h)

pub even : (a : ℕ) → has a 0 ≡ false → a % 2 ≡ 0
even a h =
    let ne : a % 2 ≡ 1 → ⊥ = eqb-false (a % 2) 1 (sym (has_zero a) ∙ h) in
    omega (arith, mod-lt a (zero-lt-suc 1))

pub has_odd : (a : ℕ) → a % 2 ≡ 1 → has a 0 ≡ true
has_odd a h = has_zero a ∙ eq-eqb (a % 2) 1 h

pub has_even : (a : ℕ) → a % 2 ≡ 0 → has a 0 ≡ false
has_even a h = has_zero a ∙ ap (λ (x : ℕ). eqb x 1) h

-- two masks with the same lowest bit and the same half share every bit, and so on
same_low : (a b : ℕ) → a % 2 ≡ b % 2 → has a 0 ≡ has b 0
same_low a b e = has_zero a ∙ ap (λ (x : ℕ). eqb x 1) e ∙ sym (has_zero b)

same_rest : (a b : ℕ) (i : ℕ) → a / 2 ≡ b / 2 → has a (suc i) ≡ has b (suc i)
same_rest a b i e = has_suc a i ∙ ap (λ (x : ℕ). has x i) e ∙ sym (has_suc b i)

-- ---- one part more, one part less

pub has_add : (a i : ℕ) → has a i ≡ false → (j : ℕ) → has (a + 2 ^ i) j ≡ eqb j i || has a j
has_add a zero h zero = has_odd (a + 1) (omega (arith, even a h))
has_add a zero h (suc j) = rw (eqb-suc-zero j) (same_rest (a + 1) a j (omega (arith, even a h)))
has_add a (suc i) h zero = rw (eqb-zero-suc i) (same_low (a + 2 ^ suc i) a (omega (arith, pow-succ' 2 i)))
has_add a (suc i) h (suc j) =
    let half : (a + 2 ^ suc i) / 2 ≡ a / 2 + 2 ^ i = omega (arith, pow-succ' 2 i) in
    has_suc (a + 2 ^ suc i) j ∙ ap (λ (x : ℕ). has x j) half ∙ has_add (a / 2) i (sym (has_suc a i) ∙ h) j
    ∙ rw (eqb-suc-suc j i, has_suc a j)

pub has_le : (a i : ℕ) → has a i ≡ true → 2 ^ i ≤ a
has_le a zero h = omega (arith, odd a h)
has_le a (suc i) h =
    let below : 2 ^ i ≤ a / 2 = has_le (a / 2) i (sym (has_suc a i) ∙ h) in
    omega (arith, pow-succ' 2 i)

pub has_sub : (a i : ℕ) → has a i ≡ true → (j : ℕ) → has (a - 2 ^ i) j ≡ not (eqb j i) && has a j
has_sub a zero h zero = has_even (a - 1) (omega (arith, odd a h))
has_sub a zero h (suc j) = rw (eqb-suc-zero j) (same_rest (a - 1) a j (omega (arith, odd a h)))
has_sub a (suc i) h zero = rw (eqb-zero-suc i) (same_low (a - 2 ^ suc i) a (omega (arith, pow-succ' 2 i, has_le a (suc i) h)))
has_sub a (suc i) h (suc j) =
    let half : (a - 2 ^ suc i) / 2 ≡ a / 2 - 2 ^ i = omega (arith, pow-succ' 2 i, has_le a (suc i) h) in
    has_suc (a - 2 ^ suc i) j ∙ ap (λ (x : ℕ). has x j) half ∙ has_sub (a / 2) i (sym (has_suc a i) ∙ h) j
    ∙ rw (eqb-suc-suc j i, has_suc a j)

-- ---- a mask below 2^n has no bit from n on, and the bits decide the mask

pub has_above : (a n i : ℕ) → a < 2 ^ n → n ≤ i → has a i ≡ false
unfolding has
has_above a n i h k = ap (λ (x : ℕ). eqb (x % 2) 1) (div-eq_of_lt (lt_of_lt_of_le h (pow_mono k)))

-- the empty set has no part
pub has_empty : (i : ℕ) → has 0 i ≡ false
has_empty i = has_above 0 0 i (zero-lt-suc 0) zero-le

no_bits : (a : ℕ) → ((i : ℕ) → has a i ≡ false) → a ≡ 0
no_bits =
    bin_ind (λ (a : ℕ). ((i : ℕ) → has a i ≡ false) → a ≡ 0) (λ h. refl) (λ a rest h.
    let half : a / 2 ≡ 0 = rest (λ i. sym (has_suc a i) ∙ h (suc i)) in
    omega (arith, even a (h 0)))

low_of_same : (a b : ℕ) → has a 0 ≡ has b 0 → a % 2 ≡ b % 2
low_of_same a b h = cases (true_or_false (has b 0))
  where
    cases : (has b 0 ≡ true) ⊎ (has b 0 ≡ false) → a % 2 ≡ b % 2
    cases (inl k) = odd a (h ∙ k) ∙ sym (odd b k)
    cases (inr k) = even a (h ∙ k) ∙ sym (even b k)

pub same_bits : (a b : ℕ) → ((i : ℕ) → has a i ≡ has b i) → a ≡ b
same_bits =
    bin_ind (λ (a : ℕ). (b : ℕ) → ((i : ℕ) → has a i ≡ has b i) → a ≡ b)
    (λ b h. sym (no_bits b (λ i. sym (h i) ∙ has_empty i)))
    (λ a rest b h.
    let half : a / 2 ≡ b / 2 = rest (b / 2) (λ i. sym (has_suc a i) ∙ h (suc i) ∙ has_suc b i) in
    omega (arith, low_of_same a b (h 0)))

-- ---- the parts that two sets share

digit_and : (x y : ℕ) → x < 2 → y < 2 → eqb (min x y) 1 ≡ eqb x 1 && eqb y 1
digit_and zero y hx hy = ap (λ (m : ℕ). eqb m 1) (zero-min y)
digit_and (suc zero) zero hx hy = refl
digit_and (suc zero) (suc zero) hx hy = refl
digit_and (suc zero) (suc (suc y)) hx hy = absurd (not-suc-le-zero (le_of_suc-le-suc (le_of_suc-le-suc hy)))
digit_and (suc (suc x)) y hx hy = absurd (not-suc-le-zero (le_of_suc-le-suc (le_of_suc-le-suc hx)))

meet_low : (a b : ℕ) → meet a b % 2 ≡ min (a % 2) (b % 2)
meet_low a b = ap (λ (x : ℕ). x % 2) (and_step a b) ∙ omega (arith, mod-lt a (zero-lt-suc 1))

meet_half : (a b : ℕ) → meet a b / 2 ≡ meet (a / 2) (b / 2)
meet_half a b = ap (λ (x : ℕ). x / 2) (and_step a b) ∙ omega (arith, mod-lt a (zero-lt-suc 1))

pub has_meet : (a b i : ℕ) → has (meet a b) i ≡ has a i && has b i
has_meet a b zero =
    has_zero (meet a b) ∙ ap (λ (x : ℕ). eqb x 1) (meet_low a b)
    ∙ digit_and (a % 2) (b % 2) (mod-lt a (zero-lt-suc 1)) (mod-lt b (zero-lt-suc 1)) ∙ rw (has_zero a, has_zero b)
has_meet a b (suc i) =
    has_suc (meet a b) i ∙ ap (λ (x : ℕ). has x i) (meet_half a b) ∙ has_meet (a / 2) (b / 2) i ∙ rw (has_suc a i, has_suc b i)

-- ---- the parts that either of two sets has

digit_or : (x y : ℕ) → x < 2 → y < 2 → eqb (max x y) 1 ≡ eqb x 1 || eqb y 1
digit_or zero y hx hy = ap (λ (m : ℕ). eqb m 1) (zero-max y)
digit_or (suc zero) zero hx hy = refl
digit_or (suc zero) (suc zero) hx hy = refl
digit_or (suc zero) (suc (suc y)) hx hy = absurd (not-suc-le-zero (le_of_suc-le-suc (le_of_suc-le-suc hy)))
digit_or (suc (suc x)) y hx hy = absurd (not-suc-le-zero (le_of_suc-le-suc (le_of_suc-le-suc hx)))

join_low : (a b : ℕ) → join a b % 2 ≡ max (a % 2) (b % 2)
join_low a b = ap (λ (x : ℕ). x % 2) (or_step a b) ∙ omega (arith, mod-lt a (zero-lt-suc 1), mod-lt b (zero-lt-suc 1))

join_half : (a b : ℕ) → join a b / 2 ≡ join (a / 2) (b / 2)
join_half a b = ap (λ (x : ℕ). x / 2) (or_step a b) ∙ omega (arith, mod-lt a (zero-lt-suc 1), mod-lt b (zero-lt-suc 1))

pub has_join : (a b i : ℕ) → has (join a b) i ≡ has a i || has b i
has_join a b zero =
    has_zero (join a b) ∙ ap (λ (x : ℕ). eqb x 1) (join_low a b)
    ∙ digit_or (a % 2) (b % 2) (mod-lt a (zero-lt-suc 1)) (mod-lt b (zero-lt-suc 1)) ∙ rw (has_zero a, has_zero b)
has_join a b (suc i) =
    has_suc (join a b) i ∙ ap (λ (x : ℕ). has x i) (join_half a b) ∙ has_join (a / 2) (b / 2) i ∙ rw (has_suc a i, has_suc b i)

-- ---- one set holds another

pub holds_part : (a b : ℕ) → holds a b ≡ true → (i : ℕ) → has b i ≡ true → has a i ≡ true
unfolding holds
holds_part a b h i k =
    and_left (has a i) (has b i) (sym (has_meet a b i) ∙ ap (λ (x : ℕ). has x i) (eqb-true (meet a b) b h) ∙ k)

pub holds_of_parts : (a b : ℕ) → ((i : ℕ) → has b i ≡ true → has a i ≡ true) → holds a b ≡ true
unfolding holds
holds_of_parts a b h =
    eq-eqb (meet a b) b (same_bits (meet a b) b (λ i. has_meet a b i
    ∙ same_test (has a i && has b i) (has b i) (and_right (has a i) (has b i)) (λ k. and_both (h i k) k)))

pub holds_refl : (a : ℕ) → holds a a ≡ true
holds_refl a = holds_of_parts a a (λ i k. k)

pub holds_trans : (a b c : ℕ) → holds a b ≡ true → holds b c ≡ true → holds a c ≡ true
holds_trans a b c h k = holds_of_parts a c (λ i p. holds_part a b h i (holds_part b c k i p))

pub holds_le : (a b : ℕ) → holds a b ≡ true → b ≤ a
unfolding holds
holds_le a b h = subst (λ (x : ℕ). x ≤ a) (eqb-true (meet a b) b h) (and_le_l a b)

pub holds_antisym : (a b : ℕ) → holds a b ≡ true → holds b a ≡ true → a ≡ b
holds_antisym a b h k = le_antisymm (holds_le b a k) (holds_le a b h)

-- a set with a part more holds it, and a set holds itself with a part less
pub holds_add : (a i : ℕ) → has a i ≡ false → holds (a + 2 ^ i) a ≡ true
holds_add a i h = holds_of_parts (a + 2 ^ i) a (λ j k. has_add a i h j ∙ or_right (eqb j i) k)

pub holds_sub : (a i : ℕ) → has a i ≡ true → holds a (a - 2 ^ i) ≡ true
holds_sub a i h =
    holds_of_parts a (a - 2 ^ i) (λ j k. and_right (not (eqb j i)) (has a j) (sym (has_sub a i h j) ∙ k))

-- ---- the full set of n parts, and the bits from k on

pub has_full : (n i : ℕ) → i < n → has (2 ^ n - 1) i ≡ true
has_full zero i h = absurd (not-suc-le-zero h)
has_full (suc n) zero h = has_odd (2 ^ suc n - 1) (omega (arith, pow-succ' 2 n, pow_pos n))
has_full (suc n) (suc i) h =
    let half : (2 ^ suc n - 1) / 2 ≡ 2 ^ n - 1 = omega (arith, pow-succ' 2 n, pow_pos n) in
    has_suc (2 ^ suc n - 1) i ∙ ap (λ (x : ℕ). has x i) half ∙ has_full n i (le_of_suc-le-suc h)

pub full_holds : (n a : ℕ) → a < 2 ^ n → holds (2 ^ n - 1) a ≡ true
full_holds n a h = holds_of_parts (2 ^ n - 1) a (λ i k. cases i k (below_or_above i n))
  where
    cases : (i : ℕ) → has a i ≡ true → (i < n) ⊎ (n ≤ i) → has (2 ^ n - 1) i ≡ true
    cases i k (inl below) = has_full n i below
    cases i k (inr above) = clash k (has_above a n i h above)

-- what is left of the full set without a set: the complement in k bits, which turns every one of them over
pub has_complement : (k w : ℕ) → w < 2 ^ k → (i : ℕ) → i < k → has (2 ^ k - 1 - w) i ≡ not (has w i)
has_complement zero w h i l = absurd (not-suc-le-zero l)
has_complement (suc k) w h zero l = cases (true_or_false (has w 0))
  where
    cases : (has w 0 ≡ true) ⊎ (has w 0 ≡ false) → has (2 ^ suc k - 1 - w) 0 ≡ not (has w 0)
    cases (inl t) = rw t (has_even (2 ^ suc k - 1 - w) (omega (arith, pow-succ' 2 k, odd w t)))
    cases (inr f) = rw f (has_odd (2 ^ suc k - 1 - w) (omega (arith, pow-succ' 2 k, even w f)))
has_complement (suc k) w h (suc i) l =
    let half : (2 ^ suc k - 1 - w) / 2 ≡ 2 ^ k - 1 - w / 2 = omega (arith, pow-succ' 2 k) in
    has_suc (2 ^ suc k - 1 - w) i ∙ ap (λ (x : ℕ). has x i) half
    ∙ has_complement k (w / 2) (omega (arith, pow-succ' 2 k)) i (le_of_suc-le-suc l) ∙ ap not (sym (has_suc w i))

pub has_shift : (a k i : ℕ) → has (a / 2 ^ k) i ≡ has a (k + i)
unfolding has
has_shift a k i = ap (λ (x : ℕ). eqb (x % 2) 1) (shr-shr a k i)

-- the quotient by 2^k, cut into its lowest bit and the rest
pub quotient_half : (a k : ℕ) → a / 2 ^ suc k ≡ a / 2 ^ k / 2
quotient_half a k = ap (λ (x : ℕ). a / x) (pow-suc 2 k) ∙ sym (div-div-eq-div-mul a (2 ^ k) 2)

pub bit_of_odd : (a k : ℕ) → a / 2 ^ k % 2 ≡ 1 → has a k ≡ true
unfolding has
bit_of_odd a k h = eq-eqb (a / 2 ^ k % 2) 1 h

pub bit_of_even : (a k : ℕ) → a / 2 ^ k % 2 ≡ 0 → has a k ≡ false
unfolding has
bit_of_even a k h = ap (λ (x : ℕ). eqb x 1) h

pub quotient_odd : (a k : ℕ) → has a k ≡ true → a / 2 ^ k % 2 ≡ 1
quotient_odd a k h = odd (a / 2 ^ k) (has_shift a k 0 ∙ rw (add-zero k) h)

pub quotient_even : (a k : ℕ) → has a k ≡ false → a / 2 ^ k % 2 ≡ 0
quotient_even a k h = even (a / 2 ^ k) (has_shift a k 0 ∙ rw (add-zero k) h)

-- adding 2^k turns bit k over
pub has_flip : (a k : ℕ) → has (a + 2 ^ k) k ≡ not (has a k)
has_flip a k = cases (true_or_false (has a k))
  where
    more : (a + 2 ^ k) / 2 ^ k ≡ a / 2 ^ k + 1
    more = add-div_right a (pow_pos k)

    cases : (has a k ≡ true) ⊎ (has a k ≡ false) → has (a + 2 ^ k) k ≡ not (has a k)
    cases (inl h) = rw h (bit_of_even (a + 2 ^ k) k (ap (λ (x : ℕ). x % 2) more ∙ omega (arith, quotient_odd a k h)))
    cases (inr h) = rw h (bit_of_odd (a + 2 ^ k) k (ap (λ (x : ℕ). x % 2) more ∙ omega (arith, quotient_even a k h)))

-- the bits below k are those of the remainder by 2^k, and the bits from k on those of the quotient
pub has_block : (q k r i : ℕ) → r < 2 ^ k → has (q * 2 ^ k + r) (k + i) ≡ has q i
has_block q k r i h = sym (has_shift (q * 2 ^ k + r) k i) ∙ ap (λ (x : ℕ). has x i) (high q k h)

pub has_low : (a k i : ℕ) → i < k → has (a % 2 ^ k) i ≡ has a i
has_low a zero i h = absurd (not-suc-le-zero h)
has_low a (suc k) zero h =
    same_low (a % 2 ^ suc k) a (ap (λ (m : ℕ). a % 2 ^ m % 2) (sym (add-one k)) ∙ mod-mod-pow a k 1)
has_low a (suc k) (suc i) h =
    has_suc (a % 2 ^ suc k) i
    ∙ ap (λ (x : ℕ). has x i) (ap (λ (m : ℕ). a % 2 ^ m / 2) (sym (add-one k)) ∙ field a k 1)
    ∙ has_low (a / 2 ^ 1) k i (le_of_suc-le-suc h) ∙ sym (has_suc a i)

-- the set of a single part has that one alone
pub has_single : (i j : ℕ) → has (2 ^ i) j ≡ eqb j i
has_single i j =
    ap (λ (x : ℕ). has x j) (sym (zero-add (2 ^ i))) ∙ has_add 0 i (has_empty i) j
    ∙ ap (λ (b : Bool). eqb j i || b) (has_empty j) ∙ or_false (eqb j i)

-- joined with a part that it has, a set stays as it is, and with one that it lacks it has that part more
pub join_held : (a i : ℕ) → has a i ≡ true → join a (2 ^ i) ≡ a
join_held a i t = same_bits (join a (2 ^ i)) a (λ j. has_join a (2 ^ i) j ∙ ap (λ (b : Bool). has a j || b) (has_single i j) ∙ cases j (true_or_false (eqb j i)))
  where
    cases : (j : ℕ) → (eqb j i ≡ true) ⊎ (eqb j i ≡ false) → has a j || eqb j i ≡ has a j
    cases j (inl e) = let own : has a j ≡ true = ap (has a) (eqb-true j i e) ∙ t in rw own
    cases j (inr f) = rw f (or_false (has a j))

pub join_more : (a i : ℕ) → has a i ≡ false → join a (2 ^ i) ≡ a + 2 ^ i
join_more a i f =
    same_bits (join a (2 ^ i)) (a + 2 ^ i) (λ j.
    has_join a (2 ^ i) j ∙ ap (λ (b : Bool). has a j || b) (has_single i j) ∙ or_swap (has a j) (eqb j i) ∙ sym (has_add a i f j))

-- ---- a set between two others

-- a set with one more of the parts of a set that holds it is still held
pub holds_with : (b a k : ℕ) → holds b a ≡ true → has b k ≡ true → has a k ≡ false → holds b (a + 2 ^ k) ≡ true
holds_with b a k within hb ha =
    holds_of_parts b (a + 2 ^ k) (λ i h. cases i (or_cases (eqb i k) (has a i) (sym (has_add a k ha i) ∙ h)))
  where
    cases : (i : ℕ) → (eqb i k ≡ true) ⊎ (has a i ≡ true) → has b i ≡ true
    cases i (inl e) = subst (λ (x : ℕ). has b x ≡ true) (sym (eqb-true i k e)) hb
    cases i (inr h) = holds_part b a within i h

-- a set still holds another without a part that the other lacks
pub holds_without : (a b k : ℕ) → holds a b ≡ true → has a k ≡ true → has b k ≡ false → holds (a - 2 ^ k) b ≡ true
holds_without a b k within ha hb =
    holds_of_parts (a - 2 ^ k) b (λ i h. has_sub a k ha i
    ∙ and_both (ap not (ne_eqb i k (λ e. clash (subst (λ (x : ℕ). has b x ≡ true) e h) hb))) (holds_part a b within i h))

pub add_below : (n a i : ℕ) → a < 2 ^ n → i < n → has a i ≡ false → a + 2 ^ i < 2 ^ n
add_below n a i ha hi lacks =
    let within : a + 2 ^ i ≤ 2 ^ n - 1 = holds_le (2 ^ n - 1) (a + 2 ^ i) (holds_with (2 ^ n - 1) a i (full_holds n a ha) (has_full n i hi) lacks) in
    omega (arith, pow_pos n)

-- of two sets of n parts one of which holds the other, and which differ, the larger has a part that the smaller lacks
pub lacking : (n a b : ℕ) → a < 2 ^ n → holds a b ≡ true → (a ≡ b → ⊥) → (i : ℕ) × (i < n) × (has a i ≡ true) × (has b i ≡ false)
lacking n a b ha within differ = cases (true_or_false (any (λ i. has a i && not (has b i)) n))
  where
    cases : (any (λ i. has a i && not (has b i)) n ≡ true) ⊎ (any (λ i. has a i && not (has b i)) n ≡ false)
        → (i : ℕ) × (i < n) × (has a i ≡ true) × (has b i ≡ false)
    cases (inl some) =
        let found = any_elim (λ i. has a i && not (has b i)) n some in
        let i = found.0 in
        (i, found.1, and_left (has a i) (not (has b i)) found.2, not-true (has b i) (and_right (has a i) (not (has b i)) found.2))
    cases (inr none) = absurd (differ (holds_antisym a b within (holds_of_parts b a (λ i h. each i h (below_or_above i n)))))
      where
        each : (i : ℕ) → has a i ≡ true → (i < n) ⊎ (n ≤ i) → has b i ≡ true
        each i h (inl below) = not-false (has b i) (rw h at (any_none (λ i. has a i && not (has b i)) n i none below))
        each i h (inr above) = clash h (has_above a n i ha above)
