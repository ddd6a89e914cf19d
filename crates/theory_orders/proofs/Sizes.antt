-- Sizes of sets, by their bits: one part more, a lacking part, two sets that share no part, the parts of a group inside and outside a set, and the sets without a part
-- against those with it. Assumes nothing.
use mathlib.Core.Path.{◌≡◌, refl, sym, ap, ap₂, ◌∙◌, subst}
use mathlib.Core.Bool.{Bool, true, false, not, ◌&&◌, ◌||◌, and-true, and-false}
use mathlib.Core.Logic.{◌⊎◌, inl, inr}
use Prim.Native.Nat.{ℕ, zero, suc, ◌+◌, ◌-◌, ◌*◌, ◌/◌, ◌%◌, ◌^◌, ◌≤◌, ◌<◌}
use native.Mathlib.Nat.{zero-add, add-zero, zero-mul, add_comm, add_right_comm, not-suc-le-zero, le_of_suc-le-suc, le_refl, lt_irrefl, lt_of_le_of_lt, mod-lt, zero-lt-suc, pow-succ', two-pow-succ, eq-or-lt_of_le}
use native.Mathlib.Numerals.{one-add}
use native.Mathlib.Omega.{arith}
use lib.Arith.{lt-one}
use lib.Bits.{and_le_l}
use lib.Count.{ones, ones_in, ones_step, ones-le}
use lib.Dec.{eqb}
use borrow.Author.Tests.{eqb-true, eq-eqb, ne_eqb, lt-ltb}
use Rattle.numbers.proofs.Bools.{or_false, or_true}
use Rattle.numbers.proofs.Bounds.{below_or_above}
use Rattle.theory_sums.specs.Sums.{indicator, sum_below}
use Rattle.theory_sums.proofs.Sums.{sum_below_same, sum_below_add, sum_below_ones, sum_below_once, sum_below_masks, sum_below_first}
use Rattle.theory_sets.specs.Masks.{has, size, meet, inside}
use Rattle.theory_sets.proofs.Masks.{has_zero, has_suc, has_add, has_above, has_empty, has_meet, add_below}
use Rattle.theory_orders.proofs.Orders.{eqb_comm}

pub low_bit : (a : ℕ) → indicator (has a 0) ≡ a % 2
low_bit a = ap indicator (has_zero a) ∙ cases (a % 2) (mod-lt a (zero-lt-suc 1))
  where
    cases : (x : ℕ) → x < 2 → indicator (eqb x 1) ≡ x
    cases zero h = refl
    cases (suc zero) h = refl
    cases (suc (suc x)) h = absurd (not-suc-le-zero (le_of_suc-le-suc (le_of_suc-le-suc h)))

-- ---- one part more

pub size_add : (a i : ℕ) → has a i ≡ false → size (a + 2 ^ i) ≡ suc (size a)
size_add a zero h =
    let even : a % 2 ≡ 0 = sym (low_bit a) ∙ ap indicator h in
    let half : (a + 1) / 2 ≡ a / 2 = omega arith in
    ones_step (a + 1) ∙ ap (λ (x : ℕ). (a + 1) % 2 + ones x) half ∙ omega (arith, ones_step a)
size_add a (suc i) h =
    let half : (a + 2 ^ suc i) / 2 ≡ a / 2 + 2 ^ i = omega (arith, pow-succ' 2 i) in
    let low : (a + 2 ^ suc i) % 2 ≡ a % 2 = omega (arith, pow-succ' 2 i) in
    ones_step (a + 2 ^ suc i) ∙ ap₂ (λ (x y : ℕ). x + ones y) low half
    ∙ omega (arith, size_add (a / 2) i (sym (has_suc a i) ∙ h), ones_step a)

-- a set that lacks a part is smaller than the machine
pub size_lacking : (n a i : ℕ) → a < 2 ^ n → i < n → has a i ≡ false → size a < n
size_lacking n a i ha hi lacks = omega (arith, size_add a i lacks, ones-le n (a + 2 ^ i) (add_below n a i ha hi lacks))

-- ---- two sets that share no part

-- their union is their sum, bit by bit and in size
pub apart_add : (n a b : ℕ) → b < 2 ^ n → ((i : ℕ) → has b i ≡ true → has a i ≡ false)
    → ((i : ℕ) → has (a + b) i ≡ has a i || has b i) × (size (a + b) ≡ size a + size b)
unfolding ones ones_in
apart_add zero a b l apart =
    let none : b ≡ 0 = lt-one l in
    let same : a + b ≡ a = omega arith in (
      (λ i. ap (λ (x : ℕ). has x i) same ∙ sym (or_false (has a i)) ∙ ap (λ (t : Bool). has a i || t) (sym (has_empty i) ∙ ap (λ (x : ℕ). has x i) (sym none))),
      ap size same ∙ sym (add-zero (size a)) ∙ ap (λ (x : ℕ). size a + size x) (sym none),
    )
apart_add (suc n) a b l apart = cases (below_or_above b (2 ^ n)) (λ c. apart_add n a c)
  where
    turned : (p q r : Bool) → p || (q || r) ≡ q || (p || r)
    turned true true r = refl
    turned true false r = refl
    turned false q r = refl

    cases : (b < 2 ^ n) ⊎ (2 ^ n ≤ b)
        → ((c : ℕ) → c < 2 ^ n → ((i : ℕ) → has c i ≡ true → has a i ≡ false)
        → ((i : ℕ) → has (a + c) i ≡ has a i || has c i) × (size (a + c) ≡ size a + size c))
        → ((i : ℕ) → has (a + b) i ≡ has a i || has b i) × (size (a + b) ≡ size a + size b)
    cases (inl below) ih = ih b below apart
    cases (inr above) ih =
        let c : ℕ = b - 2 ^ n in
        let back : c + 2 ^ n ≡ b = omega arith in
        let small : c < 2 ^ n = omega (arith, two-pow-succ n) in
        let fresh : has c n ≡ false = has_above c n n small (le_refl n) in
        let parts : (i : ℕ) → has b i ≡ eqb i n || has c i = λ i. ap (λ (x : ℕ). has x i) (sym back) ∙ has_add c n fresh i in
        let before = ih c small (λ i h. apart i (parts i ∙ ap (λ (t : Bool). eqb i n || t) h ∙ or_true (eqb i n))) in
        let away : has a n ≡ false = apart n (parts n ∙ ap (λ (t : Bool). t || has c n) (eq-eqb n n refl)) in
        let lacks : has (a + c) n ≡ false = before.0 n ∙ ap₂ (λ (p q : Bool). p || q) away fresh in
        let joined : a + b ≡ a + c + 2 ^ n = omega arith in (
          (λ i. ap (λ (x : ℕ). has x i) joined ∙ has_add (a + c) n lacks i ∙ ap (λ (t : Bool). eqb i n || t) (before.0 i)
              ∙ turned (eqb i n) (has a i) (has c i) ∙ ap (λ (t : Bool). has a i || t) (sym (parts i))),
          ap size joined ∙ size_add (a + c) n lacks ∙ ap suc before.1
              ∙ (let one : suc (size a + size c) ≡ size a + suc (size c) = omega arith in one)
              ∙ ap (λ (x : ℕ). size a + x) (sym (ap size (sym back) ∙ size_add c n fresh)),
        )

-- ---- the size as a sum of bits

pub size_bits : (n a : ℕ) → a < 2 ^ n → size a ≡ sum_below (λ i. indicator (has a i)) n
unfolding sum_below ones ones_in
size_bits zero a h = ap ones (lt-one h)
size_bits (suc n) a h =
    let below : a / 2 < 2 ^ n = omega (arith, two-pow-succ n) in
    ones_step a
    ∙ ap₂ (λ (u v : ℕ). u + v) (sym (low_bit a))
    (size_bits n (a / 2) below
    ∙ sum_below_same (λ i. indicator (has (a / 2) i)) (λ i. indicator (has a (suc i))) n (λ i l. ap indicator (sym (has_suc a i))))
    ∙ sym (sum_below_first (λ i. indicator (has a i)) n)

-- the parts that a set lacks are the rest of the machine
pub size_rest : (n a : ℕ) → a < 2 ^ n → sum_below (λ i. indicator (not (has a i))) n + size a ≡ n
size_rest n a h =
    ap (λ (u : ℕ). sum_below (λ i. indicator (not (has a i))) n + u) (size_bits n a h)
    ∙ sym (sum_below_add (λ i. indicator (not (has a i))) (λ i. indicator (has a i)) n)
    ∙ sum_below_same (λ i. indicator (not (has a i)) + indicator (has a i)) (λ i. 1) n (λ i l. either (has a i))
    ∙ sum_below_ones n
  where
    either : (b : Bool) → indicator (not b) + indicator b ≡ 1
    either true = refl
    either false = refl

-- ---- the parts of a group that a set lacks

abbrev pub missing : ℕ → ℕ → ℕ → ℕ
missing n group a = sum_below (λ i. indicator (has group i && not (has a i))) n

pub size_meet : (n group a : ℕ) → a < 2 ^ n → inside group a ≡ sum_below (λ i. indicator (has a i && has group i)) n
size_meet n group a h =
    size_bits n (meet a group) (lt_of_le_of_lt (and_le_l a group) h)
    ∙ sum_below_same (λ i. indicator (has (meet a group) i)) (λ i. indicator (has a i && has group i)) n (λ i l. ap indicator (has_meet a group i))

pub missing_inside : (n group a : ℕ) → group < 2 ^ n → a < 2 ^ n → missing n group a + inside group a ≡ size group
missing_inside n group a hg ha =
    ap (λ (u : ℕ). missing n group a + u) (size_meet n group a ha)
    ∙ sym (sum_below_add (λ i. indicator (has group i && not (has a i))) (λ i. indicator (has a i && has group i)) n)
    ∙ sum_below_same (λ i. indicator (has group i && not (has a i)) + indicator (has a i && has group i)) (λ i. indicator (has group i)) n
    (λ i l. missing_or_inside (has group i) (has a i))
    ∙ sym (size_bits n group hg)
  where
    missing_or_inside : (p q : Bool) → indicator (p && not q) + indicator (q && p) ≡ indicator p
    missing_or_inside true true = refl
    missing_or_inside true false = refl
    missing_or_inside false true = refl
    missing_or_inside false false = refl

-- a part of the group that a set lacks is not lacked by the set with it
pub missing_add : (n group i a : ℕ) → i < n → has a i ≡ false → has group i ≡ true → missing n group a ≡ suc (missing n group (a + 2 ^ i))
missing_add n group i a l lacks belongs =
    sum_below_same (λ j. indicator (has group j && not (has a j))) (λ j. indicator (eqb i j) + indicator (has group j && not (has (a + 2 ^ i) j))) n
    (λ j m. rw (has_add a i lacks j, eqb_comm j i) (cases j (eqb i j) refl))
    ∙ sum_below_add (λ j. indicator (eqb i j)) (λ j. indicator (has group j && not (has (a + 2 ^ i) j))) n
    ∙ ap (λ (u : ℕ). u + missing n group (a + 2 ^ i)) (sum_below_once i n ∙ ap indicator (lt-ltb i n l))
    ∙ one-add (missing n group (a + 2 ^ i))
  where
    cases : (j : ℕ) (b : Bool) → eqb i j ≡ b
        → indicator (has group j && not (has a j)) ≡ indicator b + indicator (has group j && not (b || has a j))
    cases j true e = rw (← (eqb-true i j e), lacks, belongs)
    cases j false e = sym (zero-add _)

-- ---- the last part

module _ (n a : ℕ) (h : a < 2 ^ n) where
  pub has_last : has (a + 2 ^ n) n ≡ true
  has_last = has_add a n (has_above a n n h (le_refl n)) n ∙ rw (eq-eqb n n refl)

  pub has_others : (i : ℕ) → i < n → has (a + 2 ^ n) i ≡ has a i
  has_others i l = has_add a n (has_above a n n h (le_refl n)) i ∙ rw (ne_eqb i n (λ e. lt_irrefl n (subst (λ (x : ℕ). x < n) e l)))

  pub size_last : size (a + 2 ^ n) ≡ suc (size a)
  size_last = size_add a n (has_above a n n h (le_refl n))

  -- it is outside a set of the others, and inside that set with it
  pub missing_last : (group : ℕ) → missing (suc n) group a ≡ missing n group a + indicator (has group n)
  unfolding sum_below
  missing_last group = rw (has_above a n n h (le_refl n), and-true (has group n))

  pub missing_with : (group : ℕ) → missing (suc n) group (a + 2 ^ n) ≡ missing n group a
  unfolding sum_below
  missing_with group =
      rw (has_last, and-false (has group n)) (add-zero _
      ∙ sum_below_same (λ i. indicator (has group i && not (has (a + 2 ^ n) i))) (λ i. indicator (has group i && not (has a i))) n
      (λ i l. ap (λ (b : Bool). indicator (has group i && not b)) (has_others i l)))

-- ---- the sets without a part, each with it, are the sets with it

pub part_more : (n i : ℕ) (f : ℕ → ℕ) → i < n
    → sum_below (λ a. indicator (not (has a i)) * f (a + 2 ^ i)) (2 ^ n) ≡ sum_below (λ a. indicator (has a i) * f a) (2 ^ n)
part_more zero i f l = absurd (not-suc-le-zero l)
part_more (suc n) i f l =
    sum_below_masks (λ a. indicator (not (has a i)) * f (a + 2 ^ i)) n ∙ cases (eq-or-lt_of_le (le_of_suc-le-suc l)) (part_more n i)
    ∙ sym (sum_below_masks (λ a. indicator (has a i) * f a) n)
  where
    cases : (i ≡ n) ⊎ (i < n)
        → ((g : ℕ → ℕ) → i < n
        → sum_below (λ a. indicator (not (has a i)) * g (a + 2 ^ i)) (2 ^ n) ≡ sum_below (λ a. indicator (has a i) * g a) (2 ^ n))
        → sum_below (λ a. indicator (not (has a i)) * f (a + 2 ^ i)) (2 ^ n)
        + sum_below (λ a. indicator (not (has (a + 2 ^ n) i)) * f (a + 2 ^ n + 2 ^ i)) (2 ^ n)
        ≡ sum_below (λ a. indicator (has a i) * f a) (2 ^ n) + sum_below (λ a. indicator (has (a + 2 ^ n) i) * f (a + 2 ^ n)) (2 ^ n)
    cases (inl e) ih =
        rw e (ap₂ (λ (u v : ℕ). u + v)
        (sum_below_same (λ a. indicator (not (has a n)) * f (a + 2 ^ n)) (λ a. indicator (has (a + 2 ^ n) n) * f (a + 2 ^ n)) (2 ^ n)
        (λ a h. rw (has_above a n n h (le_refl n), has_last n a h)))
        (sum_below_same (λ a. indicator (not (has (a + 2 ^ n) n)) * f (a + 2 ^ n + 2 ^ n)) (λ a. indicator (has a n) * f a) (2 ^ n)
        (λ a h. rw (has_above a n n h (le_refl n), has_last n a h) (zero-mul (f (a + 2 ^ n + 2 ^ n)) ∙ sym (zero-mul (f a)))))
        ∙ add_comm _ _)
    cases (inr k) ih =
        ap₂ (λ (u v : ℕ). u + v) (ih f k)
        (sum_below_same _ (λ a. indicator (not (has a i)) * f (a + 2 ^ i + 2 ^ n)) (2 ^ n)
        (λ a h. ap₂ (λ (b : Bool) (x : ℕ). indicator (not b) * f x) (has_others n a h i k) (add_right_comm a (2 ^ n) (2 ^ i)))
        ∙ ih (λ a. f (a + 2 ^ n)) k
        ∙ sum_below_same (λ a. indicator (has a i) * f (a + 2 ^ n)) (λ a. indicator (has (a + 2 ^ n) i) * f (a + 2 ^ n)) (2 ^ n)
        (λ a h. ap (λ (b : Bool). indicator b * f (a + 2 ^ n)) (sym (has_others n a h i k))))
