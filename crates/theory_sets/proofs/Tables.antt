-- Laws of packed bits and of the table form: a number is packed of its bits, and a structure's table has the structure's bits and no others.
-- Assumes nothing.
use mathlib.Core.Path.{◌≡◌, refl, sym, ap, ◌∙◌}
use mathlib.Core.Bool.{Bool, true, false, cond, ◌&&◌, ◌||◌}
use mathlib.Core.List.{List}
use mathlib.Core.Logic.{◌⊎◌, inl, inr}
use Prim.Native.Nat.{ℕ, zero, suc, ◌+◌, ◌*◌, ◌/◌, ◌%◌, ◌^◌, ◌≤◌, ◌<◌, ◌-◌}
use native.Mathlib.Nat.{le_refl, add-zero, not-suc-le-zero, le_of_suc-le-suc, zero-lt-suc, pow-succ', mod-lt, div-add-mod, add-sub_of_le, le_of_eq, lt_of_lt_of_le, eq-or-lt_of_le}
use native.Mathlib.Numerals.{add-one}
use native.Mathlib.Omega.{arith}
use lib.Bits.{or_lt}
use lib.Dec.{eqb, ltb}
use lib.ListN.{length, get_or, get_or-eq_default}
use lib.Pow.{pow_mono, pow-add, pow_pos, pow-lt, ones_lt}
use borrow.Author.Tests.{lt-ltb, le-ltb, eq-eqb, ne_eqb}
use Rattle.numbers.proofs.Tables.{tabulate_length, tabulate_at, tabulate_same}
use Rattle.theory_sets.specs.Masks.{has, join, holds}
use Rattle.theory_sets.specs.Tables.{packed, in_table, table_length, table_of}
use Rattle.theory_sets.proofs.Masks.{has_zero, has_suc, has_above, has_empty, has_join, has_single, has_full, join_more, holds_of_parts, same_bits}
use Rattle.numbers.proofs.Bools.{or_false, or_true, clash}
use Rattle.numbers.proofs.Bounds.{below_or_above}

-- ---- packed bits

lowest : (bit : Bool) (rest : ℕ) → (cond bit 1 0 + 2 * rest) % 2 ≡ cond bit 1 0
lowest true rest = omega arith
lowest false rest = omega arith

higher : (bit : Bool) (rest : ℕ) → (cond bit 1 0 + 2 * rest) / 2 ≡ rest
higher true rest = omega arith
higher false rest = omega arith

as_digit : (bit : Bool) → eqb (cond bit 1 0) 1 ≡ bit
as_digit true = refl
as_digit false = refl

pub has_packed : (k : ℕ) (bit : ℕ → Bool) (i : ℕ) → i < k → has (packed k bit) i ≡ bit i
unfolding packed
has_packed zero bit i h = absurd (not-suc-le-zero h)
has_packed (suc k) bit zero h = has_zero (packed (suc k) bit) ∙ ap (λ (x : ℕ). eqb x 1) (lowest (bit 0) (packed k (λ i. bit (suc i)))) ∙ as_digit (bit 0)
has_packed (suc k) bit (suc i) h =
    has_suc (packed (suc k) bit) i ∙ ap (λ (x : ℕ). has x i) (higher (bit 0) (packed k (λ i. bit (suc i))))
    ∙ has_packed k (λ i. bit (suc i)) i (le_of_suc-le-suc h)

pub packed_below : (k : ℕ) (bit : ℕ → Bool) → packed k bit < 2 ^ k
unfolding packed
packed_below zero bit = zero-lt-suc 0
packed_below (suc k) bit = cases (bit 0) (packed_below k (λ i. bit (suc i)))
  where
    cases : (first : Bool) → packed k (λ i. bit (suc i)) < 2 ^ k → cond first 1 0 + 2 * packed k (λ i. bit (suc i)) < 2 ^ suc k
    cases true h = omega (arith, pow-succ' 2 k)
    cases false h = omega (arith, pow-succ' 2 k)

-- a number of k bits is packed of whatever its bits are
pub packed_unique : (k : ℕ) (bit : ℕ → Bool) (a : ℕ) → a < 2 ^ k → ((i : ℕ) → i < k → has a i ≡ bit i) → a ≡ packed k bit
packed_unique k bit a h same = same_bits a (packed k bit) (λ i. cases i (below_or_above i k))
  where
    cases : (i : ℕ) → (i < k) ⊎ (k ≤ i) → has a i ≡ has (packed k bit) i
    cases i (inl below) = same i below ∙ sym (has_packed k bit i below)
    cases i (inr above) = has_above a k i h above ∙ sym (has_above (packed k bit) k i (packed_below k bit) above)

pub packed_same : (k : ℕ) (f g : ℕ → Bool) → ((i : ℕ) → i < k → f i ≡ g i) → packed k f ≡ packed k g
packed_same k f g same = packed_unique k g (packed k f) (packed_below k f) (λ i h. has_packed k f i h ∙ same i h)

-- one bit more, which is not set, or set
pub packed_less : (k : ℕ) (bit : ℕ → Bool) → bit k ≡ false → packed k bit ≡ packed (k + 1) bit
packed_less k bit off =
    packed_unique (k + 1) bit (packed k bit) (lt_of_lt_of_le (packed_below k bit) (pow_mono (omega arith))) (λ i h. cases i (eq-or-lt_of_le (omega (arith, h))))
  where
    cases : (i : ℕ) → (i ≡ k) ⊎ (i < k) → has (packed k bit) i ≡ bit i
    cases i (inr below) = has_packed k bit i below
    cases i (inl e) = has_above (packed k bit) k i (packed_below k bit) (le_of_eq (sym e)) ∙ sym off ∙ ap bit (sym e)

pub packed_more : (k : ℕ) (bit : ℕ → Bool) → bit k ≡ true → join (packed k bit) (2 ^ k) ≡ packed (k + 1) bit
packed_more k bit on =
    packed_unique (k + 1) bit (join (packed k bit) (2 ^ k))
    (or_lt (k + 1) (packed k bit) (2 ^ k) (lt_of_lt_of_le (packed_below k bit) (pow_mono (omega arith))) (pow-lt (omega arith)))
    (λ i h. has_join (packed k bit) (2 ^ k) i ∙ ap (λ (b : Bool). has (packed k bit) i || b) (has_single k i) ∙ cases i (eq-or-lt_of_le (omega (arith, h))))
  where
    cases : (i : ℕ) → (i ≡ k) ⊎ (i < k) → has (packed k bit) i || eqb i k ≡ bit i
    cases i (inr below) = rw (ne_eqb i k (λ e. omega arith)) (or_false (has (packed k bit) i) ∙ has_packed k bit i below)
    cases i (inl e) = rw (eq-eqb i k e) (or_true (has (packed k bit) i) ∙ sym on ∙ ap bit (sym e))

-- one bit more, whatever it is
pub packed_last : (k : ℕ) (bit : ℕ → Bool) → packed (suc k) bit ≡ packed k bit + cond (bit k) (2 ^ k) 0
packed_last k bit = ap (λ (x : ℕ). packed x bit) (sym (add-one k)) ∙ cases (bit k) refl
  where
    cases : (t : Bool) → bit k ≡ t → packed (k + 1) bit ≡ packed k bit + cond t (2 ^ k) 0
    cases true on = sym (packed_more k bit on) ∙ join_more (packed k bit) k (has_above (packed k bit) k k (packed_below k bit) (le_refl k))
    cases false off = sym (packed_less k bit off) ∙ sym (add-zero (packed k bit))

-- where one has every bit of another, where no bit is set, and where all are
pub packed_holds : (k : ℕ) (f g : ℕ → Bool) → ((i : ℕ) → i < k → f i ≡ true → g i ≡ true) → holds (packed k g) (packed k f) ≡ true
packed_holds k f g more = holds_of_parts (packed k g) (packed k f) (λ i h. cases i h (below_or_above i k))
  where
    cases : (i : ℕ) → has (packed k f) i ≡ true → (i < k) ⊎ (k ≤ i) → has (packed k g) i ≡ true
    cases i h (inl below) = has_packed k g i below ∙ more i below (sym (has_packed k f i below) ∙ h)
    cases i h (inr above) = clash h (has_above (packed k f) k i (packed_below k f) above)

pub packed_none : (k : ℕ) (f : ℕ → Bool) → ((i : ℕ) → i < k → f i ≡ false) → packed k f ≡ 0
packed_none k f none = sym (packed_unique k f 0 (pow_pos k) (λ i l. has_empty i ∙ sym (none i l)))

pub packed_full : (k : ℕ) (f : ℕ → Bool) → ((i : ℕ) → i < k → f i ≡ true) → packed k f ≡ 2 ^ k - 1
packed_full k f all = sym (packed_unique k f (2 ^ k - 1) (ones_lt k) (λ i l. has_full k i l ∙ sym (all i l)))

-- ---- tables

pub in_table_at : (table : List ℕ) (b k : ℕ) → k < 8 → in_table table (8 * b + k) ≡ has (get_or table b 0) k
unfolding in_table
in_table_at table b k h =
    let byte : (8 * b + k) / 8 ≡ b = omega arith in
    let bit : (8 * b + k) % 8 ≡ k = omega arith in
    rw (byte, bit)

pub in_table_beyond : (table : List ℕ) (a : ℕ) → length table ≤ a / 8 → in_table table a ≡ false
unfolding in_table
in_table_beyond table a h =
    ap (λ (byte : ℕ). has byte (a % 8)) (get_or-eq_default table 0 h) ∙ has_empty (a % 8)

pub table_of_length : (n : ℕ) (works : ℕ → Bool) → length (table_of n works) ≡ table_length n
unfolding table_of
table_of_length n works = tabulate_length (table_length n) (λ b. packed 8 (λ i. ltb (8 * b + i) (2 ^ n) && works (8 * b + i)))

-- the table of a structure has its bits
pub table_of_at : (n : ℕ) (works : ℕ → Bool) (a : ℕ) → a < 8 * table_length n → in_table (table_of n works) a ≡ ltb a (2 ^ n) && works a
unfolding in_table table_of
table_of_at n works a h =
    let split : 8 * (a / 8) + a % 8 ≡ a = div-add-mod a 8 in
    ap (λ (byte : ℕ). has byte (a % 8)) (tabulate_at (table_length n) (λ b. packed 8 (λ i. ltb (8 * b + i) (2 ^ n) && works (8 * b + i))) (a / 8) 0 (omega (arith, split)))
    ∙ has_packed 8 (λ i. ltb (8 * (a / 8) + i) (2 ^ n) && works (8 * (a / 8) + i)) (a % 8) (mod-lt a (zero-lt-suc 7))
    ∙ ap (λ (x : ℕ). ltb x (2 ^ n) && works x) split

-- for n = 0 to 2 a table is one byte, and from 3 parts on its bits are the 2^n masks
pub table_length_small : (n : ℕ) → n < 3 → table_length n ≡ 1
table_length_small n h =
    let few : 2 ^ n ≤ 2 ^ 2 = pow_mono (le_of_suc-le-suc h) in
    omega arith

pub table_length_large : (n : ℕ) → 3 ≤ n → 8 * table_length n ≡ 2 ^ n
table_length_large n h =
    let eights : 2 ^ n ≡ 2 ^ 3 * 2 ^ (n - 3) = ap (λ (k : ℕ). 2 ^ k) (sym (add-sub_of_le h)) ∙ pow-add 2 3 (n - 3) in
    omega (arith, eights, pow_pos (n - 3))

-- the 2^n masks stand in the table
pub table_length_holds : (n : ℕ) → 2 ^ n ≤ 8 * table_length n
table_length_holds n = cases (below_or_above n 3)
  where
    cases : (n < 3) ⊎ (3 ≤ n) → 2 ^ n ≤ 8 * table_length n
    cases (inl small) =
        let few : 2 ^ n ≤ 2 ^ 2 = pow_mono (le_of_suc-le-suc small) in
        omega (arith, table_length_small n small)
    cases (inr large) = le_of_eq (sym (table_length_large n large))

-- a mask of n parts is a path set of the structure's table exactly if it is one of the structure
pub table_of_works : (n : ℕ) (works : ℕ → Bool) (a : ℕ) → a < 2 ^ n → in_table (table_of n works) a ≡ works a
table_of_works n works a h =
    table_of_at n works a (lt_of_lt_of_le h (table_length_holds n)) ∙ ap (λ (t : Bool). t && works a) (lt-ltb a (2 ^ n) h)

-- structures that agree on the sets of n parts have the same table
pub table_of_same : (n : ℕ) (f g : ℕ → Bool) → ((a : ℕ) → a < 2 ^ n → f a ≡ g a) → table_of n f ≡ table_of n g
unfolding table_of
table_of_same n f g same =
    tabulate_same (table_length n) _ _ (λ b l. packed_same 8 _ _ (λ i k. cases (8 * b + i) (below_or_above (8 * b + i) (2 ^ n))))
  where
    cases : (a : ℕ) → (a < 2 ^ n) ⊎ (2 ^ n ≤ a) → ltb a (2 ^ n) && f a ≡ ltb a (2 ^ n) && g a
    cases a (inl below) = ap (λ (t : Bool). ltb a (2 ^ n) && t) (same a below)
    cases a (inr above) = rw (le-ltb a (2 ^ n) above)
