-- The sets of at least k of n parts a word at a time: an index of 16 parts is the index of its word and the six parts within the word, and what
-- the first lacks of k the second must have. Assumes nothing.
use mathlib.Core.Path.{◌≡◌, sym, ap, ◌∙◌}
use mathlib.Core.Bool.{Bool}
use mathlib.Core.Logic.{◌⊎◌, inl, inr}
use Prim.Native.Nat.{ℕ, ◌+◌, ◌-◌, ◌*◌, ◌/◌, ◌^◌, ◌≤◌, ◌<◌}
use native.Mathlib.Nat.{lt_of_le_of_lt}
use native.Mathlib.Omega.{arith}
use lib.Count.{ones_cat, ones-le}
use lib.Dec.{leb, ltb}
use lib.Pow.{pow_pos, shr_le}
use borrow.Author.Tests.{le-leb, leb-true, lt-leb, lt-ltb, le-ltb}
use Rattle.numbers.proofs.Bools.{same_test}
use Rattle.numbers.proofs.Bounds.{below_or_above}
use Rattle.theory_sets.specs.Masks.{has, size}
use Rattle.theory_sets.proofs.Masks.{has_above, has_empty, has_full, has_shift}
use Rattle.theory_sets.proofs.Tables.{packed_same, packed_unique}
use Rattle.theory_patterns.specs.Patterns.{at_least}
use Rattle.structure_words.specs.Words.{word_of}
use Rattle.structure_words.proofs.Words.{word_of_unique}
use Rattle.structure_patterns.specs.Inside.{six_with}

-- no set of six parts has seven
pub six_without : (least : ℕ) → 7 ≤ least → 0 ≡ six_with least
six_without least h =
    packed_unique 64 (λ a. leb least (size a)) 0 (pow_pos 64) (λ a l. has_empty a ∙ sym (lt-leb least (size a) (omega (arith, ones-le 6 a l))))

-- the parts that an index has are those of its word's index and those within the word
size_index : (at a : ℕ) → a < 64 → size (64 * at + a) ≡ size at + size a
size_index at a h = let split : 64 * at + a ≡ at * 2 ^ 6 + a = omega arith in ap size split ∙ ones_cat 6 at a h

pub at_least_here : (k at least : ℕ) → least ≡ k - size at → six_with least ≡ word_of (at_least k) at
unfolding word_of at_least
at_least_here k at least e =
    packed_same 64 (λ a. leb least (size a)) (λ a. leb k (size (64 * at + a))) (λ a h.
    same_test (leb least (size a)) (leb k (size (64 * at + a)))
    (λ t. le-leb k (size (64 * at + a)) (omega (arith, leb-true least (size a) t, size_index at a h)))
    (λ t. le-leb least (size a) (omega (arith, leb-true k (size (64 * at + a)) t, size_index at a h))))

-- ---- the sets of n parts

abbrev sets_of : ℕ → ℕ → Bool
sets_of n a = ltb a (2 ^ n)

-- a word beyond the last is empty
pub sets_beyond : (n at : ℕ) → 2 ^ n ≤ 64 * at → 0 ≡ word_of (sets_of n) at
sets_beyond n at h =
    word_of_unique (sets_of n) at 0 (pow_pos 64) (λ k l. has_empty k ∙ sym (le-ltb (64 * at + k) (2 ^ n) (omega arith)))

-- one before it is full
pub sets_whole : (n at : ℕ) → 64 * at + 64 ≤ 2 ^ n → 2 ^ 64 - 1 ≡ word_of (sets_of n) at
sets_whole n at h =
    word_of_unique (sets_of n) at (2 ^ 64 - 1) (omega arith) (λ k l. has_full 64 k l ∙ sym (lt-ltb (64 * at + k) (2 ^ n) (omega arith)))

-- fewer than six parts have the first 2^n bits of the only word
pub sets_small : (n : ℕ) → 2 ^ n ≤ 64 → (2 ^ 64 - 1) / 2 ^ (64 - 2 ^ n) ≡ word_of (sets_of n) 0
sets_small n small =
    word_of_unique (sets_of n) 0 ((2 ^ 64 - 1) / 2 ^ (64 - 2 ^ n)) (lt_of_le_of_lt (shr_le (2 ^ 64 - 1) (64 - 2 ^ n)) (omega arith)) (λ k l.
    has_shift (2 ^ 64 - 1) (64 - 2 ^ n) k ∙ bit k (below_or_above k (2 ^ n)) ∙ ap (sets_of n) (omega arith))
  where
    bit : (k : ℕ) → (k < 2 ^ n) ⊎ (2 ^ n ≤ k) → has (2 ^ 64 - 1) (64 - 2 ^ n + k) ≡ sets_of n k
    bit k (inl below) = has_full 64 (64 - 2 ^ n + k) (omega arith) ∙ sym (lt-ltb k (2 ^ n) below)
    bit k (inr above) = has_above (2 ^ 64 - 1) 64 (64 - 2 ^ n + k) (omega arith) (omega arith) ∙ sym (le-ltb k (2 ^ n) above)
