-- Walks over the parts and over the words: one part more carried, a broken set told part by part, and the first set of a kind, looked for word
-- by word.
-- Assumes nothing.
use mathlib.Core.Path.{◌≡◌, sym, ap, ap₂, ◌∙◌}
use mathlib.Core.Bool.{Bool, true, false, not, ◌&&◌, ◌||◌}
use mathlib.Core.List.{List}
use mathlib.Core.Logic.{◌⊎◌, inl, inr}
use Prim.Native.Nat.{ℕ, suc, ◌+◌, ◌-◌, ◌*◌, ◌^◌, ◌≤◌, ◌<◌}
use native.Mathlib.Nat.{not-suc-le-zero, le_of_lt, le_refl, lt_of_lt_of_le, lt_of_le_of_lt, add-sub_of_le, sub-le}
use native.Mathlib.Numerals.{add-one}
use native.Mathlib.Omega.{arith}
use lib.Bits.{and_lt}
use lib.ListN.{get_or}
use Rattle.theory_sets.specs.Masks.{has, meet, any, least}
use Rattle.theory_sets.specs.Structures.{broken}
use Rattle.theory_sets.proofs.Masks.{has_empty}
use Rattle.numbers.proofs.Bools.{true_or_false}
use Rattle.numbers.proofs.Bounds.{below_or_above}
use Rattle.theory_sets.proofs.Ranges.{any_same, least_none, least_found}
use Rattle.structure_words.specs.Words.{in_words, word_of, words_of}
use Rattle.structure_words.proofs.Words.{in_words_words_of, has_word_of, word_is, word_of_and, word_of_same, words_of_same}
use Rattle.structure_words.proofs.Runs.{Lowest, lowest_of}
use Rattle.structure_closure.specs.Closure.{without, spread}
use Rattle.structure_closure.specs.Inside.{with, failing_above}

-- ---- one part more carried

pub spread_more : (works : ℕ → Bool) (n : ℕ) → words_of (λ a. in_words (words_of (spread n works)) a || without n (in_words (words_of (spread n works))) a) ≡ words_of (spread (n + 1) works)
unfolding spread
spread_more works n =
    words_of_same (λ a. in_words (words_of (spread n works)) a || without n (in_words (words_of (spread n works))) a) (spread (suc n) works) (λ a h.
    ap₂ (λ (p q : Bool). p || (has a n && q)) (in_words_words_of (spread n works) a h)
    (in_words_words_of (spread n works) (a - 2 ^ n) (lt_of_le_of_lt (sub-le a (2 ^ n)) h)))
    ∙ ap (λ (m : ℕ). words_of (spread m works)) (sym (add-one n))

-- ---- broken sets

-- a path set that does not work with some single part is a broken one
pub failing_broken : (n : ℕ) (works : ℕ → Bool) (a : ℕ) → works a && failing_above n works a ≡ broken n works a
unfolding broken
failing_broken n works a = cases (true_or_false (works a))
  where
    lost : ℕ → Bool
    lost i = not (has a i) && not (works (a + 2 ^ i))

    one : (i : ℕ) → works a ≡ true → (has a i ≡ true) ⊎ (has a i ≡ false) → not (with i works a) ≡ lost i
    one i runs (inl t) = rw (t, runs)
    one i runs (inr f) = rw f

    cases : (works a ≡ true) ⊎ (works a ≡ false) → works a && failing_above n works a ≡ works a && any lost n
    cases (inl runs) = ap (λ (t : Bool). works a && t) (any_same (λ i. not (with i works a)) lost n (λ i l. one i runs (true_or_false (has a i))))
    cases (inr stopped) = rw stopped

-- ---- looking for the first broken set, word by word

pub record NoneBelow (test : ℕ → Bool) (end : ℕ) : Type 0 where
  pub none : (a : ℕ) → a < end → test a ≡ false

pub none_yet : (test : ℕ → Bool) → NoneBelow test (64 * 0)
none_yet test = record { none = λ a h. absurd (not-suc-le-zero h) }

-- no word has one
pub none_at_all : (test : ℕ → Bool) (at : ℕ) → NoneBelow test (64 * at) → 1024 ≤ at → 65536 ≡ least test 65536
none_at_all test at so h = sym (least_none test 65536 (λ a l. so.none a (omega arith)))

module _ (words : List ℕ) (parts at word lacks : ℕ) (read : word ≡ get_or words at 0) (above : lacks ≡ word_of (failing_above parts (in_words words)) at)
    (small : word < 2 ^ 64) where
  test : ℕ → Bool
  test = broken parts (in_words words)

  -- the word that is looked at is that of the broken sets
  bad : meet word lacks ≡ word_of test at
  unfolding test
  bad =
      ap₂ (λ (x y : ℕ). meet x y) (word_is words at word read small) above ∙ word_of_and (in_words words) (failing_above parts (in_words words)) at
      ∙ word_of_same (λ m. in_words words m && failing_above parts (in_words words) m) test at (failing_broken parts (in_words words))

  bit : (k : ℕ) → k < 64 → has (meet word lacks) k ≡ test (64 * at + k)
  bit k h = ap (λ (x : ℕ). has x k) bad ∙ has_word_of test at k h

  -- what the words before and the first k bits of this one lack
  so_far : NoneBelow test (64 * at) → (k : ℕ) → k ≤ 64 → ((i : ℕ) → i < k → has (meet word lacks) i ≡ false) → (a : ℕ) → a < 64 * at + k → test a ≡ false
  so_far so k h clear a l = cases (below_or_above a (64 * at))
    where
      cases : (a < 64 * at) ⊎ (64 * at ≤ a) → test a ≡ false
      cases (inl before) = so.none a before
      cases (inr inside) =
          let i : ℕ = a - 64 * at in
          let whole : 64 * at + i ≡ a = add-sub_of_le inside in
          let near : i < k = omega (arith, whole) in
          ap test (sym whole) ∙ sym (bit i (lt_of_lt_of_le near h)) ∙ clear i near

  -- an empty word: the next word is looked at
  pub none_more : meet word lacks ≡ 0 → NoneBelow (broken parts (in_words words)) (64 * at) → NoneBelow (broken parts (in_words words)) (64 * (at + 1))
  unfolding test
  none_more e so =
      record { none = λ a l. so_far so 64 (le_refl 64) (λ i h. ap (λ (x : ℕ). has x i) e ∙ has_empty i) a (omega arith) }

  -- any other word: its lowest bit is the first set
  module _ (i : ℕ) (lowest : i ≡ least (has (meet word lacks)) 64) (some : meet word lacks ≡ 0 → ⊥) (fits : lacks < 2 ^ 64) where
    low : Lowest (meet word lacks) i
    low = lowest_of (meet word lacks) i (and_lt 64 word lacks small fits) some lowest

    pub found_near : i < 64
    found_near = low.within

    pub found_first : at < 1024 → NoneBelow (broken parts (in_words words)) (64 * at) → 64 * at + i ≡ least (broken parts (in_words words)) 65536
    unfolding test
    found_first h so =
        let near : i < 64 = low.within in
        sym (least_found test 65536 (64 * at + i) (omega arith) (sym (bit i near) ∙ low.stands) (so_far so i (le_of_lt near) low.clear))
