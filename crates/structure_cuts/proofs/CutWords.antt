-- Cut sets a word at a time: the words complemented, reversed and taken from the end, and of fewer than six parts the last 2^n bits of the
-- only word. Assumes nothing.
use mathlib.Core.Path.{◌≡◌, sym, ap, ◌∙◌}
use mathlib.Core.Bool.{Bool, false, not, ◌&&◌}
use mathlib.Core.List.{List}
use mathlib.Core.Logic.{◌⊎◌, inl, inr}
use Prim.Native.Nat.{ℕ, ◌+◌, ◌-◌, ◌*◌, ◌/◌, ◌^◌, ◌≤◌, ◌<◌}
use native.Mathlib.Nat.{lt_of_le_of_lt, le_of_suc-le-suc}
use native.Mathlib.Omega.{arith}
use lib.ListN.{get_or}
use lib.Pow.{pow_pos, pow_mono, shr_le}
use borrow.Author.Tests.{lt-ltb, le-ltb}
use Rattle.numbers.proofs.Bounds.{below_or_above}
use Rattle.theory_sets.specs.Masks.{has}
use Rattle.theory_sets.proofs.Masks.{has_above, has_empty, has_shift, has_complement}
use Rattle.theory_sets.proofs.Tables.{has_packed, packed_below}
use Rattle.theory_cuts.specs.Cuts.{cut}
use Rattle.structure_words.specs.Words.{in_words, word_of}
use Rattle.structure_words.proofs.Words.{in_words_at, word_of_unique}
use Rattle.structure_cuts.specs.Inside.{cuts_within, backwards}

-- the bits of a word in the opposite order, complemented
opposite_bit : (word k : ℕ) → k < 64 → has (2 ^ 64 - 1 - backwards word) k ≡ not (has word (63 - k))
opposite_bit word k h =
    has_complement 64 (backwards word) (packed_below 64 (λ k. has word (63 - k))) k h ∙ ap not (has_packed 64 (λ k. has word (63 - k)) k h)

-- what a set of n parts and a mask beyond them are

module _ (n : ℕ) (works : ℕ → Bool) where
  pub cuts_here : (a : ℕ) → a < 2 ^ n → cuts_within n works a ≡ cut n works a
  cuts_here a h = ap (λ (t : Bool). t && cut n works a) (lt-ltb a (2 ^ n) h)

  pub cuts_nowhere : (a : ℕ) → 2 ^ n ≤ a → cuts_within n works a ≡ false
  cuts_nowhere a h = ap (λ (t : Bool). t && cut n works a) (le-ltb a (2 ^ n) h)

-- the sets of fewer than six parts stand in one word
pub few_sets : (n : ℕ) → n < 6 → 2 ^ n ≤ 32
few_sets n small = pow_mono {j = 5} (le_of_suc-le-suc small)

module _ (words : List ℕ) (n : ℕ) where
  -- a word beyond the last is empty
  pub cut_beyond : (at : ℕ) → 2 ^ n ≤ 64 * at → 0 ≡ word_of (cuts_within n (in_words words)) at
  cut_beyond at beyond =
      word_of_unique (cuts_within n (in_words words)) at 0 (pow_pos 64) (λ k h.
      has_empty k ∙ sym (cuts_nowhere n (in_words words) (64 * at + k) (omega arith)))

  -- fewer than six parts: the sets stand at the upper end of the reversed word
  pub cut_small : (from : ℕ) → n < 6 → from ≡ backwards (get_or words 0 0)
      → (2 ^ 64 - 1 - from) / 2 ^ (64 - 2 ^ n) ≡ word_of (cuts_within n (in_words words)) 0
  unfolding cut
  cut_small from small e =
      ap (λ (w : ℕ). (2 ^ 64 - 1 - w) / 2 ^ (64 - 2 ^ n)) e
      ∙ word_of_unique (cuts_within n (in_words words)) 0 (opposite / 2 ^ (64 - 2 ^ n)) (lt_of_le_of_lt (shr_le opposite (64 - 2 ^ n)) whole) (λ k h.
      has_shift opposite (64 - 2 ^ n) k ∙ bit k (below_or_above k (2 ^ n)) ∙ ap (cuts_within n (in_words words)) (omega arith))
    where
      opposite : ℕ
      opposite = 2 ^ 64 - 1 - backwards (get_or words 0 0)

      whole : opposite < 2 ^ 64
      whole = omega arith

      few : 2 ^ n ≤ 32
      few = few_sets n small

      bit : (k : ℕ) → (k < 2 ^ n) ⊎ (2 ^ n ≤ k) → has opposite (64 - 2 ^ n + k) ≡ cuts_within n (in_words words) k
      bit k (inl below) =
          let place : 63 - (64 - 2 ^ n + k) ≡ 2 ^ n - 1 - k = omega (arith, few) in
          opposite_bit (get_or words 0 0) (64 - 2 ^ n + k) (omega (arith, few))
          ∙ ap (λ (x : ℕ). not (has (get_or words 0 0) x)) place
          ∙ ap not (sym (in_words_at words 0 (2 ^ n - 1 - k) (omega (arith, few))) ∙ ap (in_words words) (omega arith))
          ∙ sym (cuts_here n (in_words words) k below)
      bit k (inr above) = has_above opposite 64 (64 - 2 ^ n + k) whole (omega (arith, few)) ∙ sym (cuts_nowhere n (in_words words) k above)

  -- six parts and more: whole words, from the last one
  pub cut_large : (at count from : ℕ) → 2 ^ n ≡ 64 * count → at < count → from ≡ backwards (get_or words (count - 1 - at) 0)
      → 2 ^ 64 - 1 - from ≡ word_of (cuts_within n (in_words words)) at
  unfolding cut
  cut_large at count from sets inside e =
      ap (λ (w : ℕ). 2 ^ 64 - 1 - w) e
      ∙ word_of_unique (cuts_within n (in_words words)) at (2 ^ 64 - 1 - backwards (get_or words (count - 1 - at) 0)) (omega arith) (λ k h.
      let place : 64 * (count - 1 - at) + (63 - k) ≡ 2 ^ n - 1 - (64 * at + k) = omega (arith, sets) in
      opposite_bit (get_or words (count - 1 - at) 0) k h
      ∙ ap not (sym (in_words_at words (count - 1 - at) (63 - k) (omega arith)) ∙ ap (in_words words) place)
      ∙ sym (cuts_here n (in_words words) (64 * at + k) (omega (arith, sets))))
