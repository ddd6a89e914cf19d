-- One part less and one part more, a word at a time. An index within a word has parts 0 to 5, so such a part is a shift inside the word;
-- the word's own index has the parts from 6 on, so such a part leads to another word.
-- Assumes nothing.
use mathlib.Core.Path.{◌≡◌, sym, ap, ap₂, ◌∙◌, subst}
use mathlib.Core.Bool.{Bool, true, false, not, ◌&&◌, ◌||◌, and-true, and-false}
use mathlib.Core.List.{List}
use mathlib.Core.Logic.{◌⊎◌, inl, inr}
use Prim.Native.Nat.{ℕ, ◌+◌, ◌-◌, ◌*◌, ◌/◌, ◌%◌, ◌^◌, ◌≤◌, ◌<◌}
use native.Mathlib.Nat.{add-sub_of_le, add_comm, mod-lt, le_refl, lt_of_le_of_lt, zero-lt-suc}
use native.Mathlib.Omega.{arith}
use lib.Bits.{or_lt, and_le_l}
use lib.ListN.{get_or}
use lib.Pow.{pow_pos, pow-lt, shr_le}
use Rattle.numbers.specs.Counts.{up_to_16}
use Rattle.numbers.proofs.Counts.{up_to_16_given}
use Rattle.theory_sets.specs.Masks.{has, meet, join}
use Rattle.numbers.proofs.Bools.{true_or_false, or_false, and_swap, not_not}
use Rattle.theory_sets.proofs.Masks.{join_held, join_more, has_le, has_flip, has_above, has_empty, has_complement, has_low, has_meet, has_join, has_shift, add_below, bit_of_odd, bit_of_even}
use Rattle.numbers.proofs.Bounds.{below_or_above}
use Rattle.theory_sets.proofs.Tables.{has_packed, packed_below}
use Rattle.structure_words.specs.Words.{in_words, word_of, lacks}
use Rattle.structure_closure.specs.Closure.{without}
use Rattle.structure_closure.specs.Inside.{with}
use Rattle.structure_words.proofs.Bits.{has_shl_below, has_moved_down, has_moved_up, whole_words}
use Rattle.structure_words.proofs.Words.{in_words_at, word_of_unique}

-- a shift inside a word
pub shift_small : (part shift : ℕ) → shift ≡ up_to_16 part (2 ^ part) → part < 6 → shift < 64
shift_small part shift e h = subst (λ (x : ℕ). x < 64) (sym (e ∙ up_to_16_given part (2 ^ part) (omega arith))) (pow-lt h)

-- the parts of a mask, by its word's index and its bit
index_low : (at k part : ℕ) → k < 64 → part < 6 → has (64 * at + k) part ≡ has k part
index_low at k part hk hp =
    let bit : (64 * at + k) % 64 ≡ k = omega arith in
    sym (has_low (64 * at + k) 6 part hp) ∙ ap (λ (x : ℕ). has x part) bit

index_high : (at k part : ℕ) → k < 64 → has (64 * at + k) (6 + part) ≡ has at part
index_high at k part hk =
    let word : (64 * at + k) / 64 ≡ at = omega arith in
    sym (has_shift (64 * at + k) 6 part) ∙ ap (λ (x : ℕ). has x part) word

module _ (words : List ℕ) (at part : ℕ) where
  module _ (hp : part < 6) (hw : get_or words at 0 < 2 ^ 64) where
    pub without_low : meet (get_or words at 0) (lacks part) * 2 ^ (2 ^ part) % 2 ^ 64 ≡ word_of (without part (in_words words)) at
    without_low =
        word_of_unique (without part (in_words words)) at (moved % 2 ^ 64) (mod-lt moved (pow_pos 64)) (λ k h.
        has_low moved 64 k h ∙ cases k h (below_or_above k (2 ^ part)))
      where
        w : ℕ
        w = get_or words at 0

        moved : ℕ
        moved = meet w (lacks part) * 2 ^ (2 ^ part)

        cases : (k : ℕ) → k < 64 → (k < 2 ^ part) ⊎ (2 ^ part ≤ k) → has moved k ≡ without part (in_words words) (64 * at + k)
        cases k h (inl small) =
            has_shl_below (meet w (lacks part)) (2 ^ part) k small
            ∙ rw (index_low at k part h hp, has_above k part part small (le_refl part))
        cases k h (inr large) =
            let t : ℕ = k - 2 ^ part in
            let whole : 2 ^ part + t ≡ k = add-sub_of_le large in
            let turned : has (64 * at + k) part ≡ not (has t part) =
            index_low at k part h hp ∙ ap (λ (x : ℕ). has x part) (sym whole ∙ add_comm (2 ^ part) t) ∙ has_flip t part in
            let under : in_words words (64 * at + k - 2 ^ part) ≡ has w t =
            ap (in_words words) (omega (arith, whole)) ∙ in_words_at words at t (omega (arith, whole)) in
            has_moved_up w part k h large ∙ and_swap (has w t) (not (has t part)) ∙ sym (rw (turned, under))

    pub with_low : join (meet (get_or words at 0 / 2 ^ (2 ^ part)) (lacks part)) (meet (get_or words at 0) (2 ^ 64 - 1 - lacks part))
        ≡ word_of (with part (in_words words)) at
    with_low =
        word_of_unique (with part (in_words words)) at (join down here)
        (or_lt 64 down here (lt_of_le_of_lt (and_le_l (w / 2 ^ (2 ^ part)) (lacks part)) (lt_of_le_of_lt (shr_le w (2 ^ part)) hw))
        (lt_of_le_of_lt (and_le_l w (2 ^ 64 - 1 - lacks part)) hw)) (λ k h.
        has_join down here k ∙ ap₂ (λ (p q : Bool). p || q) (has_moved_down w part k h) (here_bit k h) ∙ cases k h (true_or_false (has k part)))
      where
        w : ℕ
        w = get_or words at 0

        down : ℕ
        down = meet (w / 2 ^ (2 ^ part)) (lacks part)

        here : ℕ
        here = meet w (2 ^ 64 - 1 - lacks part)

        here_bit : (k : ℕ) → k < 64 → has here k ≡ has w k && has k part
        here_bit k h =
            has_meet w (2 ^ 64 - 1 - lacks part) k
            ∙ ap (λ (q : Bool). has w k && q)
            (has_complement 64 (lacks part) (packed_below 64 (λ k. not (has k part))) k h
            ∙ ap not (has_packed 64 (λ k. not (has k part)) k h) ∙ not_not (has k part))

        cases : (k : ℕ) → k < 64 → (has k part ≡ true) ⊎ (has k part ≡ false)
            → (has w (2 ^ part + k) && not (has k part)) || (has w k && has k part) ≡ with part (in_words words) (64 * at + k)
        cases k h (inl t) =
            rw (index_low at k part h hp, t, and-false (has w (2 ^ part + k))) (and-true (has w k) ∙ sym (in_words_at words at k h))
        cases k h (inr f) =
            let near : k + 2 ^ part < 64 = add_below 6 k part h hp f in
            let over : in_words words (64 * at + k + 2 ^ part) ≡ has w (2 ^ part + k) =
            ap (in_words words) (omega arith) ∙ in_words_at words at (k + 2 ^ part) near ∙ ap (has w) (add_comm k (2 ^ part)) in
            rw (index_low at k part h hp, f, and-true (has w (2 ^ part + k)), and-false (has w k)) (or_false (has w (2 ^ part + k)) ∙ sym over)

-- A part from 6 on, with the step s that it makes among the words.
module _ (words : List ℕ) (at part s : ℕ) (hp : 6 ≤ part) (e : s ≡ 2 ^ (part - 6)) where
  index : (k : ℕ) → k < 64 → has (64 * at + k) part ≡ has at (part - 6)
  index k h = ap (has (64 * at + k)) (sym (add-sub_of_le hp)) ∙ index_high at k (part - 6) h

  step : 2 ^ part ≡ 64 * s
  step = whole_words part s hp e

  -- the test of the word's index
  module _ (t : at / 2 ^ (part - 6) % 2 ≡ 1) where
    stands : has at (part - 6) ≡ true
    stands = bit_of_odd at (part - 6) t

    pub step_le : s ≤ at
    step_le = subst (λ (x : ℕ). x ≤ at) (sym e) (has_le at (part - 6) stands)

    pub without_high : get_or words (at - s) 0 < 2 ^ 64 → get_or words (at - s) 0 ≡ word_of (without part (in_words words)) at
    without_high hw =
        word_of_unique (without part (in_words words)) at (get_or words (at - s) 0) hw (λ k h.
        let under : 64 * at + k - 2 ^ part ≡ 64 * (at - s) + k = omega (arith, step, step_le) in
        sym (in_words_at words (at - s) k h) ∙ sym (rw (index k h, stands, under)))

  module _ (f : at / 2 ^ (part - 6) % 2 ≡ 1 → ⊥) where
    absent : has at (part - 6) ≡ false
    absent =
        bit_of_even at (part - 6)
        (let rest : at / 2 ^ (part - 6) % 2 < 2 = mod-lt (at / 2 ^ (part - 6)) (zero-lt-suc 1) in omega arith)

    pub without_none : 0 ≡ word_of (without part (in_words words)) at
    without_none =
        word_of_unique (without part (in_words words)) at 0 (pow_pos 64) (λ k h.
        has_empty k ∙ sym (rw (index k h, absent)))

  pub with_high : get_or words (join at s) 0 < 2 ^ 64 → get_or words (join at s) 0 ≡ word_of (with part (in_words words)) at
  with_high hw =
      word_of_unique (with part (in_words words)) at (get_or words (join at s) 0) hw (λ k h. cases k h (true_or_false (has at (part - 6))))
    where
      cases : (k : ℕ) → k < 64 → (has at (part - 6) ≡ true) ⊎ (has at (part - 6) ≡ false)
          → has (get_or words (join at s) 0) k ≡ with part (in_words words) (64 * at + k)
      cases k h (inl t) =
          ap (λ (x : ℕ). has (get_or words x 0) k) (ap (join at) e ∙ join_held at (part - 6) t)
          ∙ sym (in_words_at words at k h) ∙ sym (rw (index k h, t))
      cases k h (inr f) =
          let over : 64 * at + k + 2 ^ part ≡ 64 * (at + s) + k = omega (arith, step) in
          ap (λ (x : ℕ). has (get_or words x 0) k) (ap (join at) e ∙ join_more at (part - 6) f ∙ ap (λ (x : ℕ). at + x) (sym e))
          ∙ sym (in_words_at words (at + s) k h) ∙ sym (rw (index k h, f, over))
