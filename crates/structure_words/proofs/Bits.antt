-- What the machine's shifts do to a word's bits.
-- Assumes nothing.
use mathlib.Core.Path.{◌≡◌, sym, ap, ap₂, ◌∙◌}
use mathlib.Core.Bool.{Bool, false, not, ◌&&◌}
use Prim.Native.Nat.{ℕ, ◌+◌, ◌-◌, ◌*◌, ◌/◌, ◌^◌, ◌≤◌, ◌<◌}
use native.Mathlib.Nat.{add-sub_of_le, lt_of_le_of_lt, mul-mod_left, sub-le}
use native.Mathlib.Omega.{arith}
use lib.Pow.{pow-add, shl-shr}
use Rattle.theory_sets.specs.Masks.{has, meet}
use Rattle.theory_sets.proofs.Masks.{has_above, has_empty, has_full, has_meet, has_shift, has_low}
use Rattle.theory_sets.proofs.Tables.{has_packed, packed_unique}
use Rattle.structure_words.specs.Words.{lacks}

-- a shift to the left by s clears the s lowest bits
pub has_shl_below : (a s i : ℕ) → i < s → has (a * 2 ^ s) i ≡ false
has_shl_below a s i h =
    sym (has_low (a * 2 ^ s) s i h) ∙ ap (λ (x : ℕ). has x i) (mul-mod_left a (2 ^ s)) ∙ has_empty i

-- and moves bit i to bit s + i
pub has_shl : (a s i : ℕ) → has (a * 2 ^ s) (s + i) ≡ has a i
has_shl a s i = sym (has_shift (a * 2 ^ s) s i) ∙ ap (λ (x : ℕ). has x i) (shl-shr a s)

-- ---- the bits whose index lacks a part, moved to the index that has it, and the other way round

module _ (word part k : ℕ) (h : k < 64) where
  pub has_moved_down : has (meet (word / 2 ^ (2 ^ part)) (lacks part)) k ≡ has word (2 ^ part + k) && not (has k part)
  has_moved_down =
      has_meet (word / 2 ^ (2 ^ part)) (lacks part) k
      ∙ ap₂ (λ (p q : Bool). p && q) (has_shift word (2 ^ part) k) (has_packed 64 (λ k. not (has k part)) k h)

  pub has_moved_up : 2 ^ part ≤ k → has (meet word (lacks part) * 2 ^ (2 ^ part)) k ≡ has word (k - 2 ^ part) && not (has (k - 2 ^ part) part)
  has_moved_up large =
      let t : ℕ = k - 2 ^ part in
      ap (has (meet word (lacks part) * 2 ^ (2 ^ part))) (sym (add-sub_of_le large)) ∙ has_shl (meet word (lacks part)) (2 ^ part) t
      ∙ has_meet word (lacks part) t
      ∙ ap (λ (q : Bool). has word t && q) (has_packed 64 (λ k. not (has k part)) t (lt_of_le_of_lt (sub-le k (2 ^ part)) h))

-- no index below 64 has a part from the seventh on
pub lacks_beyond : (part : ℕ) → 6 ≤ part → lacks part ≡ 2 ^ 64 - 1
lacks_beyond part h =
    sym (packed_unique 64 (λ k. not (has k part)) (2 ^ 64 - 1) (omega arith) (λ k l. has_full 64 k l ∙ sym (ap not (has_above k 6 part l h))))

-- a part from the seventh on makes a step of whole words
pub whole_words : (part step : ℕ) → 6 ≤ part → step ≡ 2 ^ (part - 6) → 2 ^ part ≡ 64 * step
whole_words part step h e = ap (λ (x : ℕ). 2 ^ x) (sym (add-sub_of_le h)) ∙ pow-add 2 6 (part - 6) ∙ ap (λ (x : ℕ). 64 * x) (sym e)
