-- A word from the other end: the six parts that an index within a word has are exchanged one after the other, and then index k has become
-- 63 - k. Assumes nothing.
use mathlib.Core.Path.{◌≡◌, refl, sym, ap, ap₂, ◌∙◌}
use mathlib.Core.Bool.{Bool, true, false, cond, not, ◌&&◌, ◌||◌, and-true, and-false}
use mathlib.Core.Logic.{◌⊎◌, inl, inr}
use Prim.Native.Nat.{ℕ, suc, ◌+◌, ◌-◌, ◌*◌, ◌/◌, ◌%◌, ◌^◌, ◌≤◌, ◌<◌}
use native.Mathlib.Nat.{add_comm, add-sub_of_le, lt_of_le_of_lt, mod-lt, sub-le}
use native.Mathlib.Numerals.{add-one}
use lib.Bits.{or_lt, and_le_l}
use lib.Dec.{eqb}
use lib.Pow.{pow_pos, shr_le}
use borrow.Author.Tests.{eqb-true, eq-eqb, not-false}
use Rattle.numbers.proofs.Bools.{true_or_false, or_false}
use Rattle.numbers.proofs.Bounds.{below_or_above}
use Rattle.theory_sets.specs.Masks.{has, meet, join, any}
use Rattle.theory_sets.specs.Tables.{packed}
use Rattle.theory_sets.proofs.Masks.{has_le, has_sub, has_flip, has_low, has_join, add_below}
use Rattle.theory_sets.proofs.Ranges.{any_none}
use Rattle.theory_sets.proofs.Tables.{has_packed, packed_unique, packed_same}
use Rattle.structure_words.specs.Words.{lacks}
use Rattle.structure_words.proofs.Bits.{has_shl_below, has_moved_down, has_moved_up}
use Rattle.structure_cuts.specs.Inside.{exchanged_index, turned_index, backwards}

-- ---- one part exchanged

module _ (word part : ℕ) (hp : part < 6) (hw : word < 2 ^ 64) where
  abbrev down : ℕ
  down = meet (word / 2 ^ (2 ^ part)) (lacks part)

  abbrev up : ℕ
  up = meet word (lacks part) * 2 ^ (2 ^ part)

  exchanged_bit : (k : ℕ) → k < 64 → (has k part ≡ true) ⊎ (has k part ≡ false) → has down k || has up k ≡ has word (exchanged_index part k)
  unfolding exchanged_index
  exchanged_bit k h (inl t) =
      let own : has (k - 2 ^ part) part ≡ false = has_sub k part t part ∙ ap (λ (b : Bool). not b && has k part) (eq-eqb part part refl) in
      ap₂ (λ (p q : Bool). p || q) (has_moved_down word part k h ∙ ap (λ (b : Bool). has word (2 ^ part + k) && not b) t ∙ and-false (has word (2 ^ part + k)))
      (has_moved_up word part k h (has_le k part t) ∙ ap (λ (b : Bool). has word (k - 2 ^ part) && not b) own ∙ and-true (has word (k - 2 ^ part)))
      ∙ sym (ap (λ (b : Bool). has word (cond b (k - 2 ^ part) (k + 2 ^ part))) t)
  exchanged_bit k h (inr f) =
      ap₂ (λ (p q : Bool). p || q)
      (has_moved_down word part k h ∙ ap (λ (b : Bool). has word (2 ^ part + k) && not b) f ∙ and-true (has word (2 ^ part + k)) ∙ ap (has word) (add_comm (2 ^ part) k))
      (none (below_or_above k (2 ^ part)))
      ∙ or_false (has word (k + 2 ^ part)) ∙ sym (ap (λ (b : Bool). has word (cond b (k - 2 ^ part) (k + 2 ^ part))) f)
    where
      none : (k < 2 ^ part) ⊎ (2 ^ part ≤ k) → has up k ≡ false
      none (inl small) = has_shl_below (meet word (lacks part)) (2 ^ part) k small
      none (inr large) =
          let t : ℕ = k - 2 ^ part in
          let whole : t + 2 ^ part ≡ k = add_comm t (2 ^ part) ∙ add-sub_of_le large in
          let stands : not (has t part) ≡ false = sym (has_flip t part) ∙ ap (λ (x : ℕ). has x part) whole ∙ f in
          has_moved_up word part k h large ∙ ap (λ (q : Bool). has word t && q) stands ∙ and-false (has word t)

  pub exchanged_word : join down (up % 2 ^ 64) ≡ packed 64 (λ k. has word (exchanged_index part k))
  exchanged_word =
      packed_unique 64 (λ k. has word (exchanged_index part k)) (join down (up % 2 ^ 64))
      (or_lt 64 down (up % 2 ^ 64) (lt_of_le_of_lt (and_le_l (word / 2 ^ (2 ^ part)) (lacks part)) (lt_of_le_of_lt (shr_le word (2 ^ part)) hw)) (mod-lt up (pow_pos 64)))
      (λ k h. has_join down (up % 2 ^ 64) k ∙ ap (λ (q : Bool). has down k || q) (has_low up 64 k h) ∙ exchanged_bit k h (true_or_false (has k part)))

-- ---- the six parts one after the other

index_below : (part k : ℕ) → part < 6 → k < 64 → exchanged_index part k < 64
unfolding exchanged_index
index_below part k hp h = cases (true_or_false (has k part))
  where
    cases : (has k part ≡ true) ⊎ (has k part ≡ false) → cond (has k part) (k - 2 ^ part) (k + 2 ^ part) < 64
    cases (inl t) = rw t (lt_of_le_of_lt (sub-le k (2 ^ part)) h)
    cases (inr f) = rw f (add_below 6 k part h hp f)

pub turned_none : (word : ℕ) → word < 2 ^ 64 → word ≡ packed 64 (λ k. has word (turned_index 0 k))
unfolding turned_index
turned_none word h = packed_unique 64 (λ k. has word k) word h (λ k l. refl)

pub turned_more : (word now next part : ℕ) → part < 6 → now ≡ packed 64 (λ k. has word (turned_index part k)) → next ≡ packed 64 (λ k. has now (exchanged_index part k))
    → next ≡ packed 64 (λ k. has word (turned_index (part + 1) k))
unfolding turned_index
turned_more word now next part hp so step =
    step
    ∙ packed_same 64 (λ k. has now (exchanged_index part k)) (λ k. has word (turned_index (suc part) k)) (λ k h.
    ap (λ (w : ℕ). has w (exchanged_index part k)) so ∙ has_packed 64 (λ k. has word (turned_index part k)) (exchanged_index part k) (index_below part k hp h))
    ∙ ap (λ (parts : ℕ). packed 64 (λ k. has word (turned_index parts k))) (sym (add-one part))

-- each of the 64 indexes, computed
computed : any (λ k. not (eqb (turned_index 6 k) (63 - k))) 64 ≡ false
unfolding any turned_index exchanged_index has
computed = refl

pub turned_all : (word : ℕ) → packed 64 (λ k. has word (turned_index 6 k)) ≡ backwards word
turned_all word =
    packed_same 64 (λ k. has word (turned_index 6 k)) (λ k. has word (63 - k)) (λ k h.
    ap (has word) (eqb-true (turned_index 6 k) (63 - k) (not-false (eqb (turned_index 6 k) (63 - k)) (any_none (λ k. not (eqb (turned_index 6 k) (63 - k))) 64 k computed h))))
