-- The bytes of a word, and a word put together of them. Assumes nothing.
use mathlib.Core.Path.{◌≡◌, refl, sym, ap, ◌∙◌}
use mathlib.Core.List.{List}
use Prim.Native.Nat.{ℕ, zero, suc, ◌+◌, ◌-◌, ◌*◌, ◌/◌, ◌%◌, ◌^◌, ◌≤◌, ◌<◌}
use native.Mathlib.Nat.{mod-lt, zero-lt-suc, le_of_suc-le-suc, not-suc-le-zero, div-eq_of_lt, div-one, pow-succ', zero-add}
use native.Mathlib.Omega.{arith}
use mir.Syntax.{w64}
use lib.ListN.{get_or}
use lib.Pow.{pow_pos, pow-add, shr-shr, shr_le}
use Rattle.std.specs.Int.{byte_at, bytes_low_first, to_le_bytes}
use Rattle.theory_sets.specs.Masks.{has}
use Rattle.theory_sets.specs.Tables.{packed, in_table}
use Rattle.theory_sets.proofs.Masks.{has_low, has_shift}
use Rattle.theory_sets.proofs.Tables.{packed_unique, in_table_at}
use Rattle.structure_words.specs.Words.{in_words, word_of}
use Rattle.structure_words.proofs.Words.{has_word_of, word_of_below}

-- ---- the bytes of a word

byte_of : (w i : ℕ) → byte_at i w ≡ w / 2 ^ (8 * i) % 256
byte_of w zero = ap (λ (x : ℕ). x % 256) (sym (div-one w))
byte_of w (suc i) = ap (λ (x : ℕ). w / x % 256) (weight (suc i))
  where
    weight : (i : ℕ) → 256 ^ i ≡ 2 ^ (8 * i)
    weight zero = refl
    weight (suc i) =
        pow-succ' 256 i ∙ ap (λ (x : ℕ). 256 * x) (weight i) ∙ sym (pow-add 2 8 (8 * i)) ∙ ap (λ (x : ℕ). 2 ^ x) (omega arith)

bytes_at : (j k w i : ℕ) → i < k → get_or (bytes_low_first j k w) i 0 ≡ byte_at (j + i) w
bytes_at j zero w i h = absurd (not-suc-le-zero h)
bytes_at j (suc k) w zero h = ap (λ (x : ℕ). byte_at x w) (omega arith)
bytes_at j (suc k) w (suc i) h = bytes_at (suc j) k w i (le_of_suc-le-suc h) ∙ ap (λ (x : ℕ). byte_at x w) (omega arith)

-- a byte of the words is a byte of the table
pub stored_byte : (words bytes : List ℕ) (b w : ℕ) → bytes ≡ to_le_bytes w64 w → w ≡ get_or words (b / 8) 0 → get_or bytes (b % 8) 0 ≡ packed 8 (λ k. in_words words (8 * b + k))
unfolding in_words
stored_byte words bytes b w s e =
    let moved : ℕ = w / 2 ^ (8 * (b % 8)) in
    ap (λ (xs : List ℕ). get_or xs (b % 8) 0) s ∙ bytes_at 0 8 w (b % 8) (mod-lt b (zero-lt-suc 7)) ∙ ap (λ (x : ℕ). byte_at x w) (zero-add (b % 8)) ∙ byte_of w (b % 8)
    ∙ packed_unique 8 (λ k. in_words words (8 * b + k)) (moved % 2 ^ 8) (mod-lt moved (pow_pos 8)) (λ k h.
    let word : (8 * b + k) / 64 ≡ b / 8 = omega arith in
    let bit : (8 * b + k) % 64 ≡ 8 * (b % 8) + k = omega arith in
    has_low moved 8 k h ∙ has_shift w (8 * (b % 8)) k ∙ ap (λ (x : ℕ). has x (8 * (b % 8) + k)) e ∙ sym (rw (word, bit)))

-- ---- a word of a table, from its highest byte down: so far it is the whole word without its i lowest bytes

module _ (table : List ℕ) (at : ℕ) where
  pub loaded_none : 0 ≡ word_of (in_table table) at / 2 ^ (8 * 8)
  loaded_none = sym (div-eq_of_lt (word_of_below (in_table table) at))

  pub loaded_all : word_of (in_table table) at / 2 ^ (8 * 0) ≡ word_of (in_table table) at
  loaded_all = div-one (word_of (in_table table) at)

  -- byte i of the word
  loaded_byte : (i : ℕ) → i < 8 → get_or table (8 * at + i) 0 < 256 → word_of (in_table table) at / 2 ^ (8 * i) % 256 ≡ get_or table (8 * at + i) 0
  loaded_byte i h small =
      let moved : ℕ = word_of (in_table table) at / 2 ^ (8 * i) in
      packed_unique 8 (λ k. has (get_or table (8 * at + i) 0) k) (moved % 2 ^ 8) (mod-lt moved (pow_pos 8)) (λ k l.
      has_low moved 8 k l ∙ has_shift (word_of (in_table table) at) (8 * i) k
      ∙ has_word_of (in_table table) at (8 * i + k) (omega arith) ∙ ap (in_table table) (omega arith)
      ∙ in_table_at table (8 * at + i) k l)
      ∙ sym (packed_unique 8 (λ k. has (get_or table (8 * at + i) 0) k) (get_or table (8 * at + i) 0) small (λ k l. refl))

  module _ (i word : ℕ) (so : word ≡ word_of (in_table table) at / 2 ^ (8 * i)) (some : 0 < i) (most : i ≤ 8) where
    pub loaded_more : (byte : ℕ) → byte ≡ get_or table (8 * at + (i - 1)) 0 → byte < 256 → word * 256 + byte ≡ word_of (in_table table) at / 2 ^ (8 * (i - 1))
    loaded_more byte e small =
        let moved : ℕ = word_of (in_table table) at / 2 ^ (8 * (i - 1)) in
        let above : moved / 2 ^ 8 ≡ word =
        shr-shr (word_of (in_table table) at) (8 * (i - 1)) 8 ∙ ap (λ (x : ℕ). word_of (in_table table) at / 2 ^ x) (omega arith) ∙ sym so in
        let here : moved % 256 ≡ byte = loaded_byte (i - 1) (omega arith) (rw (sym e) small) ∙ sym e in
        omega (arith, above, here)

    pub loaded_room : word * 256 + 256 ≤ 2 ^ 64
    loaded_room =
        let moved : ℕ = word_of (in_table table) at / 2 ^ (8 * (i - 1)) in
        let above : moved / 2 ^ 8 ≡ word =
        shr-shr (word_of (in_table table) at) (8 * (i - 1)) 8 ∙ ap (λ (x : ℕ). word_of (in_table table) at / 2 ^ x) (omega arith) ∙ sym so in
        omega (arith, above, shr_le (word_of (in_table table) at) (8 * (i - 1)), word_of_below (in_table table) at)
