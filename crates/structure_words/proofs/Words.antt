-- Laws of words: what bit of which word a mask is, and that the machine's operations on words are those on set functions.
-- Assumes nothing.
use mathlib.Core.Path.{◌≡◌, refl, sym, ap, ap₂, ◌∙◌, subst}
use mathlib.Core.Bool.{Bool, false, not, ◌&&◌, ◌||◌}
use mathlib.Core.List.{List}
use Prim.Native.Nat.{ℕ, ◌+◌, ◌-◌, ◌*◌, ◌/◌, ◌%◌, ◌^◌, ◌≤◌, ◌<◌}
use native.Mathlib.Decide.{ℕ_discrete}
use native.Mathlib.Nat.{one-mul, mod-eq_of_lt, mod-lt, div-add-mod, zero-lt-suc, lt_of_lt_of_le}
use native.Mathlib.Numerals.{add-one}
use native.Mathlib.Omega.{arith}
use lib.Bits.{or_lt, and_lt}
use lib.Dec.{eqb}
use lib.ListN.{get_or, set, length-set, replicate, length-replicate, get_or-replicate}
use lib.Pow.{pow_pos, pow-lt, pow_mono}
use lib.Seq.{get_or-set_same, get_or-set_other}
use borrow.Author.Tests.{ne_eqb}
use Rattle.numbers.proofs.Tables.{tabulate_at, tabulate_length, tabulate_unique}
use Rattle.theory_sets.specs.Masks.{has, meet, join, any}
use Rattle.numbers.proofs.Bools.{same_eqb, or_false}
use Rattle.theory_sets.proofs.Masks.{has_empty, has_single, has_meet, has_join, has_complement}
use Rattle.theory_sets.proofs.Tables.{has_packed, packed_below, packed_unique}
use Rattle.structure_words.specs.Words.{in_words, word_of, words_of}

-- ---- a mask's word and bit

pub in_words_at : (words : List ℕ) (at k : ℕ) → k < 64 → in_words words (64 * at + k) ≡ has (get_or words at 0) k
unfolding in_words
in_words_at words at k h =
    let word : (64 * at + k) / 64 ≡ at = omega arith in
    let bit : (64 * at + k) % 64 ≡ k = omega arith in
    rw (word, bit)

pub has_word_of : (works : ℕ → Bool) (at k : ℕ) → k < 64 → has (word_of works at) k ≡ works (64 * at + k)
unfolding word_of
has_word_of works at k h = has_packed 64 (λ k. works (64 * at + k)) k h

pub word_of_below : (works : ℕ → Bool) (at : ℕ) → word_of works at < 2 ^ 64
unfolding word_of
word_of_below works at = packed_below 64 (λ k. works (64 * at + k))

pub word_of_unique : (works : ℕ → Bool) (at w : ℕ) → w < 2 ^ 64 → ((k : ℕ) → k < 64 → has w k ≡ works (64 * at + k)) → w ≡ word_of works at
unfolding word_of
word_of_unique works at w h same = packed_unique 64 (λ k. works (64 * at + k)) w h same

pub word_of_same : (f g : ℕ → Bool) (at : ℕ) → ((a : ℕ) → f a ≡ g a) → word_of f at ≡ word_of g at
word_of_same f g at same = word_of_unique g at (word_of f at) (word_of_below f at) (λ k h. has_word_of f at k h ∙ same (64 * at + k))

-- a word is the word of the set function that the words hold
word_of_in_words : (words : List ℕ) (at : ℕ) → get_or words at 0 < 2 ^ 64 → get_or words at 0 ≡ word_of (in_words words) at
word_of_in_words words at h = word_of_unique (in_words words) at (get_or words at 0) h (λ k l. sym (in_words_at words at k l))

pub word_is : (words : List ℕ) (at w : ℕ) → w ≡ get_or words at 0 → w < 2 ^ 64 → w ≡ word_of (in_words words) at
word_is words at w e h = e ∙ word_of_in_words words at (subst (λ (x : ℕ). x < 2 ^ 64) e h)

-- the words of a set function hold it
pub in_words_words_of : (works : ℕ → Bool) (a : ℕ) → a < 65536 → in_words (words_of works) a ≡ works a
unfolding in_words
in_words_words_of works a h =
    let split : 64 * (a / 64) + a % 64 ≡ a = div-add-mod a 64 in
    ap (λ (w : ℕ). has w (a % 64)) (tabulate_at 1024 (word_of works) (a / 64) 0 (omega (arith, split)))
    ∙ has_word_of works (a / 64) (a % 64) (mod-lt a (zero-lt-suc 63)) ∙ ap works split

-- the words of a set function say of the sets of n parts what it says
pub words_say : (n : ℕ) (works : ℕ → Bool) (words : List ℕ) → n ≤ 16 → words ≡ words_of works → (a : ℕ) → a < 2 ^ n → in_words words a ≡ works a
words_say n works words few is a h = ap (λ (ws : List ℕ). in_words ws a) is ∙ in_words_words_of works a (lt_of_lt_of_le h (pow_mono few))

-- ---- joined, common and remaining sets

module _ (f g : ℕ → Bool) (at : ℕ) where
  pub word_of_or : join (word_of f at) (word_of g at) ≡ word_of (λ a. f a || g a) at
  word_of_or =
      word_of_unique (λ a. f a || g a) at (join (word_of f at) (word_of g at)) (or_lt 64 (word_of f at) (word_of g at) (word_of_below f at) (word_of_below g at))
      (λ k h. has_join (word_of f at) (word_of g at) k ∙ rw (has_word_of f at k h, has_word_of g at k h))

  pub word_of_and : meet (word_of f at) (word_of g at) ≡ word_of (λ a. f a && g a) at
  word_of_and =
      word_of_unique (λ a. f a && g a) at (meet (word_of f at) (word_of g at)) (and_lt 64 (word_of f at) (word_of g at) (word_of_below f at) (word_of_below g at))
      (λ k h. has_meet (word_of f at) (word_of g at) k ∙ rw (has_word_of f at k h, has_word_of g at k h))

pub word_of_not : (f : ℕ → Bool) (at : ℕ) → 2 ^ 64 - 1 - word_of f at ≡ word_of (λ a. not (f a)) at
word_of_not f at =
    word_of_unique (λ a. not (f a)) at (2 ^ 64 - 1 - word_of f at) (omega arith)
    (λ k h. has_complement 64 (word_of f at) (word_of_below f at) k h ∙ ap not (has_word_of f at k h))

-- what works and is not of another kind
pub word_of_but : (f g : ℕ → Bool) (at w s : ℕ) → w ≡ word_of f at → s ≡ word_of g at → meet w (2 ^ 64 - 1 - s) ≡ word_of (λ a. f a && not (g a)) at
word_of_but f g at w s e d =
    ap₂ (λ (x y : ℕ). meet x (2 ^ 64 - 1 - y)) e d ∙ ap (meet (word_of f at)) (word_of_not g at) ∙ word_of_and f (λ a. not (g a)) at

-- two set functions that agree on the masks of 16 parts have the same words
pub words_of_same : (f g : ℕ → Bool) → ((a : ℕ) → a < 65536 → f a ≡ g a) → words_of f ≡ words_of g
words_of_same f g same =
    tabulate_unique 1024 (word_of g) (words_of f) 0 (tabulate_length 1024 (word_of f)) (λ j h.
    tabulate_at 1024 (word_of f) j 0 h
    ∙ word_of_unique g j (word_of f j) (word_of_below f j) (λ k l. has_word_of f j k l ∙ same (64 * j + k) (omega arith)))

-- no set: every word is 0
pub words_of_none : (f : ℕ → Bool) → ((a : ℕ) → f a ≡ false) → replicate 1024 0 ≡ words_of f
words_of_none f none =
    tabulate_unique 1024 (word_of f) (replicate 1024 0) 0 (length-replicate {A = ℕ} 1024 0) (λ j h.
    get_or-replicate 1024 j 0 0 h
    ∙ word_of_unique f j 0 (pow_pos 64) (λ k l. has_empty k ∙ sym (none (64 * j + k))))

-- ---- one set more

module _ (f : ℕ → Bool) (m : ℕ) (h : m < 65536) where
  more : ℕ → Bool
  more a = f a || eqb m a

  -- the word that has the set gets its bit, and the others have no bit of it
  hit : join (word_of f (m / 64)) (2 ^ (m % 64)) ≡ word_of more (m / 64)
  unfolding more
  hit =
      word_of_unique more (m / 64) (join (word_of f (m / 64)) (2 ^ (m % 64)))
      (or_lt 64 (word_of f (m / 64)) (2 ^ (m % 64)) (word_of_below f (m / 64)) (pow-lt (mod-lt m (zero-lt-suc 63)))) (λ k l.
      has_join (word_of f (m / 64)) (2 ^ (m % 64)) k
      ∙ ap₂ (λ (p q : Bool). p || q) (has_word_of f (m / 64) k l)
      (has_single (m % 64) k ∙ same_eqb k (m % 64) m (64 * (m / 64) + k) (λ e. omega arith) (λ e. omega arith)))

  miss : (j : ℕ) → (j ≡ m / 64 → ⊥) → word_of f j ≡ word_of more j
  unfolding more
  miss j other =
      word_of_unique more j (word_of f j) (word_of_below f j) (λ k l.
      has_word_of f j k l
      ∙ sym (ap (λ (p : Bool). f (64 * j + k) || p) (ne_eqb m (64 * j + k) (λ e. other (omega arith))) ∙ or_false (f (64 * j + k))))

  pub marked_more : set (words_of f) (m / 64) (join (get_or (words_of f) (m / 64) 0) (2 ^ (m % 64))) ≡ words_of (λ a. f a || eqb m a)
  unfolding more
  marked_more =
      let q : ℕ = m / 64 in
      let inside : q < 1024 = omega arith in
      let now : ℕ = join (get_or (words_of f) q 0) (2 ^ (m % 64)) in
      tabulate_unique 1024 (word_of more) (set (words_of f) q now) 0 (length-set (words_of f) q now ∙ tabulate_length 1024 (word_of f))
      (λ j l. cases j l inside (ℕ_discrete j q))
    where
      cases : (j : ℕ) → j < 1024 → m / 64 < 1024 → Dec (j ≡ m / 64)
          → get_or (set (words_of f) (m / 64) (join (get_or (words_of f) (m / 64) 0) (2 ^ (m % 64)))) j 0 ≡ word_of more j
      cases j l inside (yes e) =
          let read : get_or (words_of f) (m / 64) 0 ≡ word_of f (m / 64) = tabulate_at 1024 (word_of f) (m / 64) 0 inside in
          ap (λ (x : ℕ). get_or (set (words_of f) (m / 64) (join (get_or (words_of f) (m / 64) 0) (2 ^ (m % 64)))) x 0) e
          ∙ get_or-set_same (words_of f) (m / 64) (join (get_or (words_of f) (m / 64) 0) (2 ^ (m % 64))) 0
          (subst (λ (x : ℕ). m / 64 < x) (sym (tabulate_length 1024 (word_of f))) inside)
          ∙ ap (λ (x : ℕ). join x (2 ^ (m % 64))) read ∙ hit ∙ ap (word_of more) (sym e)
      cases j l inside (no other) =
          get_or-set_other (words_of f) (m / 64) j (join (get_or (words_of f) (m / 64) 0) (2 ^ (m % 64))) 0 other
          ∙ tabulate_at 1024 (word_of f) j 0 l ∙ miss j other

-- the mask a is one of the first of the list
abbrev pub among_first : List ℕ → ℕ → ℕ → Bool
among_first list i a = any (λ k. eqb (get_or list k 0) a) i

pub marked_none : (list : List ℕ) → replicate 1024 0 ≡ words_of (among_first list 0)
unfolding any
marked_none list = words_of_none (among_first list 0) (λ a. refl)

-- the next set of the list is marked, as the machine does it
pub marked_next : (list marks : List ℕ) (i m : ℕ) → marks ≡ words_of (among_first list i) → m ≡ get_or list i 0 → m < 65536
    → set marks (m / 64) (join (get_or marks (m / 64) 0) (1 * 2 ^ (m % 64) % 2 ^ 64)) ≡ words_of (among_first list (i + 1))
unfolding any
marked_next list marks i m so is small =
    let f : ℕ → Bool = among_first list i in
    let bit : 1 * 2 ^ (m % 64) % 2 ^ 64 ≡ 2 ^ (m % 64) =
    ap (λ (x : ℕ). x % 2 ^ 64) (one-mul (2 ^ (m % 64))) ∙ mod-eq_of_lt (pow-lt (mod-lt m (zero-lt-suc 63))) in
    ap₂ (λ (now : List ℕ) (b : ℕ). set now (m / 64) (join (get_or now (m / 64) 0) b)) so bit ∙ marked_more f m small
    ∙ ap (λ (x : ℕ). words_of (λ a. f a || eqb x a)) is ∙ ap (λ (k : ℕ). words_of (among_first list k)) (sym (add-one i))

-- ---- some of a family of set functions, joined one after the other

module _ (family : ℕ → ℕ → Bool) (at : ℕ) where
  pub any_word_none : 0 ≡ word_of (λ a. any (λ i. family i a) 0) at
  unfolding any
  any_word_none = word_of_unique (λ a. any (λ i. family i a) 0) at 0 (pow_pos 64) (λ k h. has_empty k)

  pub any_word_more : (n some next : ℕ) → some ≡ word_of (λ a. any (λ i. family i a) n) at → next ≡ word_of (family n) at
      → join some next ≡ word_of (λ a. any (λ i. family i a) (n + 1)) at
  unfolding any
  any_word_more n some next e d =
      ap₂ (λ (x y : ℕ). join x y) e d ∙ word_of_or (λ a. any (λ i. family i a) n) (family n) at
      ∙ ap (λ (m : ℕ). word_of (λ a. any (λ i. family i a) m) at) (sym (add-one n))
