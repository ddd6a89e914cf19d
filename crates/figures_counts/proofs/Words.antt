-- Words of the sets that have a part, and words counted by size: what one word adds to the counts. Assumes nothing.
use mathlib.Core.Path.{◌≡◌, refl, sym, ap, ap₂, ◌∙◌, subst}
use mathlib.Core.Bool.{Bool, true, false, cond, ◌&&◌, ◌||◌, and-false, not}
use mathlib.Core.List.{List, ◌++◌}
use Prim.Native.Nat.{ℕ, zero-le, ◌+◌, ◌-◌, ◌*◌, ◌%◌, ◌^◌, ◌≤◌, ◌<◌, ◌/◌, min}
use native.Mathlib.Nat.{zero-lt-suc, le_refl, le_trans, le_of_eq, lt_of_le_of_lt, add-zero, add-sub_cancel_left, zero-add}
use native.Mathlib.Omega.{arith}
use lib.Bits.{and_le_l}
use lib.Count.{ones, ones-le, ones_cat}
use lib.Dec.{eqb}
use lib.ListN.{length, get_or, set, take, drop, length-take, get_or-eq_default}
use lib.Seq.{get_or-take}
use borrow.Author.Tests.{eqb-true, eq-eqb, ne_eqb, le-leb, lt-leb}
use Rattle.std.proofs.lemmas.List.{take-append-drop}
use Rattle.std.proofs.lemmas.List.FromFn.{length-enumerate_from, get_or-enumerate_from}
use Rattle.std.proofs.lemmas.Grind.{get_or_default_zero}
use Rattle.std.specs.List.{enumerate_from}
use borrow.Rule.Slice.PartMut.{mid_of, put_mid, mid_len}
use Rattle.numbers.proofs.Parts.{mid_at, part_back}
use Rattle.numbers.specs.Tables.{tabulate, NoneOver}
use Rattle.numbers.proofs.Tables.{tabulate_unique, tabulate_same, filled, filled_from, filled_again, filled_end, filled_rest, tabulate_at, tabulate_few}
use Rattle.theory_sums.specs.Sums.{indicator, sum_below}
use Rattle.theory_sums.proofs.Sums.{sum_below_same, sum_below_le, sum_below_zero, sum_below_ones, sum_below_append}
use Rattle.theory_sets.specs.Masks.{has, size, meet}
use Rattle.theory_sets.specs.Tables.{packed}
use Rattle.numbers.proofs.Bools.{same_test, not_not}
use Rattle.theory_sets.proofs.Masks.{has_full, has_above, has_low, has_block, has_meet, has_complement, has_empty, bit_of_odd, bit_of_even}
use Rattle.theory_sets.proofs.Tables.{has_packed, packed_below, packed_unique}
use Rattle.theory_orders.specs.Formulas.{path_count}
use Rattle.theory_orders.proofs.Sizes.{size_bits}
use Rattle.structure_words.specs.Words.{word_of, lacks, in_words}
use Rattle.structure_words.proofs.Words.{word_of_unique, in_words_at}
use Rattle.figures_counts.specs.Rows.{has_part}
use Rattle.figures_counts.specs.Inside.{in_word}

-- ---- the sets that have a part

module _ (at part : ℕ) where
  -- a part of the index within a word
  pub having_low : (lacking : ℕ) → part < 6 → lacking ≡ lacks part → 2 ^ 64 - 1 - lacking ≡ word_of (has_part part) at
  unfolding word_of has_part
  having_low lacking l e =
      ap (λ (w : ℕ). 2 ^ 64 - 1 - w) e
      ∙ packed_unique 64 (λ k. has_part part (64 * at + k)) (2 ^ 64 - 1 - lacks part) (omega arith) (λ k h.
      let within : (64 * at + k) % 64 ≡ k = omega arith in
      has_complement 64 (lacks part) (packed_below 64 (λ k. not (has k part))) k h ∙ ap not (has_packed 64 (λ k. not (has k part)) k h) ∙ not_not (has k part)
      ∙ sym (ap (λ (b : Bool). b || has (64 * at + k) part) (lt-leb 16 part (omega arith)) ∙ sym (has_low (64 * at + k) 6 part l)
      ∙ ap (λ (x : ℕ). has x part) within))

  -- a part of the word's index
  module _ (low : 6 ≤ part) (high : part < 16) where
    has_index : (k : ℕ) → k < 64 → has_part part (64 * at + k) ≡ has at (part - 6)
    unfolding has_part
    has_index k h =
        let turned : 64 * at + k ≡ at * 2 ^ 6 + k = omega arith in
        let split : part ≡ 6 + (part - 6) = omega arith in
        ap (λ (b : Bool). b || has (64 * at + k) part) (lt-leb 16 part high) ∙ ap₂ has turned split ∙ has_block at 6 k (part - 6) h

    pub having_all : at / 2 ^ (part - 6) % 2 ≡ 1 → 2 ^ 64 - 1 ≡ word_of (has_part part) at
    having_all h =
        word_of_unique (has_part part) at (2 ^ 64 - 1) (omega arith) (λ k l. has_full 64 k l ∙ sym (has_index k l ∙ bit_of_odd at (part - 6) h))

    pub having_none : (at / 2 ^ (part - 6) % 2 ≡ 1 → ⊥) → 0 ≡ word_of (has_part part) at
    having_none h =
        word_of_unique (has_part part) at 0 (omega arith) (λ k l. has_empty k ∙ sym (has_index k l ∙ bit_of_even at (part - 6) (omega arith)))

  -- no part at all
  pub having_every : 16 ≤ part → 2 ^ 64 - 1 ≡ word_of (has_part part) at
  unfolding has_part
  having_every h =
      word_of_unique (has_part part) at (2 ^ 64 - 1) (omega arith) (λ k l.
      has_full 64 k l ∙ sym (ap (λ (b : Bool). b || has (64 * at + k) part) (le-leb 16 part h)))

-- ---- the sets of one word by size

-- how many sets of a word have an index within the word of k parts
unfoldable pub of_size : ℕ → ℕ → ℕ
of_size word k = sum_below (λ m. indicator (has word m && eqb (size m) k)) 64

module _ (word : ℕ) where
  pub of_size_ones : (k : ℕ) → word < 2 ^ 64 → ones (meet word (packed 64 (λ m. eqb (size m) k))) ≡ of_size word k
  unfolding of_size
  of_size_ones k h =
      size_bits 64 (meet word (packed 64 (λ m. eqb (size m) k))) (lt_of_le_of_lt (and_le_l word (packed 64 (λ m. eqb (size m) k))) h)
      ∙ sum_below_same _ _ 64 (λ m l.
      ap indicator (has_meet word (packed 64 (λ m. eqb (size m) k)) m ∙ ap (λ (b : Bool). has word m && b) (has_packed 64 (λ m. eqb (size m) k) m l)))

  -- counts of sizes with the sets of the first k sizes added, and those of one size more
  abbrev pub added : List ℕ → ℕ → List ℕ
  added counts k = filled (λ i. get_or counts i 0 + of_size word i) counts k

  pub added_turn : (counts now : List ℕ) (k : ℕ) → now ≡ added counts k → get_or now k 0 ≡ get_or counts k 0
  added_turn counts now k e =
      ap (λ (xs : List ℕ). get_or xs k 0) e ∙ filled_from (λ i. get_or counts i 0 + of_size word i) counts k k 0 (le_refl k)

  pub added_more : (counts now : List ℕ) (k sets : ℕ) → now ≡ added counts k → k < length counts → word < 2 ^ 64 → sets ≡ packed 64 (λ m. eqb (size m) k)
      → set now k (get_or now k 0 + ones (meet word sets)) ≡ added counts (k + 1)
  added_more counts now k sets e h fits is =
      filled_again (λ i. get_or counts i 0 + of_size word i) counts k (get_or now k 0 + ones (meet word sets)) now e h
      (ap₂ (λ (u v : ℕ). u + v) (added_turn counts now k e) (ap (λ (x : ℕ). ones (meet word x)) is ∙ of_size_ones k fits))

module _ (word base : ℕ) where
  -- a word adds its sets of k parts to the count of base + k, and nothing to any other
  in_word_here : (k : ℕ) → in_word word base (base + k) ≡ of_size word k
  unfolding in_word of_size
  in_word_here k =
      sum_below_same _ _ 64 (λ m l.
      ap (λ (b : Bool). indicator (has word m && b))
      (same_test (eqb (base + size m) (base + k)) (eqb (size m) k) (λ t. eq-eqb (size m) k (omega (arith, eqb-true (base + size m) (base + k) t)))
      (λ t. eq-eqb (base + size m) (base + k) (omega (arith, eqb-true (size m) k t)))))

  in_word_other : (s : ℕ) → ((m : ℕ) → m < 64 → base + size m ≡ s → ⊥) → in_word word base s ≡ 0
  unfolding in_word
  in_word_other s other =
      sum_below_same _ (λ m. 0) 64 (λ m l.
      ap (λ (b : Bool). indicator (has word m && b)) (ne_eqb (base + size m) s (other m l)) ∙ ap indicator (and-false (has word m)))
      ∙ sum_below_zero 64

  module _ (counts now : List ℕ) (k : ℕ) (len : length counts ≡ 17) (low : base ≤ 10) where
    abbrev seven : List ℕ
    seven = mid_of base (base + 7 - base) counts

    seven_long : length seven ≡ 7
    seven_long = mid_len base (base + 7) counts (omega arith) ∙ add-sub_cancel_left base 7

    -- a count that has its turn is what it was
    pub added_few : now ≡ added word seven k → k < length seven → NoneOver 65536 counts → get_or now k 0 ≤ 65536
    added_few e h few =
        le_trans (le_of_eq (added_turn word seven now k e ∙ mid_at base (base + 7 - base) counts k (omega (arith, seven_long)))) (few (base + k))

    pub added_all : now ≡ added word seven k → k ≤ length seven → length seven ≤ k
        → put_mid base (base + 7 - base) counts now ≡ tabulate 17 (λ s. get_or counts s 0 + in_word word base s)
    added_all e up down =
        part_back f counts counts base 7 before (omega arith) now
        (filled_end g seven k 7 now e (omega (arith, seven_long)) (omega (arith, seven_long)) seven_long
        ∙ tabulate_same 7 g (λ s. f (base + s)) (λ s h.
        ap₂ (λ (u v : ℕ). u + v) (mid_at base (base + 7 - base) counts s (omega arith)) (sym (in_word_here s))))
        ∙ filled_rest f counts (base + 7) 17 len (omega arith) (λ j above below. kept j (λ m l same. omega (arith, ones-le 6 m l)))
      where
        f : ℕ → ℕ
        f s = get_or counts s 0 + in_word word base s

        g : ℕ → ℕ
        g i = get_or seven i 0 + of_size word i

        kept : (j : ℕ) → ((m : ℕ) → m < 64 → base + size m ≡ j → ⊥) → f j ≡ get_or counts j 0
        kept j other = ap (λ (u : ℕ). get_or counts j 0 + u) (in_word_other j other) ∙ add-zero (get_or counts j 0)

        before : counts ≡ filled f counts base
        before =
            sym (take-append-drop base counts)
            ∙ ap (λ (front : List ℕ). front ++ drop base counts)
            (tabulate_unique base f (take base counts) 0 (length-take base counts ∙ omega arith) (λ j h.
            get_or-take base counts j 0 h ∙ sym (kept j (λ m l same. omega arith))))

-- an empty word adds nothing
pub in_word_none : (counts : List ℕ) (word base : ℕ) → length counts ≡ 17 → word ≡ 0 → counts ≡ tabulate 17 (λ s. get_or counts s 0 + in_word word base s)
unfolding in_word
in_word_none counts word base len none =
    tabulate_unique 17 (λ s. get_or counts s 0 + in_word word base s) counts 0 len (λ s l.
    sym (ap (λ (u : ℕ). get_or counts s 0 + u)
    (sum_below_same _ (λ m. 0) 64 (λ m h.
    ap (λ (b : Bool). indicator (b && eqb (base + size m) s)) (ap (λ (w : ℕ). has w m) none ∙ has_above 0 0 m (zero-lt-suc 0) zero-le)) ∙ sum_below_zero 64)
    ∙ add-zero (get_or counts s 0)))

-- ---- all words by size

-- how many of the sets of the first words pass a test and have size s
unfoldable pub sizes : (ℕ → Bool) → ℕ → ℕ → ℕ
sizes test at s = sum_below (λ a. cond (test a && eqb (size a) s) 1 0) (64 * at)

module _ (test : ℕ → Bool) where
  pub sizes_most : (at s : ℕ) → at ≤ 1024 → sizes test at s ≤ 65536
  unfolding sizes
  sizes_most at s h =
      le_trans (sum_below_le _ (λ a. 1) (64 * at) (λ a m. one_most (test a && eqb (size a) s)))
      (le_trans (le_of_eq (sum_below_ones (64 * at))) (omega arith))
    where
      one_most : (t : Bool) → cond t 1 0 ≤ 1
      one_most true = le_refl 1
      one_most false = omega arith

  -- one word more
  pub sizes_next : (at word s : ℕ) → ((k : ℕ) → k < 64 → has word k ≡ test (64 * at + k))
      → sizes test at s + in_word word (size at) s ≡ sizes test (at + 1) s
  unfolding sizes in_word
  sizes_next at word s bits =
      ap (λ (u : ℕ). sizes test at s + u)
      (sum_below_same _ (λ k. cond (test (64 * at + k) && eqb (size (64 * at + k)) s) 1 0) 64 (λ k h.
      ap₂ (λ (b : Bool) (x : ℕ). indicator (b && eqb x s)) (bits k h)
      (sym (let turned : 64 * at + k ≡ at * 2 ^ 6 + k = omega arith in ap ones turned ∙ ones_cat 6 at k h))
      ∙ shown (test (64 * at + k) && eqb (size (64 * at + k)) s)))
      ∙ sym (sum_below_append (λ a. cond (test a && eqb (size a) s) 1 0) (64 * at) 64)
      ∙ ap (sum_below (λ a. cond (test a && eqb (size a) s) 1 0)) (omega arith)
    where
      shown : (t : Bool) → indicator t ≡ cond t 1 0
      shown true = refl
      shown false = refl

-- ---- the first 1,024 words of a slice, one after the other

module _ (words : List ℕ) where
  -- the index and the word of a turn
  pub word_turn : (n at w : ℕ) → (n < length (enumerate_from 0 (take 1024 words))) × ((at, w) ≡ get_or (enumerate_from 0 (take 1024 words)) n (at, w))
      → (n < 1024) × ((at ≡ n) × (w ≡ get_or words n 0))
  word_turn n at w turn =
      let inside : n < length (take 1024 words) = omega (arith, turn.0, length-enumerate_from 0 (take 1024 words)) in
      let few : n < 1024 = omega (arith, length-take 1024 words) in
      let here : n < length words = omega (arith, length-take 1024 words) in
      let pair : ◌≡◌ {A = ℕ × ℕ} (at, w) (0 + n, get_or (take 1024 words) n w) = turn.1 ∙ get_or-enumerate_from 0 (take 1024 words) n (at, w) inside in (
        few,
        (
          ap (λ (p : ℕ × ℕ). p.0) pair ∙ zero-add n,
          ap (λ (p : ℕ × ℕ). p.1) pair ∙ get_or-take 1024 words n w few ∙ get_or_default_zero words n w here,
        ),
      )

  -- the counts before a turn, and behind it
  pub sizes_few : (counts : List ℕ) (n : ℕ) → counts ≡ tabulate 17 (sizes (in_words words) n) → n ≤ 1024 → NoneOver 65536 counts
  sizes_few counts n e few =
      subst (λ (xs : List ℕ). NoneOver 65536 xs) (sym e) (tabulate_few 17 (sizes (in_words words) n) 65536 (λ s. sizes_most (in_words words) n s few))

  pub sizes_turn : (counts next : List ℕ) (n at w m : ℕ) → counts ≡ tabulate 17 (sizes (in_words words) n) → at ≡ n → w ≡ get_or words n 0
      → next ≡ tabulate 17 (λ s. get_or counts s 0 + in_word w (size at) s) → m ≡ n + 1 → next ≡ tabulate 17 (sizes (in_words words) m)
  sizes_turn counts next n at w m e here word turned more =
      turned
      ∙ tabulate_same 17 _ (sizes (in_words words) m) (λ s h.
      ap₂ (λ (xs : List ℕ) (x : ℕ). get_or xs s 0 + in_word w (size x) s) e here
      ∙ ap (λ (x : ℕ). x + in_word w (size n) s) (tabulate_at 17 (sizes (in_words words) n) s 0 h)
      ∙ sizes_next (in_words words) n w s (λ k l. ap (λ (x : ℕ). has x k) word ∙ sym (in_words_at words n k l))
      ∙ ap (λ (x : ℕ). sizes (in_words words) x s) (sym more))

  -- a word that is lacking has no set
  pub words_beyond : (a : ℕ) → length words ≤ a / 64 → in_words words a ≡ false
  unfolding in_words
  words_beyond a h = ap (λ (w : ℕ). has w (a % 64)) (get_or-eq_default words 0 h) ∙ has_empty (a % 64)

  pub sizes_end : (test : ℕ → Bool) → ((a : ℕ) → length words ≤ a / 64 → test a ≡ false) → (n : ℕ) → n ≡ length (enumerate_from 0 (take 1024 words))
      → (s : ℕ) → sizes test n s ≡ path_count 16 test s
  unfolding sizes path_count
  sizes_end test beyond n e s =
      let all : n ≡ min 1024 (length words) = e ∙ length-enumerate_from 0 (take 1024 words) ∙ length-take 1024 words in
      let whole : 64 * n + (65536 - 64 * n) ≡ 65536 = omega arith in
      sym (ap (sum_below term) (sym whole) ∙ sum_below_append term (64 * n) (65536 - 64 * n)
      ∙ ap (λ (u : ℕ). sum_below term (64 * n) + u)
      (sum_below_same _ (λ a. 0) (65536 - 64 * n) (λ a l.
      ap (λ (b : Bool). cond (b && eqb (size (64 * n + a)) s) 1 0) (beyond (64 * n + a) (omega arith)))
      ∙ sum_below_zero (65536 - 64 * n))
      ∙ add-zero (sum_below term (64 * n)))
    where
      term : ℕ → ℕ
      term a = cond (test a && eqb (size a) s) 1 0
