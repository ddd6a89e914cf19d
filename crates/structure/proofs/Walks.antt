-- What the words give: the minimal sets and the first broken set of a table, and the bytes of a list's table.
-- Assumes nothing.
use mathlib.Core.Path.{◌≡◌, sym, ap, ap₂, ◌∙◌}
use mathlib.Core.Bool.{Bool, true, false, not, ◌&&◌, ◌||◌}
use mathlib.Core.List.{List, Memᴰ}
use mathlib.Core.Logic.{◌⊎◌, inl, inr}
use Prim.Native.Nat.{ℕ, zero, suc, ◌+◌, ◌-◌, ◌*◌, ◌^◌, ◌≤◌, ◌<◌, min}
use native.Mathlib.Nat.{add-sub_of_le, sub-le, lt_of_le_of_lt, lt_of_lt_of_le, min-eq_left}
use native.Mathlib.Omega.{arith}
use lib.Dec.{ltb}
use lib.ListN.{get_or}
use lib.Pow.{pow_mono}
use borrow.Author.Tests.{lt-ltb, le-ltb}
use Rattle.numbers.specs.Tables.{tabulate}
use Rattle.numbers.proofs.Tables.{tabulate_unique, tabulate_length, tabulate_at}
use Rattle.theory_sets.specs.Masks.{has, any, those, least}
use Rattle.theory_sets.specs.Structures.{Semicoherent, broken, listed, minimal, minimal_sets}
use Rattle.theory_sets.specs.Tables.{packed, in_table, table_of, table_length}
use Rattle.numbers.proofs.Bools.{true_or_false}
use Rattle.theory_sets.proofs.Masks.{add_below}
use Rattle.numbers.proofs.Bounds.{below_or_above}
use Rattle.theory_sets.proofs.Ranges.{any_same, those_same, those_skip, those_empty, least_some}
use Rattle.theory_sets.proofs.Tables.{packed_same, table_length_small, table_length_large}
use Rattle.structure_words.specs.Words.{in_words, words_of, among, bytes_in}
use Rattle.structure_closure.specs.Closure.{without, spread, irredundant}
use Rattle.structure_words.proofs.Words.{in_words_words_of, words_of_same}
use Rattle.structure_closure.proofs.ListedSets.{spread_listed, spread_beyond}
use Rattle.structure_closure.proofs.MinimalSets.{irredundant_minimal}
use Rattle.structure.specs.Accepted.{AcceptedTable}
use Rattle.structure.proofs.Acceptance.{AcceptedList, table_beyond}

-- ---- set functions that agree on the masks of 16 parts

module _ (f g : ℕ → Bool) (same : (a : ℕ) → a < 65536 → f a ≡ g a) where
  without_same : (part a : ℕ) → a < 65536 → without part f a ≡ without part g a
  without_same part a h = ap (λ (p : Bool). has a part && p) (same (a - 2 ^ part) (lt_of_le_of_lt (sub-le a (2 ^ part)) h))

  pub irredundant_same : (n a : ℕ) → a < 65536 → irredundant n f a ≡ irredundant n g a
  unfolding irredundant
  irredundant_same n a h =
      ap₂ (λ (p q : Bool). p && not q) (same a h)
      (any_same (λ part. without part f a) (λ part. without part g a) n (λ part l. without_same part a h))

  pub spread_same : (n a : ℕ) → a < 65536 → spread n f a ≡ spread n g a
  unfolding spread
  spread_same zero a h = same a h
  spread_same (suc n) a h =
      ap₂ (λ (p q : Bool). p || (has a n && q)) (spread_same n a h) (spread_same n (a - 2 ^ n) (lt_of_le_of_lt (sub-le a (2 ^ n)) h))

  broken_same : (n a : ℕ) → n ≤ 16 → a < 65536 → broken n f a ≡ broken n g a
  unfolding broken
  broken_same n a few h =
      ap₂ (λ (p q : Bool). p && q) (same a h)
      (any_same (λ i. not (has a i) && not (f (a + 2 ^ i))) (λ i. not (has a i) && not (g (a + 2 ^ i))) n (λ i l. step i l (true_or_false (has a i))))
    where
      step : (i : ℕ) → i < n → (has a i ≡ true) ⊎ (has a i ≡ false) → not (has a i) && not (f (a + 2 ^ i)) ≡ not (has a i) && not (g (a + 2 ^ i))
      step i l (inl t) = rw t
      step i l (inr lacks) = ap (λ (q : Bool). not (has a i) && not q) (same (a + 2 ^ i) (add_below 16 a i h (lt_of_lt_of_le l few) lacks))

-- a test that no mask from 2^n on passes finds the same masks below 65,536
those_near : (n : ℕ) (test : ℕ → Bool) → n ≤ 16 → ((a : ℕ) → 2 ^ n ≤ a → test a ≡ false) → those test 65536 ≡ those test (2 ^ n)
those_near n test few none =
    let whole : 2 ^ n + (65536 - 2 ^ n) ≡ 65536 = add-sub_of_le (pow_mono few) in
    ap (those test) (sym whole) ∙ those_skip test (2 ^ n) (65536 - 2 ^ n) (λ i h l. none i h)

-- ---- the minimal sets and the first broken set of a table

module _ (n : ℕ) (table : List ℕ) (few : n ≤ 16) (beyond : (a : ℕ) → 2 ^ n ≤ a → in_table table a ≡ false) where
  loaded : (a : ℕ) → a < 65536 → in_words (words_of (in_table table)) a ≡ in_table table a
  loaded a h = in_words_words_of (in_table table) a h

  broken_beyond : (a : ℕ) → 2 ^ n ≤ a → broken n (in_table table) a ≡ false
  unfolding broken
  broken_beyond a h = rw (beyond a h)

  -- the broken sets, as the words have them
  broken_walk : those (broken (min n 16) (in_words (words_of (in_table table)))) 65536 ≡ those (broken n (in_table table)) (2 ^ n)
  broken_walk =
      ap (λ (k : ℕ). those (broken k (in_words (words_of (in_table table)))) 65536) (min-eq_left few)
      ∙ those_same (broken n (in_words (words_of (in_table table)))) (broken n (in_table table)) 65536
      (λ a h. broken_same (in_words (words_of (in_table table))) (in_table table) loaded n a few h)
      ∙ those_near n (broken n (in_table table)) few broken_beyond

  pub first_walk : least (broken (min n 16) (in_words (words_of (in_table table)))) 65536 ≡ get_or (those (broken n (in_table table)) (2 ^ n)) 0 65536
  first_walk = ap (λ (xs : List ℕ). get_or xs 0 65536) broken_walk

  -- a place below 65,536 is that of the smallest broken set; any other says that there is none
  pub first_found : (place : ℕ) → place ≡ least (broken (min n 16) (in_words (words_of (in_table table)))) 65536 → place < 65536
      → (any (broken n (in_table table)) (2 ^ n) ≡ true) × (place ≡ least (broken n (in_table table)) (2 ^ n))
  first_found place e h = cases (true_or_false (any (broken n (in_table table)) (2 ^ n)))
    where
      cases : (any (broken n (in_table table)) (2 ^ n) ≡ true) ⊎ (any (broken n (in_table table)) (2 ^ n) ≡ false)
          → (any (broken n (in_table table)) (2 ^ n) ≡ true) × (place ≡ least (broken n (in_table table)) (2 ^ n))
      cases (inl some) = (some, e ∙ first_walk ∙ (least_some (broken n (in_table table)) (2 ^ n) some 65536).0)
      cases (inr none) =
          let at_end : place ≡ 65536 = e ∙ first_walk ∙ ap (λ (xs : List ℕ). get_or xs 0 65536) (those_empty (broken n (in_table table)) (2 ^ n) none) in
          absurd (omega arith)

  pub first_none : (place : ℕ) → place ≡ least (broken (min n 16) (in_words (words_of (in_table table)))) 65536 → 65536 ≤ place
      → any (broken n (in_table table)) (2 ^ n) ≡ false
  first_none place e h = cases (true_or_false (any (broken n (in_table table)) (2 ^ n)))
    where
      cases : (any (broken n (in_table table)) (2 ^ n) ≡ true) ⊎ (any (broken n (in_table table)) (2 ^ n) ≡ false)
          → any (broken n (in_table table)) (2 ^ n) ≡ false
      cases (inl some) =
          let first = least_some (broken n (in_table table)) (2 ^ n) some 65536 in
          let inside : 2 ^ n ≤ 65536 = pow_mono few in
          absurd (omega (arith, e ∙ first_walk ∙ first.0, first.1))
      cases (inr none) = none

irredundant_beyond : (n : ℕ) (works : ℕ → Bool) (a : ℕ) → works a ≡ false → irredundant n works a ≡ false
unfolding irredundant
irredundant_beyond n works a h = rw h

-- the minimal sets of a semicoherent structure that has no mask beyond those of n parts
pub minimal_words : (n : ℕ) (works : ℕ → Bool) → n ≤ 16 → Semicoherent n works → ((a : ℕ) → 2 ^ n ≤ a → works a ≡ false)
    → those (in_words (words_of (irredundant (min n 16) (in_words (words_of works))))) 65536 ≡ minimal_sets n works
minimal_words n works few coherent beyond =
    ap (λ (k : ℕ). those (in_words (words_of (irredundant k (in_words (words_of works))))) 65536) (min-eq_left few)
    ∙ those_same (in_words (words_of (irredundant n (in_words (words_of works))))) (irredundant n works) 65536 (λ a h.
    in_words_words_of (irredundant n (in_words (words_of works))) a h ∙ irredundant_same (in_words (words_of works)) works (in_words_words_of works) n a h)
    ∙ those_near n (irredundant n works) few (λ a h. irredundant_beyond n works a (beyond a h))
    ∙ those_same (irredundant n works) (minimal n works) (2 ^ n) (irredundant_minimal n works coherent)

-- of a table
pub minimal_walk : (n : ℕ) (table : List ℕ) → AcceptedTable n table
    → those (in_words (words_of (irredundant (min n 16) (in_words (words_of (in_table table)))))) 65536 ≡ minimal_sets n (in_table table)
minimal_walk n table t = minimal_words n (in_table table) t.few t.semicoherent (table_beyond n table t.long t.clear)

-- ---- the words and the bytes of a structure

-- the words of a structure give its table
pub words_table : (n : ℕ) (works : ℕ → Bool) → n ≤ 16 → bytes_in (table_length n) (words_of (λ a. ltb a (2 ^ n) && works a)) ≡ table_of n works
unfolding table_of
words_table n works few =
    tabulate_unique (table_length n) (λ b. packed 8 (λ i. bit (8 * b + i))) (tabulate (table_length n) stored) 0
    (tabulate_length (table_length n) stored) (λ b h.
    tabulate_at (table_length n) stored b 0 h
    ∙ packed_same 8 (λ i. in_words (words_of bit) (8 * b + i)) (λ i. bit (8 * b + i)) (λ i k. in_words_words_of bit (8 * b + i) (near b i h k)))
  where
    bit : ℕ → Bool
    bit a = ltb a (2 ^ n) && works a

    stored : ℕ → ℕ
    stored b = packed 8 (λ i. in_words (words_of bit) (8 * b + i))

    near : (b i : ℕ) → b < table_length n → i < 8 → 8 * b + i < 65536
    near b i h k = cases (below_or_above n 3)
      where
        cases : (n < 3) ⊎ (3 ≤ n) → 8 * b + i < 65536
        cases (inl small) = omega (arith, table_length_small n small)
        cases (inr large) =
            let whole : 8 * table_length n ≡ 2 ^ n = table_length_large n large in
            let inside : 2 ^ n ≤ 65536 = pow_mono few in
            omega arith

-- the marked sets of a list, carried over its parts, are the words of its structure
pub listed_words : (n : ℕ) (list : List ℕ) → n ≤ 16 → ((a : ℕ) → Memᴰ a list → a < 2 ^ n)
    → words_of (spread (min n 16) (in_words (words_of (among list)))) ≡ words_of (λ a. ltb a (2 ^ n) && listed list a)
listed_words n list few within =
    words_of_same (spread (min n 16) (in_words (words_of (among list)))) (λ a. ltb a (2 ^ n) && listed list a) (λ a h.
    ap (λ (k : ℕ). spread k (in_words (words_of (among list))) a) (min-eq_left few)
    ∙ spread_same (in_words (words_of (among list))) (among list) (in_words_words_of (among list)) n a h ∙ cases a (below_or_above a (2 ^ n)))
  where
    cases : (a : ℕ) → (a < 2 ^ n) ⊎ (2 ^ n ≤ a) → spread n (among list) a ≡ ltb a (2 ^ n) && listed list a
    cases a (inl below) = spread_listed n list within a below ∙ sym (rw (lt-ltb a (2 ^ n) below))
    cases a (inr above) = spread_beyond n list within a above ∙ sym (rw (le-ltb a (2 ^ n) above))

-- so they give its table
pub listed_walk : (n : ℕ) (list : List ℕ) → AcceptedList n list
    → bytes_in (table_length n) (words_of (spread (min n 16) (in_words (words_of (among list))))) ≡ table_of n (listed list)
listed_walk n list l =
    ap (bytes_in (table_length n)) (listed_words n list l.few (λ a m. (l.sets a m).0))
    ∙ words_table n (listed list) l.few
