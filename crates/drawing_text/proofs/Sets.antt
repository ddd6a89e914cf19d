-- Laws of a set by its positions: which bits it has, that it is one of n parts if its positions are, that the order of positions does not
-- matter, and that a set's positions give it back.
-- Assumes nothing.
use mathlib.Core.Path.{◌≡◌, refl, sym, ap, ap₂, ◌∙◌, subst}
use mathlib.Core.Bool.{Bool, true, false, ◌||◌}
use mathlib.Core.List.{List, [], ◌∷◌, Memᴰ}
use mathlib.Core.Logic.{◌⊎◌, inl, inr}
use Prim.Native.Nat.{ℕ, suc, ◌-◌, ◌^◌, ◌≤◌, ◌<◌}
use native.Mathlib.Omega.{arith}
use borrow.Author.Tests.{leb-true, le-leb}
use lib.Dec.{leb}
use lib.ListN.{length}
use lib.Pow.{pow_mono, pow_pos}
use Rattle.numbers.proofs.Bools.{and_left, and_right, and_both, clash, false_of, same_test}
use Rattle.numbers.proofs.Bounds.{below_or_above}
use Rattle.theory_sets.specs.Masks.{has, those, RisingFrom}
use Rattle.theory_sets.specs.Tables.{packed}
use Rattle.theory_sets.proofs.Masks.{has_above, has_le}
use Rattle.theory_sets.proofs.Tables.{has_packed, packed_below, packed_unique, packed_same}
use Rattle.theory_sets.proofs.Ranges.{those_intro, those_elim, those_rising, rising_above}
use Rattle.theory_sums.specs.Sums.{some}
use Rattle.record_lines.specs.Changes.{every}
use Rattle.record_lines.specs.Names.{repeated}
use Rattle.record_numbers.specs.Numbering.{names}
use Rattle.record_lines.proofs.Keeping.{every_intro, every_elim}
use Rattle.record_numbers.proofs.Names.{names_intro, names_elim}
use Rattle.drawing_text.specs.Sets.{set_of, stands, positions_of, within}

-- ---- the set of some positions

pub within_of : (n position : ℕ) → 1 ≤ position → position ≤ n → within n position ≡ true
within_of n position low high = and_both (le-leb 1 position low) (le-leb position n high)

pub within_bounds : (n position : ℕ) → within n position ≡ true → (1 ≤ position) × (position ≤ n)
within_bounds n position h =
    (leb-true 1 position (and_left (leb 1 position) (leb position n) h), leb-true position n (and_right (leb 1 position) (leb position n) h))

-- bit i is set exactly if position i + 1 is named
set_has : (positions : List ℕ) (i : ℕ) → i < 16 → has (set_of positions) i ≡ names (suc i) positions
unfolding set_of
set_has positions i h = has_packed 16 (λ i. names (suc i) positions) i h

-- the order of positions does not matter, nor how often one is named
pub set_same : (first other : List ℕ) → ((position : ℕ) → names position first ≡ names position other) → set_of first ≡ set_of other
unfolding set_of
set_same first other same = packed_same 16 (λ i. names (suc i) first) (λ i. names (suc i) other) (λ i h. same (suc i))

module _ (n : ℕ) (few : n ≤ 16) (positions : List ℕ) (inside : every (within n) positions ≡ true) where
  -- a position that is named is one of n
  named_within : (position : ℕ) → names position positions ≡ true → (1 ≤ position) × (position ≤ n)
  named_within position h = within_bounds n position (every_elim (within n) positions inside (names_elim position positions h))

  pub set_below : set_of positions < 2 ^ n
  unfolding set_of
  set_below =
      subst (λ (set : ℕ). set < 2 ^ n)
      (packed_unique 16 bit (packed n bit) (let small : 2 ^ n ≤ 2 ^ 16 = pow_mono few in omega (arith, packed_below n bit, small)) (λ i h. same i (below_or_above i n)))
      (packed_below n bit)
    where
      bit : ℕ → Bool
      bit i = names (suc i) positions

      same : (i : ℕ) → (i < n) ⊎ (n ≤ i) → has (packed n bit) i ≡ bit i
      same i (inl low) = has_packed n bit i low
      same i (inr high) =
          has_above (packed n bit) n i (packed_below n bit) high ∙ sym (false_of (bit i) (λ h. omega (arith, high, (named_within (suc i) h).1)))

  pub set_some : 1 ≤ length positions → 0 < set_of positions
  set_some named = cases positions refl
    where
      one : (position : ℕ) → names position positions ≡ true → 0 < set_of positions
      one position h =
          let low : 1 ≤ position = (named_within position h).0 in
          let high : position ≤ n = (named_within position h).1 in
          let index : position - 1 < 16 = omega arith in
          let same : suc (position - 1) ≡ position = omega arith in
          let had : has (set_of positions) (position - 1) ≡ true =
          set_has positions (position - 1) index ∙ ap (λ (p : ℕ). names p positions) same ∙ h in
          omega (arith, has_le (set_of positions) (position - 1) had, pow_pos (position - 1))

      cases : (list : List ℕ) → positions ≡ list → 0 < set_of positions
      cases [] e = absurd (omega (arith, named, ap length e))
      cases (position ∷ list) e = one position (names_intro position positions (subst (Memᴰ position) (sym e) (Memᴰ.head refl)))

-- ---- the positions of a set

positions_elim : (set position : ℕ) → Memᴰ position (positions_of set) → (1 ≤ position) × (position ≤ 16) × (has set (position - 1) ≡ true)
unfolding positions_of
positions_elim set position m =
    let f = those_elim (stands set) 17 position m in (
      leb-true 1 position (and_left (leb 1 position) (has set (position - 1)) f.1),
      omega (arith, f.0),
      and_right (leb 1 position) (has set (position - 1)) f.1,
    )

positions_intro : (set position : ℕ) → 1 ≤ position → position ≤ 16 → has set (position - 1) ≡ true → Memᴰ position (positions_of set)
unfolding positions_of
positions_intro set position low high h = those_intro (stands set) 17 position (omega arith) (and_both (le-leb 1 position low) h)

-- position i + 1 is named exactly if bit i is set
positions_named : (set i : ℕ) → i < 16 → names (suc i) (positions_of set) ≡ has set i
positions_named set i h =
    let index : suc i - 1 ≡ i = omega arith in
    same_test (names (suc i) (positions_of set)) (has set i)
    (λ named. sym (ap (has set) index) ∙ (positions_elim set (suc i) (names_elim (suc i) (positions_of set) named)).2)
    (λ had. names_intro (suc i) (positions_of set) (positions_intro set (suc i) (omega arith) (omega arith) (ap (has set) index ∙ had)))

pub set_positions : (set : ℕ) → set < 65536 → set_of (positions_of set) ≡ set
unfolding set_of
set_positions set small =
    sym (packed_unique 16 (λ i. names (suc i) (positions_of set)) set (let below : set < 2 ^ 16 = omega arith in below) (λ i h. sym (positions_named set i h)))

pub positions_within : (n set : ℕ) → set < 2 ^ n → every (within n) (positions_of set) ≡ true
positions_within n set below =
    every_intro (within n) (positions_of set) (λ position m.
    let f = positions_elim set position m in
    within_of n position f.0 (inside position f.0 f.2 (below_or_above (position - 1) n)))
  where
    inside : (position : ℕ) → 1 ≤ position → has set (position - 1) ≡ true → (position - 1 < n) ⊎ (n ≤ position - 1) → position ≤ n
    inside position some had (inl low) = omega arith
    inside position some had (inr high) = clash had (has_above set n (position - 1) below high)

-- no position of a rising list stands twice
rising_once : (low : ℕ) (positions : List ℕ) → RisingFrom low positions → repeated positions ≡ false
rising_once low [] rising = refl
rising_once low (position ∷ positions) rising =
    ap₂ (λ (s t : Bool). s || t)
    (false_of (names position positions) (λ h. omega (arith, rising_above (suc position) positions rising.1 position (names_elim position positions h))))
    (rising_once (suc position) positions rising.1)

pub positions_once : (set : ℕ) → repeated (positions_of set) ≡ false
unfolding positions_of
positions_once set = rising_once 0 (those (stands set) 17) (those_rising (stands set) 17)

set_empty : set_of [] ≡ 0
unfolding set_of packed some
set_empty = refl

pub positions_some : (n set : ℕ) → n ≤ 16 → set < 2 ^ n → 0 < set → 1 ≤ length (positions_of set)
positions_some n set few below positive = cases (positions_of set) refl
  where
    small : set < 65536
    small = let most : 2 ^ n ≤ 2 ^ 16 = pow_mono few in omega (arith, below, most)

    none : positions_of set ≡ [] → set ≡ 0
    none e = sym (set_positions set small) ∙ ap set_of e ∙ set_empty

    cases : (list : List ℕ) → positions_of set ≡ list → 1 ≤ length list
    cases [] e = absurd (omega (arith, positive, none e))
    cases (position ∷ list) e = omega arith
