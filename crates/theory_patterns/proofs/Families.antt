-- A machine that is stopped exactly by a family of sets is semicoherent, and each pattern is one: at least k of n by all sets of n - k + 1 parts,
-- a row and a ring by their sets of k neighbours. Assumes nothing.
use mathlib.Core.Path.{◌≡◌, refl, sym, ap, subst, ◌∙◌}
use mathlib.Core.Bool.{Bool, true, false, not, ◌&&◌, ◌||◌}
use mathlib.Core.List.Memᴰ
use mathlib.Core.List.{List, Memᴰ}
use mathlib.Core.Logic.{◌⊎◌, inl, inr}
use Prim.Native.Nat.{ℕ, zero, suc, ◌+◌, ◌-◌, ◌%◌, ◌^◌, ◌≤◌, ◌<◌, suc-le-suc}
use native.Mathlib.Nat.{add-zero, lt_of_le_of_lt, lt_of_lt_of_le, mod-lt, sub-add_cancel, sub-le, zero-lt-suc}
use native.Mathlib.Omega.{arith}
use lib.Count.{ones-ones}
use lib.Dec.{eqb, leb}
use lib.Pow.{ones_lt, pow_mono, pow_pos}
use borrow.Author.Tests.{not-true, not-false, leb-true, leb-false, eqb-true, eq-eqb}
use Rattle.numbers.specs.Tables.{tabulate}
use Rattle.numbers.proofs.Bools.{clash, false_of, or_swap, same_test}
use Rattle.numbers.proofs.Bounds.{below_or_above}
use Rattle.numbers.proofs.Tables.{tabulate_length, tabulate_suc}
use Rattle.theory_sets.specs.Masks.{has, size, holds, any}
use Rattle.theory_sets.specs.Structures.{Semicoherent, listed}
use Rattle.theory_sets.proofs.Lists.{listed_intro, listed_elim, listed_semicoherent, listed_behind, some_entry}
use Rattle.theory_sets.proofs.Masks.{has_above, has_empty, has_le, has_sub, holds_part, holds_of_parts, holds_refl, holds_sub, holds_trans, lacking}
use Rattle.theory_sets.proofs.Ranges.{any_intro, any_elim, any_none, any_false, any_same, those_elim, those_intro}
use Rattle.theory_sets.proofs.Structures.{semicoherent_same}
use Rattle.theory_sets.proofs.Tables.{has_packed, packed_below}
use Rattle.theory_orders.proofs.Sizes.{size_add}
use Rattle.theory_figures.proofs.Holding.{size_holds}
use Rattle.theory_cuts.specs.Cuts.{remaining, cut, by_cuts}
use Rattle.theory_cuts.proofs.Counts.{size_remaining}
use Rattle.theory_cuts.proofs.Cuts.{remaining_below, remaining_part, cut_semicoherent}
use Rattle.theory_patterns.specs.Patterns.{at_least, all_failed, row, ring, StoppedBy, set_of, at_least_family, row_family, ring_family}

-- ---- the law of all patterns

-- a machine that is stopped exactly by a family of sets, none of them empty and at least one of them there, is semicoherent
pub stopped_semicoherent : (n : ℕ) (family : List ℕ) (works : ℕ → Bool) → StoppedBy n family works → Semicoherent n works
unfolding by_cuts cut
stopped_semicoherent n family works stopped =
    semicoherent_same n (cut n (listed family)) works (λ a h. sym (stopped.exactly a h))
    (cut_semicoherent n (listed family) (listed_semicoherent n family stopped.some stopped.sets))

-- ---- a family that is numbered: a row and a ring

-- a set holds one of a numbered family exactly if it holds one by its number
listed_numbered : (count : ℕ) (set : ℕ → ℕ) (a : ℕ) → listed (tabulate count set) a ≡ any (λ i. holds a (set i)) count
unfolding listed any tabulate
listed_numbered zero set a = refl
listed_numbered (suc count) set a =
    ap (λ (sets : List ℕ). listed sets a) (tabulate_suc count set) ∙ listed_behind (tabulate count set) (set count) a
    ∙ or_swap (holds a (set count)) (listed (tabulate count set) a) ∙ ap (λ (p : Bool). p || holds a (set count)) (listed_numbered count set a)

-- its members are its sets
member_numbered : (count : ℕ) (set : ℕ → ℕ) (b : ℕ) → Memᴰ b (tabulate count set) → (i : ℕ) × (i < count) × (b ≡ set i)
unfolding tabulate
member_numbered zero set b m = absurd (Memᴰ.not-nil m)
member_numbered (suc count) set b m = cases (Memᴰ.cases_cons m) (member_numbered count (λ i. set (suc i)) b)
  where
    cases : (b ≡ set zero) ⊎ Memᴰ b (tabulate count (λ i. set (suc i)))
        → (Memᴰ b (tabulate count (λ i. set (suc i))) → (i : ℕ) × (i < count) × (b ≡ set (suc i))) → (i : ℕ) × (i < suc count) × (b ≡ set i)
    cases (inl first) rest = (zero, zero-lt-suc count, first)
    cases (inr later) rest = let found = rest later in (suc found.0, suc-le-suc found.1, found.2)

module _ (n k : ℕ) (part : ℕ → ℕ) (inside : (j : ℕ) → j < k → part j < n) where
  has_set_of : (i : ℕ) → has (set_of n k part) i ≡ true → (j : ℕ) × (j < k) × (i ≡ part j)
  has_set_of i t = cases (below_or_above i n)
    where
      cases : (i < n) ⊎ (n ≤ i) → (j : ℕ) × (j < k) × (i ≡ part j)
      cases (inl below) =
          let found = any_elim (λ j. eqb i (part j)) k (sym (has_packed n (λ bit. any (λ j. eqb bit (part j)) k) i below) ∙ t) in
          (found.0, found.1, eqb-true i (part found.0) found.2)
      cases (inr above) = clash t (has_above (set_of n k part) n i (packed_below n (λ bit. any (λ j. eqb bit (part j)) k)) above)

  set_of_has : (j : ℕ) → j < k → has (set_of n k part) (part j) ≡ true
  set_of_has j l =
      has_packed n (λ bit. any (λ j. eqb bit (part j)) k) (part j) (inside j l)
      ∙ any_intro (λ i. eqb (part j) (part i)) k j l (eq-eqb (part j) (part j) refl)

  -- the failed parts hold the set exactly if its parts have all failed
  failed_holds : (a : ℕ) → a < 2 ^ n → all_failed k part a ≡ holds (remaining n a) (set_of n k part)
  unfolding all_failed
  failed_holds a h = same_test (all_failed k part a) (holds (remaining n a) (set_of n k part)) there back
    where
      there : all_failed k part a ≡ true → holds (remaining n a) (set_of n k part) ≡ true
      there t =
          holds_of_parts (remaining n a) (set_of n k part) (λ i p.
          let found = has_set_of i p in
          let here : i < n = subst (λ (x : ℕ). x < n) (sym found.2) (inside found.0 found.1) in
          remaining_part n a i h here
          ∙ ap not (ap (has a) found.2 ∙ any_none (λ j. has a (part j)) k found.0 (not-true (any (λ j. has a (part j)) k) t) found.1))

      back : holds (remaining n a) (set_of n k part) ≡ true → all_failed k part a ≡ true
      back within =
          ap not (any_false (λ j. has a (part j)) k (λ j l works.
          clash (holds_part (remaining n a) (set_of n k part) within (part j) (set_of_has j l))
          (remaining_part n a (part j) h (inside j l) ∙ ap not works)))

-- k neighbours from each of some first bits on, by a way to number neighbours
module _ (n k count : ℕ) (neighbour : ℕ → ℕ → ℕ) (some : 1 ≤ k) (any_set : 1 ≤ count) (inside : (i j : ℕ) → i < count → j < k → neighbour i j < n) where
  pub numbered_stopped : StoppedBy n (tabulate count (λ i. set_of n k (neighbour i))) (λ a. not (any (λ i. all_failed k (neighbour i) a) count))
  unfolding by_cuts
  numbered_stopped = record {
    exactly = λ a h.
        ap not (any_same (λ i. all_failed k (neighbour i) a) (λ i. holds (remaining n a) (set_of n k (neighbour i))) count (λ i l.
        failed_holds n k (neighbour i) (λ j m. inside i j l m) a h)
        ∙ sym (listed_numbered count (λ i. set_of n k (neighbour i)) (remaining n a)));
    sets = λ b m.
        let found = member_numbered count (λ i. set_of n k (neighbour i)) b m in
        subst (λ (x : ℕ). (x < 2 ^ n) × (0 < x)) (sym found.2) (within found.0, positive found.0 found.1);
    some = subst (λ (x : ℕ). 1 ≤ x) (sym (tabulate_length count (λ i. set_of n k (neighbour i)))) any_set;
  }
    where
      within : (i : ℕ) → set_of n k (neighbour i) < 2 ^ n
      within i = packed_below n (λ bit. any (λ j. eqb bit (neighbour i j)) k)

      positive : (i : ℕ) → i < count → 0 < set_of n k (neighbour i)
      positive i l =
          let held : 2 ^ neighbour i 0 ≤ set_of n k (neighbour i) =
          has_le (set_of n k (neighbour i)) (neighbour i 0) (set_of_has n k (neighbour i) (λ j m. inside i j l m) 0 some) in
          omega (arith, held, pow_pos (neighbour i 0))

module _ (n k : ℕ) (some : 1 ≤ k) (most : k ≤ n) where
  pub row_stopped : StoppedBy n (row_family n k) (row n k)
  unfolding row
  row_stopped = numbered_stopped n k (n + 1 - k) (λ i j. i + j) some (omega arith) (λ i j l m. omega arith)

  pub ring_stopped : StoppedBy n (ring_family n k) (ring n k)
  unfolding ring
  ring_stopped = numbered_stopped n k n (λ i j. (i + j) % n) some (omega arith) (λ i j l m. mod-lt (i + j) (omega arith))

-- ---- the sets of one size: at least k of n

-- a set of at least m parts holds one of m parts
smaller : (n rest m a : ℕ) → a < 2 ^ n → size a ≡ m + rest → (b : ℕ) × (b < 2 ^ n) × (holds a b ≡ true) × (size b ≡ m)
smaller n zero m a h e = (a, h, holds_refl a, e ∙ add-zero m)
smaller n (suc rest) m a h e =
    let found = lacking n a 0 h (holds_of_parts a 0 (λ i t. clash t (has_empty i))) (λ empty. omega (arith, ap size empty, ones-ones 0)) in
    let i : ℕ = found.0 in
    let less : ℕ = a - 2 ^ i in
    let back : less + 2 ^ i ≡ a = sub-add_cancel (has_le a i found.2) in
    let gone : has less i ≡ false = has_sub a i found.2 i ∙ ap (λ (t : Bool). not t && has a i) (eq-eqb i i refl) in
    let one : size a ≡ suc (size less) = ap size (sym back) ∙ size_add less i gone in
    let inner = smaller n rest m less (lt_of_le_of_lt (sub-le a (2 ^ i)) h) (omega (arith, one, e)) in
    (inner.0, inner.1, holds_trans a less inner.0 (holds_sub a i found.2) inner.2, inner.3)

module _ (n k : ℕ) (some : 1 ≤ k) (most : k ≤ n) where
  of_size_lem : ℕ → Bool
  of_size_lem a = eqb (size a) (n + 1 - k)

  pub at_least_stopped : StoppedBy n (at_least_family n k) (at_least k)
  unfolding at_least by_cuts of_size_lem
  at_least_stopped = record {
    exactly = λ a h. same_test (leb k (size a)) (not (listed (at_least_family n k) (remaining n a))) (there a h) (back a h);
    sets = λ b m.
        let found = those_elim of_size_lem (2 ^ n) b m in
        (found.0, positive b (eqb-true (size b) (n + 1 - k) found.1) (below_or_above b 1));
    some = some_entry (at_least_family n k)
        (those_intro of_size_lem (2 ^ n) (2 ^ (n + 1 - k) - 1) (lt_of_lt_of_le (ones_lt (n + 1 - k)) (pow_mono (omega arith)))
        (eq-eqb (size (2 ^ (n + 1 - k) - 1)) (n + 1 - k) (ones-ones (n + 1 - k))));
  }
    where
      there : (a : ℕ) → a < 2 ^ n → leb k (size a) ≡ true → not (listed (at_least_family n k) (remaining n a)) ≡ true
      there a h runs =
          ap not (false_of (listed (at_least_family n k) (remaining n a)) (λ stopped.
          let found = listed_elim (at_least_family n k) (remaining n a) stopped in
          let b : ℕ = found.0 in
          let member = those_elim of_size_lem (2 ^ n) b found.1 in
          let large : size b ≡ n + 1 - k = eqb-true (size b) (n + 1 - k) member.1 in
          omega (arith, leb-true k (size a) runs, size_remaining n a h, large, size_holds n (remaining n a) b (remaining_below n a) member.0 found.2)))

      back : (a : ℕ) → a < 2 ^ n → not (listed (at_least_family n k) (remaining n a)) ≡ true → leb k (size a) ≡ true
      back a h none = not-false (leb k (size a)) (false_of (not (leb k (size a))) (λ t.
          let few : size a < k = leb-false k (size a) (not-true (leb k (size a)) t) in
          let inner = smaller n (size (remaining n a) - (n + 1 - k)) (n + 1 - k) (remaining n a) (remaining_below n a) (omega (arith, few, size_remaining n a h)) in
          clash (listed_intro (at_least_family n k) (remaining n a) inner.0
          (those_intro of_size_lem (2 ^ n) inner.0 inner.1 (eq-eqb (size inner.0) (n + 1 - k) inner.3)) inner.2)
          (not-true (listed (at_least_family n k) (remaining n a)) none)))

      positive : (b : ℕ) → size b ≡ n + 1 - k → (b < 1) ⊎ (1 ≤ b) → 0 < b
      positive b large (inl empty) = let none : b ≡ 0 = omega arith in absurd (omega (arith, large, ap size none, ones-ones 0))
      positive b large (inr full) = full
