-- From some sets, marked in words, to their minimal sets, however many they are.
-- Assumes nothing.
use mathlib.Core.Path.{◌≡◌, refl, sym, ap, ◌∙◌}
use mathlib.Core.List.Memᴰ
use mathlib.Core.List.{List, [], ◌∷◌, ◌++◌, Memᴰ}
use mathlib.Core.Logic.{⊎_elim}
use Prim.Native.Nat.{ℕ, ◌^◌, ◌≤◌, ◌<◌, min}
use native.Mathlib.Nat.{pos_of_ne-zero, min-eq_left}
use native.Mathlib.Omega.{arith}
use borrow.Author.Tests.{eq-eqb, ne_eqb, eqb-false, le-leb, lt-leb, leb-false}
use lib.Dec.{leb, eqb}
use lib.ListN.{length, length-append}
use Rattle.std.specs.Prelude.{Ok, Err}
use Rattle.answer.specs.declared.Reason.TheVariants.{UnknownPart, EmptySet}
use Rattle.answer.specs.Outcome.{at, refuse, and_then, Verdict}
use Rattle.answer.specs.declared.Refusal.{Refusal}
use Rattle.answer.proofs.Outcomes.{refuse_accepted, refuse_passed, refuse_held}
use Rattle.theory_sets.specs.Structures.{listed, minimal_sets}
use Rattle.theory_sets.specs.Tables.{in_table, table_of}
use Rattle.theory_sets.proofs.Lists.{listed_semicoherent, listed_behind}
use Rattle.numbers.proofs.Bounds.{below_or_above}
use Rattle.theory_sets.proofs.Ranges.{those_same}
use Rattle.theory_sets.proofs.Structures.{minimal_sets_same}
use Rattle.structure.specs.Checks.{list_refusal}
use Rattle.structure.proofs.Acceptance.{accepted_list, accepted_table, table_beyond, table_of_accepted, list_works}
use Rattle.structure_closure.proofs.ListedSets.{spread_listed, spread_beyond}
use Rattle.structure.proofs.Walks.{irredundant_same, spread_same, minimal_walk}
use Rattle.structure_closure.specs.Closure.{spread, irredundant}
use Rattle.structure_words.specs.Words.{in_words, words_of, among}
use Rattle.structure_words.proofs.Words.{in_words_words_of}
use Rattle.record_sets.specs.Lists.{with_set_refusal}
use Rattle.record_sets.specs.Inside.{least_of}

-- some sets of n parts, none of them empty
pub record SomeSets (n : ℕ) (sets : List ℕ) : Type 0 where
  pub some : 1 ≤ n
  pub few : n ≤ 16
  pub any_set : 1 ≤ length sets
  pub within : (set : ℕ) → Memᴰ set sets → (set < 2 ^ n) × (0 < set)

-- the marked sets, carried over the parts and trimmed, are the minimal sets
pub sets_walk : (n : ℕ) (sets : List ℕ) → SomeSets n sets
    → least_of n (words_of (among sets)) ≡ minimal_sets n (listed sets)
sets_walk n sets some =
    let few = some.few in
    let table = table_of n (listed sets) in
    let t = accepted_table n table (table_of_accepted n (listed sets) some.some few (listed_semicoherent n sets some.any_set some.within)) in
    let reached : List ℕ = words_of (spread (min n 16) (in_words (words_of (among sets)))) in
    let loaded : List ℕ = words_of (in_table table) in
    let works : (a : ℕ) → a < 65536 → in_words reached a ≡ in_words loaded a =
    λ a h.
    in_words_words_of (spread (min n 16) (in_words (words_of (among sets)))) a h
    ∙ ap (λ (k : ℕ). spread k (in_words (words_of (among sets))) a) (min-eq_left few)
    ∙ spread_same (in_words (words_of (among sets))) (among sets) (in_words_words_of (among sets)) n a h
    ∙ ⊎_elim
    (λ (below : a < 2 ^ n). spread_listed n sets (λ b m. (some.within b m).0) a below ∙ sym (list_works n sets a below))
    (λ (above : 2 ^ n ≤ a). spread_beyond n sets (λ b m. (some.within b m).0) a above ∙ sym (table_beyond n table t.long t.clear a above))
    (below_or_above a (2 ^ n))
    ∙ sym (in_words_words_of (in_table table) a h) in
    those_same (in_words (words_of (irredundant (min n 16) (in_words reached)))) (in_words (words_of (irredundant (min n 16) (in_words loaded)))) 65536 (λ a h.
    in_words_words_of (irredundant (min n 16) (in_words reached)) a h ∙ irredundant_same (in_words reached) (in_words loaded) works (min n 16) a h
    ∙ sym (in_words_words_of (irredundant (min n 16) (in_words loaded)) a h))
    ∙ minimal_walk n table t ∙ minimal_sets_same n (in_table table) (listed sets) (list_works n sets)

-- ---- a list, and one set more behind it

pub list_some : (n : ℕ) (list : List ℕ) → list_refusal n list ≡ Ok tt → SomeSets n list
list_some n list accepted = let l = accepted_list n list accepted in record { some = l.some; few = l.few; any_set = l.any_set; within = l.sets }

module _ (n : ℕ) (list : List ℕ) (set : ℕ) where
  pub with_refused : (why : Refusal) → list_refusal n list ≡ Err why → with_set_refusal n list set ≡ Err why
  with_refused why e = ap (λ (v : Verdict). and_then v (refuse (leb (2 ^ n) set) UnknownPart 0 (refuse (eqb set 0) EmptySet 0 (Ok tt)))) e

  module _ (accepted : list_refusal n list ≡ Ok tt) where
    -- the list is accepted: 4 and 5 are left to be asked
    left : with_set_refusal n list set ≡ refuse (leb (2 ^ n) set) UnknownPart 0 (refuse (eqb set 0) EmptySet 0 (Ok tt))
    left = ap (λ (v : Verdict). and_then v (refuse (leb (2 ^ n) set) UnknownPart 0 (refuse (eqb set 0) EmptySet 0 (Ok tt)))) accepted

    pub with_unknown : 2 ^ n ≤ set → with_set_refusal n list set ≡ Err (at UnknownPart 0)
    with_unknown h = left ∙ refuse_held (leb (2 ^ n) set) UnknownPart 0 _ (le-leb (2 ^ n) set h)

    pub with_empty : set < 2 ^ n → set ≡ 0 → with_set_refusal n list set ≡ Err (at EmptySet 0)
    with_empty h none =
        left ∙ refuse_passed (leb (2 ^ n) set) UnknownPart 0 _ (lt-leb (2 ^ n) set h) ∙ refuse_held (eqb set 0) EmptySet 0 (Ok tt) (eq-eqb set 0 none)

    pub with_accepted : set < 2 ^ n → (set ≡ 0 → ⊥) → with_set_refusal n list set ≡ Ok tt
    with_accepted h some =
        left ∙ refuse_passed (leb (2 ^ n) set) UnknownPart 0 _ (lt-leb (2 ^ n) set h) ∙ refuse_passed (eqb set 0) EmptySet 0 (Ok tt) (ne_eqb set 0 some)

  -- what is accepted is some sets of n parts
  pub with_some : with_set_refusal n list set ≡ Ok tt → SomeSets n (list ++ (set ∷ []))
  with_some accepted =
      let both = and_then_lem (list_refusal n list) accepted in
      let l = accepted_list n list both.0 in
      let known = refuse_accepted (leb (2 ^ n) set) UnknownPart 0 _ both.1 in
      let some = refuse_accepted (eqb set 0) EmptySet 0 (Ok tt) known.1 in
      record {
        some = l.some;
        few = l.few;
        any_set = omega (arith, length-append list (set ∷ []));
        within = λ b m.
            ⊎_elim (λ (k : Memᴰ b list). l.sets b k)
            (λ (k : Memᴰ b (set ∷ [])).
            let same : b ≡ set = Memᴰ.eq_of_singleton k in
            rw same (leb-false (2 ^ n) set known.0, pos_of_ne-zero (eqb-false set 0 some.0)))
            (Memᴰ.append_cases list m);
      }
    where
      and_then_lem : (v : Verdict) {later : Verdict} → and_then v later ≡ Ok tt → (v ≡ Ok tt) × (later ≡ Ok tt)
      and_then_lem (Err r) e = let z : ◌≡◌ {A = ℕ} 0 1 = cc in absurd (omega arith)
      and_then_lem (Ok _) e = (refl, e)

  -- and the marked sets' minimal ones are theirs
  pub with_walk : with_set_refusal n list set ≡ Ok tt → least_of n (words_of (among (list ++ (set ∷ [])))) ≡ minimal_sets n (listed (set ∷ list))
  with_walk accepted =
      sets_walk n (list ++ (set ∷ [])) (with_some accepted)
      ∙ minimal_sets_same n (listed (list ++ (set ∷ []))) (listed (set ∷ list)) (λ a h. listed_behind list set a)
