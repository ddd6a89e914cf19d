-- The structure by part numbers is the one that the sets give by positions; and what each change does to it: a new part is idle, a part taken
-- out is held failed, and a set that is added is one more way to run.
-- Assumes nothing.
use mathlib.Core.Path.{◌≡◌, refl, sym, ap, ap₂, ◌∙◌}
use mathlib.Core.Bool.{Bool, true, false, not, cond, ◌&&◌, ◌||◌}
use mathlib.Core.List.Memᴰ
use mathlib.Core.List.{List, [], ◌∷◌, map, Memᴰ}
use mathlib.Core.Logic.{◌⊎◌, inl, inr}
use Prim.Native.Nat.{ℕ, ◌-◌, ◌^◌, ◌≤◌, ◌<◌}
use native.Mathlib.Nat.{lt_of_le_of_lt}
use borrow.Author.Tests.{not-true}
use lib.Dec.{eqb}
use lib.ListN.{length, get_or}
use Rattle.std.specs.Prelude.{Ok}
use Rattle.theory_sums.specs.Sums.{some}
use Rattle.record_numbers.specs.Numbering.{named, names}
use Rattle.record_parts.specs.PartLists.{numbers_of}
use Rattle.record_parts.specs.Changes.{single}
use Rattle.record_parts.proofs.LeftOut.{named_single}
use Rattle.record_parts.proofs.WellFormed.{well_formed_counted}
use Rattle.theory_sets.specs.Masks.{has, holds}
use Rattle.theory_sets.specs.Structures.{listed, minimal, minimal_sets}
use Rattle.theory_sets.specs.Tables.{packed}
use Rattle.numbers.proofs.Bools.{and_left, and_right, and_both, or_false, clash, same_test, false_of}
use Rattle.numbers.proofs.Bounds.{below_or_above}
use Rattle.theory_sets.proofs.Ranges.{those_intro}
use Rattle.theory_sets.proofs.Lists.{listed_intro}
use Rattle.theory_sets.proofs.Masks.{has_above, holds_part, holds_of_parts, holds_refl}
use Rattle.theory_sets.proofs.Structures.{minimal_below}
use Rattle.theory_sets.proofs.Tables.{has_packed}
use Rattle.record.specs.Records.{Design}
use Rattle.record.specs.RecordBytes.{DesignRules}
use Rattle.record_lines.specs.Changes.{add_part, take_out, add_set, keep, every, design_without, change_refusal, changed}
use Rattle.record_lines.specs.Names.{named_sets, part_number_at, names_some, runs}
use Rattle.record_lines.proofs.Keeping.{every_intro, every_elim, some_intro, some_elim}
use Rattle.record_lines.proofs.MinimalSets.{minimal_exactly}
use Rattle.record_lines.proofs.Names.{named_position, named_at, holds_names}
use Rattle.record_numbers.proofs.Names.{names_intro, names_elim}
use Rattle.record_lines.proofs.NamedChanges.{added_names, without_named, position_inside}
use Rattle.record_lines.proofs.Rules.{with_set_within}

-- the set by positions of those that work among the parts with these numbers
abbrev pub working_set : List ℕ → (ℕ → Bool) → ℕ
working_set numbers working = packed (length numbers) (λ i. working (get_or numbers i 0))

-- all parts of a set work exactly if the set of those that work holds it
working_holds : (numbers : List ℕ) (working : ℕ → Bool) (a : ℕ) → a < 2 ^ length numbers → every working (named numbers a) ≡ holds (working_set numbers working) a
working_holds numbers working a h =
    same_test (every working (named numbers a)) (holds (working_set numbers working) a)
    (λ all. holds_of_parts (working_set numbers working) a (λ i k. cases all i k (below_or_above i (length numbers))))
    (λ within. every_intro working (named numbers a) (λ number i.
    let at = named_position numbers a i in
    let on = holds_part (working_set numbers working) a within at.index at.member in
    ap working at.same ∙ sym (has_packed (length numbers) (λ i. working (get_or numbers i 0)) at.index at.inside) ∙ on))
  where
    cases : every working (named numbers a) ≡ true → (i : ℕ) → has a i ≡ true → (i < length numbers) ⊎ (length numbers ≤ i) → has (working_set numbers working) i ≡ true
    cases all i k (inl below) =
        has_packed (length numbers) (λ i. working (get_or numbers i 0)) i below ∙ every_elim working (named numbers a) all (named_at numbers a i below k)
    cases all i k (inr above) = clash k (has_above a (length numbers) i h above)

listed_each : (numbers : List ℕ) (working : ℕ → Bool) (sets : List ℕ) → ((a : ℕ) → Memᴰ a sets → a < 2 ^ length numbers)
    → some (every working) (map (named numbers) sets) ≡ listed sets (working_set numbers working)
unfolding some listed
listed_each numbers working [] h = refl
listed_each numbers working (x ∷ xs) h =
    ap₂ (λ (p q : Bool). p || q) (working_holds numbers working x (h x (Memᴰ.head refl))) (listed_each numbers working xs (λ a m. h a (Memᴰ.tail m)))

-- the machine runs while some parts work exactly if the set of these is a path set
pub runs_listed : (d : Design) → DesignRules d → (working : ℕ → Bool) → runs d working ≡ listed d.sets (working_set (numbers_of d.parts) working)
runs_listed d r working =
    listed_each (numbers_of d.parts) working d.sets (λ a m. rw (well_formed_counted d.parts r.parts) (r.sets.within a m).0)

-- a new part changes nothing
pub added_runs : (d : Design) → DesignRules d → change_refusal add_part d ≡ Ok tt → (working : ℕ → Bool) → runs (changed add_part d) working ≡ runs d working
added_runs d r accepted working = ap (some (every working)) (added_names d r accepted)

-- all parts of a set that names none of the numbers that are gone work exactly if they do with these failed; those of one that names one do not
module _ (gone : List ℕ) (working : ℕ → Bool) where
  abbrev left : ℕ → Bool
  left number = working number && not (names number gone)

  failed_naming : (set : List ℕ) → names_some gone set ≡ true → every left set ≡ false
  failed_naming set h =
      false_of (every left set) (λ all.
      let found = some_elim (λ number. names number set) gone h in
      let p = found.0 in
      clash (names_intro p gone found.1) (not-true (names p gone) (and_right (working p) (not (names p gone)) (every_elim left set all (names_elim p set found.2)))))

  failed_other : (set : List ℕ) → names_some gone set ≡ false → every working set ≡ every left set
  failed_other set h =
      same_test (every working set) (every left set)
      (λ all. every_intro left set (λ number i. and_both (every_elim working set all i)
      (ap not (false_of (names number gone) (λ e. clash (some_intro (λ number. names number set) gone (names_elim number gone e) (names_intro number set i)) h)))))
      (λ all. every_intro working set (λ number i. and_left (working number) (not (names number gone)) (every_elim left set all i)))

  held_failed : (sets : List (List ℕ)) → some (every working) (keep (λ set. not (names_some gone set)) sets) ≡ some (every left) sets
  unfolding some
  held_failed [] = refl
  held_failed (x ∷ xs) = cases (names_some gone x) refl (held_failed xs)
    where
      kept : List (List ℕ)
      kept = keep (λ set. not (names_some gone set)) xs

      cases : (q : Bool) → names_some gone x ≡ q → some (every working) kept ≡ some (every left) xs
          → some (every working) (cond (not q) (x ∷ kept) kept) ≡ every left x || some (every left) xs
      cases true e rest = rw (failed_naming x e) rest
      cases false e rest = ap₂ (λ (a b : Bool). a || b) (failed_other x e) rest

-- the structure without a group is the old one with the group's parts held failed
pub without_runs : (group : ℕ) (d : Design) → DesignRules d → (working : ℕ → Bool)
    → runs (design_without group d) working ≡ runs d (λ number. working number && not (names number (named (numbers_of d.parts) group)))
without_runs group d r working =
    ap (some (every working)) (without_named group d r) ∙ held_failed (named (numbers_of d.parts) group) working (named_sets d)

-- so the structure after the part with number p is taken out is the old one with p held failed
pub taken_out_runs : (position : ℕ) (d : Design) → DesignRules d → change_refusal (take_out position) d ≡ Ok tt → (working : ℕ → Bool)
    → runs (changed (take_out position) d) working ≡ runs d (λ number. working number && not (eqb number (part_number_at d position)))
unfolding some
taken_out_runs position d r accepted working =
    without_runs (single position) d r working
    ∙ ap (λ (gone : List ℕ). runs d (λ number. working number && not (names number gone))) (named_single (position - 1) (numbers_of d.parts) (position_inside position d r accepted))
    ∙ simp or_false

-- and after a set is added the machine runs also while all parts of it work
pub with_set_runs : (set : ℕ) (d : Design) → DesignRules d → change_refusal (add_set set) d ≡ Ok tt → (working : ℕ → Bool)
    → runs (changed (add_set set) d) working ≡ every working (named (numbers_of d.parts) set) || runs d working
unfolding some
with_set_runs set d r accepted working = same_test (some (every working) (map (named numbers) least)) (some (every working) (map (named numbers) sets)) there back
  where
    n : ℕ
    n = d.parts.count

    numbers : List ℕ
    numbers = numbers_of d.parts

    sets : List ℕ
    sets = set ∷ d.sets

    least : List ℕ
    least = minimal_sets d.parts.count (listed sets)

    there : some (every working) (map (named numbers) least) ≡ true → some (every working) (map (named numbers) sets) ≡ true
    there h =
        let found = some_elim (every working) (map (named numbers) least) h in
        let a = Memᴰ.of_map (named numbers) least found.1 in
        let member = (minimal_exactly n sets (λ b m. (with_set_within set d r accepted b m).0) a.0).0 a.1 in
        some_intro (every working) (map (named numbers) sets) (Memᴰ.map (named numbers) member.0) (ap (every working) a.2 ∙ found.2)

    back : some (every working) (map (named numbers) sets) ≡ true → some (every working) (map (named numbers) least) ≡ true
    back h =
        let found = some_elim (every working) (map (named numbers) sets) h in
        let one = Memᴰ.of_map (named numbers) sets found.1 in
        let a = one.0 in
        let low = minimal_below n (listed sets) a (listed_intro sets a a one.1 (holds_refl a)) in
        let b = low.0 in
        let member = those_intro (minimal n (listed sets)) (2 ^ n) b (lt_of_le_of_lt low.1 (with_set_within set d r accepted a one.1).0) low.2 in
        let all : every working (named numbers a) ≡ true = ap (every working) one.2 ∙ found.2 in
        some_intro (every working) (map (named numbers) least) (Memᴰ.map (named numbers) member)
        (every_intro working (named numbers b) (λ number i. every_elim working (named numbers a) all
        (holds_names 0 d.parts.mark numbers r.parts.rules.rising a b low.3 number i)))
