-- A design without some parts, told by part numbers: it has the mark, the other numbers, and the sets that name none of these parts. One part after
-- the other is all of them, in whatever order; and mark, numbers and named sets decide a design.
-- Assumes nothing.
use mathlib.Core.Path.{◌≡◌, refl, sym, ap, ap₂, ◌∙◌}
use mathlib.Core.Bool.{false, not}
use mathlib.Core.List.{List, [], ◌∷◌, map, Memᴰ}
use mathlib.Core.Logic.{◌↔◌}
use Prim.Native.Nat.{ℕ, ◌^◌, ◌<◌}
use native.Mathlib.Omega.{arith}
use lib.ListN.{length}
use Rattle.numbers.proofs.Bools.{same_test}
use Rattle.theory_sums.specs.Sums.{some}
use Rattle.masks.specs.Groups.{meets}
use Rattle.record_numbers.specs.Numbering.{RisingWithin, named, names}
use Rattle.record_parts.specs.PartLists.{numbers_of, list_of}
use Rattle.record_parts.specs.Lines.{In}
use Rattle.record_parts.proofs.WellFormed.{well_formed_counted, well_formed_list}
use Rattle.record.specs.Records.{Design, design}
use Rattle.record.specs.RecordBytes.{DesignRules}
use Rattle.record_lines.specs.Changes.{keep, every, design_without}
use Rattle.record_lines.specs.Names.{named_sets, names_some}
use Rattle.record_lines.proofs.Keeping.{keep_same, some_intro, some_elim, keep_keep, keep_all, every_same, every_map}
use Rattle.record_lines.proofs.Names.{named_once, names_meet, none_of_numbers, names_none}
use Rattle.record_numbers.proofs.Names.{names_intro, names_elim}
use Rattle.record_lines.proofs.NamedChanges.{without_numbers, without_named}
use Rattle.record_lines.proofs.Rules.{without_rules}
use Rattle.record_groups.specs.Without.{Without}

-- no part
pub without_none : (d : Design) → DesignRules d → Without [] d d
unfolding some
without_none d r = record { rules = r; mark = refl; numbers = sym (keep_all (numbers_of d.parts)); sets = sym (keep_all (named_sets d)) }

-- a group
pub without_group : (group : ℕ) (d : Design) → DesignRules d → every (meets group) d.sets ≡ false → Without (named (numbers_of d.parts) group) d (design_without group d)
without_group group d r left =
    record { rules = without_rules group d r left; mark = refl; numbers = without_numbers group d r; sets = without_named group d r }

-- one part, and then the others
pub without_then : (number : ℕ) (rest : List ℕ) {first middle last : Design} → Without (number ∷ []) first middle → Without rest middle last → Without (number ∷ rest) first last
without_then number rest {first} {middle} {last} one others =
    record {
      rules = others.rules;
      mark = others.mark ∙ one.mark;
      numbers =
          others.numbers ∙ ap (keep (λ other. not (names other rest))) one.numbers
          ∙ keep_keep (λ other. not (names other rest)) (λ other. not (names other (number ∷ []))) (numbers_of first.parts)
          ∙ keep_same _ _ (numbers_of first.parts) (λ other m. none_of_numbers number rest other);
      sets =
          others.sets ∙ ap (keep (λ set. not (names_some rest set))) one.sets
          ∙ keep_keep (λ set. not (names_some rest set)) (λ set. not (names_some (number ∷ []) set)) (named_sets first)
          ∙ keep_same _ _ (named_sets first) (λ set m. names_none number rest set);
    }

-- ---- in another order

module _ (order gone : List ℕ) (same : (number : ℕ) → In number order ↔ In number gone) where
  same_names : (number : ℕ) → names number order ≡ names number gone
  same_names number =
      same_test (names number order) (names number gone)
      (λ h. names_intro number gone ((same number).0 (names_elim number order h))) (λ h. names_intro number order ((same number).1 (names_elim number gone h)))

  pub same_names_some : (set : List ℕ) → names_some order set ≡ names_some gone set
  same_names_some set =
      same_test (names_some order set) (names_some gone set)
      (λ h. let found = some_elim (λ number. names number set) order h in some_intro (λ number. names number set) gone ((same found.0).0 found.1) found.2)
      (λ h. let found = some_elim (λ number. names number set) gone h in some_intro (λ number. names number set) order ((same found.0).1 found.1) found.2)

  pub without_order : {old new : Design} → Without order old new → Without gone old new
  without_order {old} {new} w =
      record {
        rules = w.rules;
        mark = w.mark;
        numbers = w.numbers ∙ keep_same _ _ (numbers_of old.parts) (λ number m. ap not (same_names number));
        sets = w.sets ∙ keep_same _ _ (named_sets old) (λ set m. ap not (same_names_some set));
      }

-- ---- the names decide

-- sets of these numbers are decided by their names
sets_once : (low high : ℕ) (numbers : List ℕ) → RisingWithin low high numbers → (a b : List ℕ) → ((x : ℕ) → Memᴰ x a → x < 2 ^ length numbers)
    → ((x : ℕ) → Memᴰ x b → x < 2 ^ length numbers) → map (named numbers) a ≡ map (named numbers) b → a ≡ b
sets_once low high numbers rising [] [] ha hb e = refl
sets_once low high numbers rising [] (y ∷ ys) ha hb e = absurd (omega (arith, ap length e))
sets_once low high numbers rising (x ∷ xs) [] ha hb e = absurd (omega (arith, ap length e))
sets_once low high numbers rising (x ∷ xs) (y ∷ ys) ha hb e =
    let first : named numbers x ≡ named numbers y = cc e in
    let later : map (named numbers) xs ≡ map (named numbers) ys = cc e in
    ap₂ (λ (a : ℕ) (l : List ℕ). a ∷ l) (named_once low high numbers rising x y (ha x (Memᴰ.head refl)) (hb y (Memᴰ.head refl)) first)
    (sets_once low high numbers rising xs ys (λ a m. ha a (Memᴰ.tail m)) (λ a m. hb a (Memᴰ.tail m)) later)

-- so what is left without the same parts is the same design
pub without_once : {gone : List ℕ} {old d e : Design} → Without gone old d → Without gone old e → d ≡ e
without_once {gone} {old} {d} {e} v w =
    let rd = v.rules in
    let re = w.rules in
    let numbers : numbers_of d.parts ≡ numbers_of e.parts = v.numbers ∙ sym w.numbers in
    let lists : d.parts ≡ e.parts =
    well_formed_list d.parts rd.parts ∙ ap₂ list_of (v.mark ∙ sym w.mark) numbers ∙ sym (well_formed_list e.parts re.parts) in
    let sets : map (named (numbers_of d.parts)) d.sets ≡ map (named (numbers_of d.parts)) e.sets =
    v.sets ∙ sym w.sets ∙ ap (λ (l : List ℕ). map (named l) e.sets) (sym numbers) in
    ap₂ design lists
    (sets_once 0 d.parts.mark (numbers_of d.parts) rd.parts.rules.rising d.sets e.sets
    (λ a m. rw (well_formed_counted d.parts rd.parts) (rd.sets.within a m).0)
    (λ a m. rw (ap length numbers ∙ well_formed_counted e.parts re.parts) (re.sets.within a m).0)
    sets)

-- every set shares a part with a group exactly if every one names one of its numbers
pub every_named : (group : ℕ) (d : Design) → DesignRules d → every (meets group) d.sets ≡ every (names_some (named (numbers_of d.parts) group)) (named_sets d)
every_named group d r =
    let numbers = numbers_of d.parts in
    every_same (meets group) (λ set. names_some (named numbers group) (named numbers set)) d.sets
    (λ set m. sym (names_meet 0 d.parts.mark numbers r.parts.rules.rising group set (rw (well_formed_counted d.parts r.parts) (r.sets.within set m).0)))
    ∙ sym (every_map (names_some (named numbers group)) (named numbers) d.sets)
