-- What each change does to the minimal sets named by part numbers and not by positions, and to the structure by part numbers.
-- Assumes nothing.
use mathlib.Core.Path.{◌≡◌, refl, sym, ap, ap₂, ◌∙◌, subst}
use mathlib.Core.Bool.{Bool, true, false, not, cond}
use mathlib.Core.List.{List, [], ◌∷◌, ◌++◌, map, Memᴰ}
use mathlib.Core.Logic.{◌↔◌}
use Prim.Native.Nat.{ℕ, ◌+◌, ◌-◌, ◌^◌, ◌≤◌, ◌<◌}
use native.Mathlib.Omega.{arith}
use lib.ListN.{length}
use Rattle.std.specs.Prelude.{Ok}
use Rattle.record_parts.specs.declared.Changed.{Changed}
use Rattle.record_numbers.specs.Numbering.{most_parts, RisingWithin, named, others, names}
use Rattle.record_parts.specs.PartLists.{numbers_of}
use Rattle.record_parts.specs.Lines.{In}
use Rattle.record_parts.specs.Changes.{single}
use Rattle.record_parts.proofs.LeftOut.{in_named, named_single}
use Rattle.record_parts.proofs.OneChange.{added_given, added_above}
use Rattle.record_parts.proofs.WellFormed.{numbers_of_list, well_formed_counted}
use Rattle.theory_sums.specs.Sums.{some}
use Rattle.theory_sets.specs.Masks.{holds}
use Rattle.theory_sets.specs.Structures.{listed, minimal_sets}
use Rattle.numbers.proofs.Bools.{or_false}
use Rattle.record.specs.Records.{Design}
use Rattle.record.specs.RecordBytes.{DesignRules}
use Rattle.masks.specs.Groups.{meets, squeezed}
use Rattle.record_lines.specs.Changes.{add_part, take_out, add_set, keep, sets_without, design_without, change_refusal, changed}
use Rattle.record_lines.specs.Names.{named_sets, part_number_at, names_some, LeastNamed}
use Rattle.record_lines.proofs.MinimalSets.{Least, minimal_exactly}
use Rattle.record_lines.proofs.Names.{named_more, holds_names, names_hold, named_once, names_meet, others_kept}
use Rattle.record_lines.proofs.MovedDown.{named_squeezed}
use Rattle.record_lines.proofs.Rules.{add_accepted, take_out_accepted, with_set_within}

-- ---- add part

-- the numbers in use after a part is added: the old ones, and mark+1 behind them
pub added_numbers : (d : Design) → DesignRules d → change_refusal add_part d ≡ Ok tt → numbers_of (changed add_part d).parts ≡ numbers_of d.parts ++ ((d.parts.mark + 1) ∷ [])
added_numbers d r accepted =
    let a = add_accepted d.parts r.parts accepted in
    let issued = d.parts.mark + 1 in
    ap (λ (c : Changed). numbers_of c.list) (added_given d.parts r.parts a.0 a.1) ∙ numbers_of_list issued (numbers_of d.parts ++ (issued ∷ []))

more_names : (numbers : List ℕ) (number : ℕ) (sets : List ℕ) → ((a : ℕ) → Memᴰ a sets → a < 2 ^ length numbers) → map (named (numbers ++ (number ∷ []))) sets ≡ map (named numbers) sets
more_names numbers number [] h = refl
more_names numbers number (x ∷ xs) h =
    ap₂ (λ (s : List ℕ) (rest : List (List ℕ)). s ∷ rest) (named_more numbers number x (h x (mathlib.Core.List.Memᴰ.head refl)))
    (more_names numbers number xs (λ a m. h a (mathlib.Core.List.Memᴰ.tail m)))

-- sets of a design are sets of its numbers in use
within_numbers : (d : Design) → DesignRules d → (a : ℕ) → a < 2 ^ d.parts.count → a < 2 ^ length (numbers_of d.parts)
within_numbers d r a h = rw (well_formed_counted d.parts r.parts) h

-- Adding a part leaves every named minimal set as it was,
pub added_names : (d : Design) → DesignRules d → change_refusal add_part d ≡ Ok tt → named_sets (changed add_part d) ≡ named_sets d
added_names d r accepted =
    ap (λ (numbers : List ℕ). map (named numbers) d.sets) (added_numbers d r accepted)
    ∙ more_names (numbers_of d.parts) (d.parts.mark + 1) d.sets (λ a m. within_numbers d r a (r.sets.within a m).0)

-- the numbers of a minimal set are in use
pub named_in_use : (d : Design) (set : List ℕ) → Memᴰ set (named_sets d) → (number : ℕ) → In number set → In number (numbers_of d.parts)
named_in_use d set m number i =
    let found = mathlib.Core.List.Memᴰ.of_map (named (numbers_of d.parts)) d.sets m in
    in_named (numbers_of d.parts) found.0 (subst (λ (s : List ℕ). In number s) (sym found.2) i)

-- and the new part is in none of them.
pub added_unnamed : (d : Design) → DesignRules d → change_refusal add_part d ≡ Ok tt → (set : List ℕ) → Memᴰ set (named_sets (changed add_part d)) → In (d.parts.mark + 1) set → ⊥
added_unnamed d r accepted set m i =
    let old : Memᴰ set (named_sets d) = rw (added_names d r accepted) at m in
    let above = added_above d.parts r.parts (d.parts.mark + 1) (named_in_use d set old (d.parts.mark + 1) i) in
    omega arith

-- ---- take out

-- sets named by what is left: those that share no part with the group, by the same numbers as before
module _ (low high : ℕ) (numbers : List ℕ) (rising : RisingWithin low high numbers) (few : length numbers ≤ most_parts) (group : ℕ) where
  abbrev gone : List ℕ
  gone = named numbers group

  without_names : (sets : List ℕ) → ((a : ℕ) → Memᴰ a sets → a < 2 ^ length numbers)
      → map (named (others numbers group)) (sets_without group sets) ≡ keep (λ set. not (names_some gone set)) (map (named numbers) sets)
  unfolding sets_without
  without_names [] small = refl
  without_names (x ∷ xs) small =
      cases (meets group x) refl (names_meet low high numbers rising group x (small x (mathlib.Core.List.Memᴰ.head refl))) (without_names xs (λ a m. small a (mathlib.Core.List.Memᴰ.tail m)))
    where
      kept : List ℕ
      kept = keep (λ set. not (meets group set)) xs

      rest : List (List ℕ)
      rest = keep (λ set. not (names_some gone set)) (map (named numbers) xs)

      cases : (p : Bool) → meets group x ≡ p → names_some gone (named numbers x) ≡ meets group x → map (named (others numbers group)) (map (squeezed most_parts group) kept) ≡ rest
          → map (named (others numbers group)) (map (squeezed most_parts group) (cond (not p) (x ∷ kept) kept))
          ≡ cond (not (names_some gone (named numbers x))) (named numbers x ∷ rest) rest
      cases true e same later = rw (same, e) later
      cases false e same later =
          rw (same, e) (ap₂ (λ (s : List ℕ) (ss : List (List ℕ)). s ∷ ss) (named_squeezed most_parts numbers group x few e) later)

-- Taking a group out leaves exactly the numbers in use that are not of the group, in order,
pub without_numbers : (group : ℕ) (d : Design) → DesignRules d
    → numbers_of (design_without group d).parts ≡ keep (λ number. not (names number (named (numbers_of d.parts) group))) (numbers_of d.parts)
without_numbers group d r =
    let numbers = numbers_of d.parts in
    numbers_of_list d.parts.mark (others numbers group) ∙ others_kept 0 d.parts.mark numbers r.parts.rules.rising group

-- and exactly the named minimal sets that name none of the group's numbers, in order.
pub without_named : (group : ℕ) (d : Design) → DesignRules d
    → named_sets (design_without group d) ≡ keep (λ set. not (names_some (named (numbers_of d.parts) group) set)) (named_sets d)
without_named group d r =
    let numbers = numbers_of d.parts in
    let counted = well_formed_counted d.parts r.parts in
    ap (λ (left : List ℕ). map (named left) (sets_without group d.sets)) (numbers_of_list d.parts.mark (others numbers group))
    ∙ without_names 0 d.parts.mark numbers r.parts.rules.rising (omega (arith, r.parts.rules.few)) group d.sets
    (λ a m. within_numbers d r a (r.sets.within a m).0)

-- a part is taken out at a position of its own
pub position_inside : (position : ℕ) (d : Design) → DesignRules d → change_refusal (take_out position) d ≡ Ok tt → position - 1 < length (numbers_of d.parts)
position_inside position d r accepted =
    let a = take_out_accepted position d accepted in
    omega (arith, well_formed_counted d.parts r.parts, a.from, a.to)

-- So taking out the part with number p leaves exactly the named minimal sets that do not name p.
pub taken_out_names : (position : ℕ) (d : Design) → DesignRules d → change_refusal (take_out position) d ≡ Ok tt
    → named_sets (changed (take_out position) d) ≡ keep (λ set. not (names (part_number_at d position) set)) (named_sets d)
unfolding some
taken_out_names position d r accepted =
    without_named (single position) d r
    ∙ ap (λ (gone : List ℕ). keep (λ set. not (names_some gone set)) (named_sets d)) (named_single (position - 1) (numbers_of d.parts) (position_inside position d r accepted))
    ∙ simp or_false

-- ---- add set

module _ (set : ℕ) (d : Design) (r : DesignRules d) (accepted : change_refusal (add_set set) d ≡ Ok tt) where
  -- the old sets and the new one are sets of the numbers in use
  below_numbers : (b : ℕ) → Memᴰ b (set ∷ d.sets) → b < 2 ^ length (numbers_of d.parts)
  below_numbers b m = within_numbers d r b (with_set_within set d r accepted b m).0

  -- Adding a set leaves the minimal sets of the old ones and the new one.
  pub with_set_names : (names : List ℕ) → Memᴰ names (named_sets (changed (add_set set) d)) ↔ LeastNamed (named (numbers_of d.parts) set ∷ named_sets d) names
  with_set_names names = (there, back)
    where
      numbers : List ℕ
      numbers = numbers_of d.parts

      sets : List ℕ
      sets = set ∷ d.sets

      exactly : (a : ℕ) → Memᴰ a (minimal_sets d.parts.count (listed sets)) ↔ Least sets a
      exactly = minimal_exactly d.parts.count sets (λ b m. (with_set_within set d r accepted b m).0)

      rising : RisingWithin 0 d.parts.mark numbers
      rising = r.parts.rules.rising

      there : Memᴰ names (map (named numbers) (minimal_sets d.parts.count (listed sets))) → LeastNamed (map (named numbers) sets) names
      there m =
          let found = mathlib.Core.List.Memᴰ.of_map (named numbers) (minimal_sets d.parts.count (listed sets)) m in
          let a = found.0 in
          let least = (exactly a).0 found.1 in (
            subst (λ (s : List ℕ). Memᴰ s (map (named numbers) sets)) found.2 (mathlib.Core.List.Memᴰ.map (named numbers) least.0),
            λ other k within.
                let one = mathlib.Core.List.Memᴰ.of_map (named numbers) sets k in
                let b = one.0 in
                let inside : (number : ℕ) → In number (named numbers b) → In number (named numbers a) =
                λ number i. subst (λ (s : List ℕ). In number s) (sym found.2) (within number (subst (λ (s : List ℕ). In number s) one.2 i)) in
                let holding : holds a b ≡ true = names_hold 0 d.parts.mark numbers rising a b (below_numbers b one.1) inside in
                sym found.2 ∙ ap (named numbers) (least.1 b one.1 holding) ∙ one.2,
          )

      back : LeastNamed (map (named numbers) sets) names → Memᴰ names (map (named numbers) (minimal_sets d.parts.count (listed sets)))
      back least =
          let found = mathlib.Core.List.Memᴰ.of_map (named numbers) sets least.0 in
          let a = found.0 in
          let member = (exactly a).1 (
            found.1,
            λ b m within.
                let inside : (number : ℕ) → In number (named numbers b) → In number names =
                λ number i. subst (λ (s : List ℕ). In number s) found.2 (holds_names 0 d.parts.mark numbers rising a b within number i) in
                named_once 0 d.parts.mark numbers rising a b (below_numbers a found.1) (below_numbers b m)
                (found.2 ∙ least.1 (named numbers b) (mathlib.Core.List.Memᴰ.map (named numbers) m) inside),
          ) in
          subst (λ (s : List ℕ). Memᴰ s (map (named numbers) (minimal_sets d.parts.count (listed sets)))) found.2 (mathlib.Core.List.Memᴰ.map (named numbers) member)
