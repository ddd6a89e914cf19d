-- What a change gives keeps the rules of a design, and so do a design that is entered and a first design. A part list refuses by 18 itself
-- that all its parts leave: every set names some part of the machine, so the record's 18 agrees.
-- Assumes nothing.
use mathlib.Core.Path.{◌≡◌, refl, sym, ap, ◌∙◌, subst}
use mathlib.Core.Bool.{Bool, true, false}
use mathlib.Core.List.Memᴰ
use mathlib.Core.List.{List, [], ◌∷◌, Memᴰ}
use mathlib.Core.Logic.{⊎_elim}
use Prim.Native.Nat.{ℕ, zero, suc, ◌+◌, ◌^◌, ◌≤◌, ◌<◌}
use native.Mathlib.Nat.{pow-succ', pos_of_ne-zero, zero-lt-suc}
use native.Mathlib.Omega.{arith}
use borrow.Author.Tests.{eqb-true, eqb-false, ltb-false, leb-false}
use lib.Dec.{eqb, ltb, leb}
use lib.ListN.{length, length-append}
use Rattle.std.specs.Prelude.{Ok, Err}
use Rattle.answer.specs.declared.Reason.TheVariants.{UnknownPart, EmptySet, UnknownPosition, InEverySet, FullMachine, NumbersSpent}
use Rattle.answer.specs.Outcome.{refuse, and_then, Verdict}
use Rattle.answer.specs.declared.Refusal.{Refusal}
use Rattle.answer.proofs.Outcomes.{refuse_accepted, refuse_held, then_accepted}
use Rattle.answer.proofs.Checks.{group_right, group_refused}
use Rattle.numbers.specs.Tables.{tabulate}
use Rattle.numbers.proofs.Tables.{tabulate_length, tabulate_suc}
use Rattle.record_parts.specs.declared.PartList.{PartList}
use Rattle.record_parts.specs.declared.Changed.{Changed}
use Rattle.record_numbers.specs.Numbering.{most_parts, top_number, RisingWithin, others, numbers_refusal}
use Rattle.record_numbers.proofs.Refusals.{refusal_counted}
use Rattle.record_numbers.proofs.Rules.{accepted_rules, rules_accepted}
use Rattle.record_parts.specs.PartLists.{numbers_of, list_of, WellFormed}
use Rattle.record_parts.specs.Changes.{part_added, add_refusal, single}
use Rattle.record_parts.specs.Changes as parts
use Rattle.record_parts.specs.Lines as lines
use Rattle.record_parts.proofs.Numbers.{rising_append}
use Rattle.record_parts.proofs.OneChange.{line_one, line_without, added_given}
use Rattle.record_parts.proofs.WellFormed.{list_well_formed, well_formed_counted}
use Rattle.masks.specs.Groups.{meets}
use Rattle.theory_sets.specs.Structures.{listed, minimal_sets}
use Rattle.theory_sets.proofs.Lists.{listed_semicoherent}
use Rattle.structure.specs.Checks.{list_refusal}
use Rattle.structure.proofs.Acceptance.{AcceptedList, accepted_list}
use Rattle.record.specs.Records.{Design, design}
use Rattle.record.specs.RecordBytes.{SetRules, DesignRules}
use Rattle.record_lines.specs.Changes.{Change, add_part, take_out, take_out_group, add_set, convert, every, sets_without, design_without, without_refusal, take_out_refusal, take_out_group_refusal, add_set_refusal, change_refusal, changed, entered_design, first_design}
use Rattle.record_lines.specs.Records.{entered_refusal}
use Rattle.record_lines.proofs.MinimalSets.{minimal_set_rules}
use Rattle.record_lines.proofs.TakenOut.{sets_without_rules}

-- ---- what an accepted change may rest on

pub add_accepted : (list : PartList) → WellFormed list → add_refusal list ≡ Ok tt → (list.count < most_parts) × (list.mark < top_number)
add_accepted list w accepted =
    let s = refuse_accepted (eqb list.count most_parts) FullMachine 0 _ accepted in
    let t = refuse_accepted (eqb list.mark top_number) NumbersSpent 0 (Ok tt) s.1 in
    (omega (arith, eqb-false list.count most_parts s.0, w.rules.few), omega (arith, eqb-false list.mark top_number t.0, w.rules.top))

pub record TakeOutAccepted (position : ℕ) (d : Design) : Type 0 where
  pub from : 1 ≤ position
  pub to : position ≤ d.parts.count
  pub left : every (meets (single position)) d.sets ≡ false

pub take_out_accepted : (position : ℕ) (d : Design) → take_out_refusal position d ≡ Ok tt → TakeOutAccepted position d
take_out_accepted position d accepted =
    let n : ℕ = d.parts.count in
    let s = refuse_accepted (eqb position 0) UnknownPosition 0 _ accepted in
    let t = refuse_accepted (ltb n position) UnknownPosition 0 _ s.1 in
    let u = refuse_accepted (every (meets (single position)) d.sets) InEverySet 0 (Ok tt) t.1 in
    record { from = pos_of_ne-zero (eqb-false position 0 s.0); to = ltb-false n position t.0; left = u.0 }

-- ---- the rules

-- sets of n parts are sets of one part more
sets_more : (n : ℕ) (sets : List ℕ) → SetRules n sets → SetRules (suc n) sets
sets_more n sets r =
    record {
      some = r.some;
      most = r.most;
      within = λ a m. let w = r.within a m in (omega (arith, w.0, pow-succ' 2 n), w.1);
      rising = r.rising;
      apart = r.apart;
    }

-- a list of sets, none empty, gives minimal sets that keep the rules, however long it is
pub listed_rules : (n : ℕ) (sets : List ℕ) → n ≤ 16 → 1 ≤ length sets → ((b : ℕ) → Memᴰ b sets → (b < 2 ^ n) × (0 < b)) → SetRules n (minimal_sets n (listed sets))
listed_rules n sets few some good = minimal_set_rules n (listed sets) few (listed_semicoherent n sets some good)

pub set_accepted : (set : ℕ) (d : Design) → add_set_refusal set d ≡ Ok tt → (set < 2 ^ d.parts.count) × (0 < set)
set_accepted set d accepted =
    let s = refuse_accepted (leb (2 ^ d.parts.count) set) UnknownPart 0 _ accepted in
    let t = refuse_accepted (eqb set 0) EmptySet 0 (Ok tt) s.1 in
    (leb-false (2 ^ d.parts.count) set s.0, pos_of_ne-zero (eqb-false set 0 t.0))

pub with_set_within : (set : ℕ) (d : Design) → DesignRules d → add_set_refusal set d ≡ Ok tt → (b : ℕ) → Memᴰ b (set ∷ d.sets) → (b < 2 ^ d.parts.count) × (0 < b)
with_set_within set d r accepted b m =
    ⊎_elim
    (λ (e : b ≡ set). rw e (set_accepted set d accepted))
    (λ (k : Memᴰ b d.sets). r.sets.within b k)
    (Memᴰ.cases_cons m)

pub added_count : (list : PartList) → WellFormed list → add_refusal list ≡ Ok tt → (part_added list).list.count ≡ suc list.count
added_count list w accepted =
    let a = add_accepted list w accepted in
    let issued = list.mark + 1 in
    ap (λ (c : Changed). c.list.count) (added_given list w a.0 a.1) ∙ length-append (numbers_of list) (issued ∷ []) ∙ omega (arith, well_formed_counted list w)

-- what is left without a group keeps the rules, as long as some set names none of its parts
pub without_rules : (group : ℕ) (d : Design) → DesignRules d → every (meets group) d.sets ≡ false → DesignRules (design_without group d)
without_rules group d r left =
    let numbers = numbers_of d.parts in
    let counted = well_formed_counted d.parts r.parts in
    let sets = sets_without_rules numbers group d.sets (omega (arith, r.parts.rules.few)) (rw counted r.sets) left in
    record {
      parts = (line_without d.parts r.parts group (some_part (length (others numbers group)) (sets_without group d.sets) sets)).well_formed;
      sets = sets;
    }
  where
    -- a machine that has a set has a part
    some_part : (n : ℕ) (sets : List ℕ) → SetRules n sets → 1 ≤ n
    some_part n [] r = absurd (omega (arith, r.some))
    some_part zero (x ∷ xs) r = let w = r.within x (Memᴰ.head refl) in absurd (omega (arith, w.0, w.1))
    some_part (suc n) (x ∷ xs) r = omega arith

-- a group is taken out that has a part, and only parts of the machine, while some set names none of them
pub group_out_accepted : (group : ℕ) (d : Design) → take_out_group_refusal group d ≡ Ok tt → (0 < group) × (group < 2 ^ d.parts.count) × (every (meets group) d.sets ≡ false)
group_out_accepted group d accepted =
    let g = group_right d.parts.count group (without_refusal group d) accepted in
    (g.0, g.1, (refuse_accepted (every (meets group) d.sets) InEverySet 0 (Ok tt) g.2).0)

-- What the part list refuses, the record refuses by the same number: 15 and 16, and 18 where no part is left, since then no set is.
pub group_out_agrees : (group : ℕ) (d : Design) → DesignRules d → (refusal : Refusal) → parts.take_out_group_refusal d.parts group ≡ Err refusal
    → take_out_group_refusal group d ≡ Err refusal
group_out_agrees group d r refusal refused =
    group_refused d.parts.count group (refuse (eqb left 0) InEverySet 0 (Ok tt)) (without_refusal group d) refusal refused (last (eqb left 0) refl)
  where
    left : ℕ
    left = length (others (numbers_of d.parts) group)

    all_gone : left ≡ 0 → (p : Bool) → every (meets group) d.sets ≡ p → every (meets group) d.sets ≡ true
    all_gone none true e = e
    all_gone none false e = absurd (omega (arith, (without_rules group d r e).parts.rules.some))

    last : (p : Bool) → eqb left 0 ≡ p → refuse p InEverySet 0 (Ok tt) ≡ Err refusal → without_refusal group d ≡ Err refusal
    last true e refused =
        refuse_held (every (meets group) d.sets) InEverySet 0 (Ok tt) (all_gone (eqb-true left 0 e) (every (meets group) d.sets) refl) ∙ refused
    last false e refused = let z : ◌≡◌ {A = ℕ} 0 1 = cc in absurd (omega arith)

pub changed_rules : (change : Change) (d : Design) → DesignRules d → change_refusal change d ≡ Ok tt → DesignRules (changed change d)
changed_rules add_part d r accepted =
    record {
      parts = (line_one lines.add_part d.parts r.parts).well_formed;
      sets = rw (added_count d.parts r.parts accepted) (sets_more d.parts.count d.sets r.sets);
    }
changed_rules (take_out position) d r accepted = without_rules (single position) d r (take_out_accepted position d accepted).left
changed_rules (take_out_group group) d r accepted = without_rules group d r (group_out_accepted group d accepted).2
changed_rules (add_set set) d r accepted =
    record {
      parts = r.parts;
      sets = listed_rules d.parts.count (set ∷ d.sets) r.parts.rules.few (zero-lt-suc (length d.sets)) (with_set_within set d r accepted);
    }
changed_rules (convert edition) d r accepted = r

-- ---- a design of parts that already have numbers, and a first design

-- the minimal sets of an accepted list keep the rules
accepted_sets : (n : ℕ) (list : List ℕ) → AcceptedList n list → SetRules n (minimal_sets n (listed list))
accepted_sets n list a = listed_rules n list a.few a.any_set a.sets

pub entered_rules : (mark : ℕ) (numbers list : List ℕ) → entered_refusal mark numbers list ≡ Ok tt → DesignRules (entered_design mark numbers list)
entered_rules mark numbers list accepted =
    let n : ℕ = length numbers in
    let t = then_accepted (list_refusal n list) (numbers_refusal 0 mark 0 numbers) accepted in
    let a = accepted_list n list t.0 in
    record {
      parts = list_well_formed mark numbers
          (accepted_rules n mark numbers (refusal_counted n mark numbers (λ none. omega (arith, a.some)) a.few ∙ t.1));
      sets = accepted_sets n list a;
    }

-- 1 to n rise to n
first_rising : (n : ℕ) → RisingWithin 0 n (tabulate n (λ i. i + 1))
unfolding tabulate
first_rising zero = tt
first_rising (suc n) =
    subst (RisingWithin 0 (suc n)) (sym (tabulate_suc n (λ i. i + 1)))
    (rising_append 0 n (suc n) (tabulate n (λ i. i + 1)) ((n + 1) ∷ []) (omega arith) (omega arith) (first_rising n) (omega arith, omega arith, tt))

module _ (n : ℕ) (list : List ℕ) where
  abbrev first : List ℕ
  first = tabulate n (λ i. i + 1)

  -- a first design is that of the numbers 1 to n with the mark n
  pub first_design_entered : first_design n list ≡ entered_design n first list
  first_design_entered = ap (λ (k : ℕ). design (list_of n first) (minimal_sets k (listed list))) (sym (tabulate_length n (λ i. i + 1)))

  -- 1 to n are right numbers under the mark n
  first_right : list_refusal n list ≡ Ok tt → numbers_refusal 0 n 0 first ≡ Ok tt
  first_right accepted =
      let a = accepted_list n list accepted in
      sym (refusal_counted n n first (λ none. omega (arith, a.some)) a.few)
      ∙ rules_accepted (record { some = a.some; few = a.few; rising = first_rising n; top = omega (arith, a.few) })

  -- so it is refused as its list of sets is
  pub first_refusal_entered : list_refusal n list ≡ entered_refusal n first list
  first_refusal_entered =
      cases (list_refusal n list) refl ∙ ap (λ (k : ℕ). and_then (list_refusal k list) (numbers_refusal 0 n 0 first)) (sym (tabulate_length n (λ i. i + 1)))
    where
      cases : (v : Verdict) → list_refusal n list ≡ v → v ≡ and_then v (numbers_refusal 0 n 0 first)
      cases (Err why) e = refl
      cases (Ok _) e = sym (first_right e)

  pub first_rules : list_refusal n list ≡ Ok tt → DesignRules (first_design n list)
  first_rules accepted =
      subst DesignRules (sym first_design_entered) (entered_rules n first list (sym first_refusal_entered ∙ accepted))
