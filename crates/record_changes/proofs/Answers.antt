-- A record that was opened for a change: a refused one refuses the change. What an accepted one refuses the change for is the answer, and else
-- the changed design is written in its edition.
-- Assumes nothing.
use mathlib.Core.Path.{◌≡◌, refl, sym, ap, ap₂, ◌∙◌, subst}
use mathlib.Core.List.{List, [], ◌∷◌}
use Prim.Native.Nat.{ℕ, ◌-◌, ◌≤◌}
use native.Mathlib.Omega.{arith}
use lib.ListN.{length, replicate, length-append}
use Rattle.std.specs.Prelude.{Ok, Err}
use Rattle.answer.specs.declared.Reason.TheVariants.{InEverySet, RetiredPresent}
use Rattle.answer.specs.Outcome.{at, outcome, and_then, delivered, Verdict}
use Rattle.answer.specs.declared.Refusal.{Refusal}
use Rattle.answer.proofs.Outcomes.{refuse_passed, refuse_held, then_refused}
use Rattle.answer.proofs.Checks.{group_passed}
use Rattle.record_parts.specs.declared.PartList.{PartList}
use Rattle.record_parts.specs.declared.Changed.{Changed}
use Rattle.record_parts.specs.declared.Listed.{Listed}
use Rattle.record_parts.specs.PartLists.{listed_or}
use Rattle.record_parts.specs.Changes.{add_refusal, part_added, with_part, list_without, group_taken_out}
use Rattle.record_parts.specs.Changes as parts
use Rattle.record_parts.proofs.OneChange.{added_whole, group_taken_out_whole, take_out_group_accepted}
use Rattle.record_parts.proofs.WellFormed.{listed_verdict}
use Rattle.masks.specs.Groups.{meets}
use Rattle.codec.specs.Reads.{Read}
use Rattle.record.specs.Records.{Design, design}
use Rattle.record_numbers.specs.Numbering.{named}
use Rattle.record_parts.specs.PartLists.{numbers_of}
use Rattle.record_retired.specs.declared.Retired.{Retired}
use Rattle.record_retired.specs.Retired.{most_retired, filed_all}
use Rattle.record_retired.proofs.Cells.{numbers_back}
use Rattle.record_editions.specs.declared.Edition.{Edition}
use Rattle.record_editions.specs.declared.Edition.TheVariants.{First}
use Rattle.record_editions.specs.Editions.{Stored, design_of, retired_in, edition_of, whole_stored}
use Rattle.record_editions.specs.EditionBytes.{stored_bytes}
use Rattle.record_editions.proofs.RoundTrip.{rules_design}
use Rattle.record.specs.RecordBytes.{DesignRules}
use Rattle.record.proofs.MinimalSets.{design_list}
use Rattle.record_lines.specs.Changes.{Change, add_part, take_out_group, add_set, every, sets_without, design_without, without_refusal, take_out_group_refusal, change_refusal, changed, left_in}
use Rattle.record_lines.specs.Records.{edition_after, in_edition, back_refusal, stored_refusal, changed_stored, changed_read, changed_record}
use Rattle.record_lines.proofs.Refusals.{unconverted_refusal}
use Rattle.record_lines.proofs.Stored.{retired_rules}
use Rattle.record_changes.specs.Inside.{retired_numbers}
use Rattle.record_lines.proofs.TakenOut.{without_none, without_some}
use Rattle.record_lines.proofs.Rules.{changed_rules, group_out_agrees}
use Rattle.record_opening.specs.declared.Opened.{Opened}
use Rattle.record_opening.specs.Opening.{opened_of}
use Rattle.record_opening.proofs.Designs.{RecordOpened, opened_why}
use Rattle.record_sets.specs.Lists.{with_set_refusal}

module _ (bytes : List ℕ) (o : Opened) (e : o ≡ opened_of (whole_stored bytes)) where
  -- a record that is refused refuses every change
  pub opened_refused : (why : Refusal) → o.verdict ≡ Err why → (change : Change) (buffer : List ℕ) → outcome (Err why) buffer ≡ changed_record change bytes buffer
  unfolding changed_record
  opened_refused why v change buffer = ap (λ (r : Read Stored). changed_read change r buffer) (sym (opened_why bytes o e why v))

module _ {bytes : List ℕ} {o : Opened} (w : RecordOpened bytes o) where
  -- the design of the record, and its rules
  abbrev pub d : Design
  d = design_of w.s

  pub design_kept : DesignRules d
  design_kept = rules_design w.s w.rules

  -- its retired numbers stand in front of their cells
  pub retired_few : o.retired.count ≤ most_retired
  retired_few = subst (λ (r : Retired). r.count ≤ most_retired) (sym w.retired) (retired_rules w.s w.rules).most

  pub retired_inside : o.retired.count ≤ length o.retired.numbers
  retired_inside =
      subst (λ (r : Retired). r.count ≤ length r.numbers) (sym w.retired)
      (omega (arith, length-append (retired_in w.s) (replicate (most_retired - length (retired_in w.s)) 0)))

  pub retired_are : retired_numbers o.retired ≡ retired_in w.s
  retired_are = ap retired_numbers w.retired ∙ numbers_back (retired_in w.s)

  -- and stay as they are where no number leaves
  pub kept_retired : retired_numbers o.retired ≡ filed_all [] (retired_in w.s)
  unfolding filed_all
  kept_retired = retired_are

  module _ (change : Change) where
    -- what refuses a change of the record is the answer
    pub stored_refused : (why : Refusal) → stored_refusal change w.s ≡ Err why → (buffer : List ℕ) → outcome (Err why) buffer ≡ changed_record change bytes buffer
    unfolding changed_record
    stored_refused why h buffer =
        ap (λ (v : Verdict). delivered v (stored_bytes (changed_stored change w.s)) buffer) (sym h) ∙ ap (λ (r : Read Stored). changed_read change r buffer) (sym w.read)

    pub change_refused : (why : Refusal) → change_refusal change d ≡ Err why → (buffer : List ℕ) → outcome (Err why) buffer ≡ changed_record change bytes buffer
    change_refused why h = stored_refused why (then_refused (back_refusal (edition_after change (edition_of w.s)) (retired_in w.s)) h)

    -- the changed design keeps the rules
    pub change_rules : change_refusal change d ≡ Ok tt → (list : PartList) (sets : List ℕ) → list ≡ (changed change d).parts → sets ≡ (changed change d).sets → DesignRules (design list sets)
    change_rules h list sets lists same = subst DesignRules (sym (ap₂ design lists same)) (changed_rules change d design_kept h)

    -- and where nothing refuses it, it is written in its edition, with the numbers that left filed
    pub change_made : stored_refusal change w.s ≡ Ok tt → (edition : Edition) (list : PartList) (sets retired buffer : List ℕ) → edition ≡ edition_after change (edition_of w.s) → list ≡ (changed change d).parts
        → sets ≡ (changed change d).sets → retired ≡ filed_all (left_in change d) (retired_in w.s)
        → delivered (Ok tt) (stored_bytes (in_edition edition (design list sets) retired)) buffer ≡ changed_record change bytes buffer
    unfolding changed_record changed_stored
    change_made h edition list sets retired buffer editions lists same filed =
        ap (λ (t : Stored). delivered (Ok tt) (stored_bytes t) buffer) (all edition (design list sets) retired editions (ap₂ design lists same) filed)
        ∙ ap (λ (v : Verdict). delivered v (stored_bytes (changed_stored change w.s)) buffer) (sym h)
        ∙ ap (λ (r : Read Stored). changed_read change r buffer) (sym w.read)
      where
        all : (e : Edition) (x : Design) (l : List ℕ) → e ≡ edition_after change (edition_of w.s) → x ≡ changed change d → l ≡ filed_all (left_in change d) (retired_in w.s)
            → in_edition e x l ≡ in_edition (edition_after change (edition_of w.s)) (changed change d) (filed_all (left_in change d) (retired_in w.s))
        all e x l a b c = ap (λ (k : Edition). in_edition k x l) a ∙ ap₂ (λ (y : Design) (k : List ℕ). in_edition (edition_after change (edition_of w.s)) y k) b c

  -- what was opened keeps the rules, and without a group it is the record without the group
  module _ (list : PartList) (sets : List ℕ) (lists : list ≡ d.parts) (same : sets ≡ d.sets) where
    pub opened_rules : DesignRules (design list sets)
    opened_rules = subst DesignRules (sym (ap₂ design lists same)) design_kept

    pub opened_without : (edition : Edition) (retired : Retired) → edition ≡ edition_of w.s → retired ≡ o.retired → (group : ℕ) (buffer : List ℕ)
        → delivered (take_out_group_refusal group (design list sets)) (stored_bytes (in_edition edition (design_without group (design list sets)) (filed_all (named (numbers_of list) group) (retired_numbers retired)))) buffer
        ≡ changed_record (take_out_group group) bytes buffer
    unfolding changed_record changed_stored
    opened_without edition retired editions filed group buffer =
        ap₂ (λ (e : Edition) (x : Design). delivered (take_out_group_refusal group x) (stored_bytes (in_edition e (design_without group x) (filed_all (named (numbers_of x.parts) group) (retired_numbers retired)))) buffer) editions (ap₂ design lists same)
        ∙ ap (λ (l : List ℕ). delivered (take_out_group_refusal group d) (stored_bytes (in_edition (edition_of w.s) (design_without group d) (filed_all (named (numbers_of d.parts) group) l))) buffer) (ap retired_numbers filed ∙ retired_are)
        ∙ ap (λ (v : Verdict). delivered v (stored_bytes (in_edition (edition_of w.s) (design_without group d) (filed_all (named (numbers_of d.parts) group) (retired_in w.s)))) buffer) (sym (unconverted_refusal (take_out_group group) w.s refl))
        ∙ ap (λ (r : Read Stored). changed_read (take_out_group group) r buffer) (sym w.read)

-- 32 is said exactly where there are retired numbers
pub back_held : (retired : List ℕ) → (length retired ≡ 0 → ⊥) → back_refusal First retired ≡ Err (at RetiredPresent 0)
back_held [] some = absurd (some refl)
back_held (number ∷ numbers) some = refl

pub back_passed : (retired : List ℕ) → length retired ≡ 0 → back_refusal First retired ≡ Ok tt
back_passed [] none = refl
back_passed (number ∷ numbers) none = absurd (omega (arith, none))

-- ---- what the part list answers, and what it means for the design
module _ (v : Verdict) (list : PartList) (result : Changed) (number : ℕ) (given : result.answer ≡ Ok number) where
  unless_refused_lem : (why : Refusal) → (parts.unless v list result).answer ≡ Err why → v ≡ Err why
  unless_refused_lem why = cases v
    where
      cases : (v : Verdict) → (parts.unless v list result).answer ≡ Err why → v ≡ Err why
      cases (Err r) e = cc
      cases (Ok _) e = let same : Ok number ≡ Err why = sym given ∙ e in let z : ◌≡◌ {A = ℕ} 0 1 = cc in absurd (omega arith)

  unless_made : (k : ℕ) → (parts.unless v list result).answer ≡ Ok k → v ≡ Ok tt
  unless_made k = cases v
    where
      cases : (v : Verdict) → (parts.unless v list result).answer ≡ Ok k → v ≡ Ok tt
      cases (Err r) e = let z : ◌≡◌ {A = ℕ} 0 1 = cc in absurd (omega arith)
      cases (Ok _) e = refl

module _ (d : Design) (r : DesignRules d) where
  pub add_refused : (why : Refusal) → (part_added d.parts).answer ≡ Err why → change_refusal add_part d ≡ Err why
  add_refused why e =
      unless_refused_lem (add_refusal d.parts) d.parts (with_part d.parts) _ refl why (sym (ap (λ (c : Changed). c.answer) (added_whole d.parts r.parts)) ∙ e)

  pub add_made : (k : ℕ) → (part_added d.parts).answer ≡ Ok k → change_refusal add_part d ≡ Ok tt
  add_made k e =
      unless_made (add_refusal d.parts) d.parts (with_part d.parts) _ refl k (sym (ap (λ (c : Changed). c.answer) (added_whole d.parts r.parts)) ∙ e)

  module _ (group : ℕ) where
    listed_verdict_is : (group_taken_out d.parts group).verdict ≡ parts.take_out_group_refusal d.parts group
    listed_verdict_is =
        ap (λ (l : Listed). l.verdict) (group_taken_out_whole d.parts r.parts group)
        ∙ listed_verdict d.parts (parts.take_out_group_refusal d.parts group) (list_without group d.parts)

    pub out_refused : (why : Refusal) → (group_taken_out d.parts group).verdict ≡ Err why → take_out_group_refusal group d ≡ Err why
    out_refused why e = group_out_agrees group d r why (sym listed_verdict_is ∙ e)

    module _ (e : (group_taken_out d.parts group).verdict ≡ Ok tt) where
      -- the list is without the group
      pub out_list : (group_taken_out d.parts group).list ≡ list_without group d.parts
      out_list =
          ap (λ (l : Listed). l.list) (group_taken_out_whole d.parts r.parts group)
          ∙ ap (λ (v : Verdict). (listed_or d.parts v (list_without group d.parts)).list) (sym listed_verdict_is ∙ e)

      -- and whether every set names a part of it is left to be asked
      out_left : take_out_group_refusal group d ≡ without_refusal group d
      out_left =
          let a = take_out_group_accepted d.parts group (sym listed_verdict_is ∙ e) in
          group_passed d.parts.count group (without_refusal group d) a.0 a.1

      -- 18 is said exactly where no set is left
      pub out_none : length (sets_without group d.sets) ≡ 0 → take_out_group_refusal group d ≡ Err (at InEverySet 0)
      out_none none = out_left ∙ refuse_held (every (meets group) d.sets) InEverySet 0 (Ok tt) (without_none group d.sets none)

      pub out_some : (length (sets_without group d.sets) ≡ 0 → ⊥) → take_out_group_refusal group d ≡ Ok tt
      out_some some = out_left ∙ refuse_passed (every (meets group) d.sets) InEverySet 0 (Ok tt) (without_some group d.sets some)

  -- the sets of a design are a list that nothing refuses, so 4 and 5 of the new one are what is left
  pub with_set : (value : ℕ) → with_set_refusal d.parts.count d.sets value ≡ change_refusal (add_set value) d
  with_set value = ap (λ (v : Verdict). and_then v (change_refusal (add_set value) d)) (design_list d r)
