-- What a change by part numbers does: the position found is the part's own, exactly the parts that are named leave, and the set that comes has
-- exactly the wanted numbers.
-- Assumes nothing.
use mathlib.Core.Path.{◌≡◌, refl, sym, ap, ◌∙◌, subst}
use mathlib.Core.List.{List, [], ◌∷◌}
use mathlib.Core.Logic.{◌↔◌}
use Prim.Native.Nat.{ℕ, ◌-◌, ◌≤◌}
use native.Mathlib.Omega.{arith}
use lib.ListN.{length}
use Rattle.std.specs.Prelude.{Ok, Err}
use Rattle.answer.specs.Outcome.{Outcome, valued, Numbered, Verdict}
use Rattle.answer.proofs.Outcomes.{given_valued}
use Rattle.codec.specs.Bytes.{Bytes}
use Rattle.codec.specs.Reads.{found}
use Rattle.record_numbers.specs.Numbering.{named}
use Rattle.record_parts.specs.PartLists.{numbers_of}
use Rattle.record_parts.specs.Changes.{single}
use Rattle.record_parts.specs.Lines.{In}
use Rattle.record_parts.proofs.LeftOut.{in_named, named_single}
use Rattle.record_parts.proofs.WellFormed.{well_formed_counted}
use Rattle.record.specs.Records.{Design}
use Rattle.record_editions.specs.Editions.{whole_record}
use Rattle.record.specs.RecordBytes.{DesignRules}
use Rattle.record_editions.proofs.RoundTrip.{design_rules}
use Rattle.record_lines.specs.Changes.{Change, take_out, take_out_group, add_set, design_without, changed}
use Rattle.record_lines.specs.Names.{part_number_at}
use Rattle.record_lines.specs.Records.{changed_record}
use Rattle.record_lines.proofs.NamedChanges.{with_set_names}
use Rattle.record_lines.proofs.Rules.{take_out_accepted, group_out_accepted}
use Rattle.record_lines.proofs.Written.{DesignMade, made_read}
use Rattle.record_naming.specs.Naming.{mask_of, wanted_refusal, found_position, found_mask}
use Rattle.record_naming.proofs.Masks.{mask_names}
use Rattle.record_naming.proofs.Positions.{position_exactly}
use Rattle.record_naming.proofs.Refusals.{wanted_accepted, mask_counted}
use Rattle.record_groups.proofs.ByNames.{without_group, without_order}
use Rattle.record_by_number.specs.Parts.{looked_up, part_position, parts_mask, changed_there}
use Rattle.record_by_number.specs.Effects.{Leave, SetComes}

-- a change that was made was one where the parts stand
record There (change : ℕ → Change) (v : Numbered) (bytes buffer : List ℕ) : Type 0 where
  there : ℕ
  given : v ≡ Ok there
  same : changed_there change v bytes buffer ≡ changed_record (change there) bytes buffer

made_there : (change : ℕ → Change) (v : Numbered) (bytes buffer : List ℕ) (k : ℕ) → (changed_there change v bytes buffer).answer ≡ Ok k → There change v bytes buffer
made_there change (Err why) bytes buffer k e = let z : ◌≡◌ {A = ℕ} 0 1 = cc in absurd (omega arith)
made_there change (Ok there) bytes buffer k e = record { there = there; given = refl; same = refl }

module _ (bytes : List ℕ) (d : Design) (next : ℕ) (small : Bytes bytes) (read : whole_record bytes ≡ found d next) where
  abbrev numbers : List ℕ
  numbers = numbers_of d.parts

  rules : DesignRules d
  rules = (design_rules bytes d next small read).0

  counted : length numbers ≡ d.parts.count
  counted = well_formed_counted d.parts rules.parts

  position_looked : (number : ℕ) → part_position bytes number ≡ found_position numbers number
  unfolding part_position
  position_looked number = ap (looked_up (λ numbers. found_position numbers number)) read

  mask_looked : (wanted : List ℕ) → parts_mask bytes wanted ≡ found_mask numbers wanted
  unfolding parts_mask
  mask_looked wanted = ap (looked_up (λ numbers. found_mask numbers wanted)) read

  -- The position that is found is the one whose part number that is.
  pub part_position_exactly : (number position : ℕ)
      → (part_position bytes number ≡ Ok position) ↔ ((1 ≤ position) × (position ≤ d.parts.count) × (part_number_at d position ≡ number))
  part_position_exactly number position =
      let exactly = position_exactly 0 d.parts.mark numbers rules.parts.rules.rising number position in (
        λ e. let p = exactly.0 (sym (position_looked number) ∙ e) in (p.0, omega (arith, p.1, counted), p.2),
        λ p. position_looked number ∙ exactly.1 (p.0, omega (arith, p.1, counted), p.2),
      )

  -- Of an accepted record only 17 and 28 refuse wanted numbers.
  pub wanted_judged : (wanted : List ℕ) → parts_mask bytes wanted ≡ valued (wanted_refusal numbers wanted) (mask_of numbers wanted)
  wanted_judged wanted =
      let w = rules.parts.rules in
      mask_looked wanted
      ∙ ap (λ (v : Verdict). valued v (mask_of numbers wanted)) (mask_counted numbers wanted (omega (arith, w.some, counted)) (omega (arith, w.few, counted)))

  module _ (wanted : List ℕ) (mask : ℕ) (e : parts_mask bytes wanted ≡ Ok mask) where
    -- the parts of a mask that was found are the wanted ones
    pub wanted_named : (number : ℕ) → In number (named numbers mask) ↔ In number wanted
    wanted_named number =
        let g = given_valued (wanted_refusal numbers wanted) (mask_of numbers wanted) mask (sym (wanted_judged wanted) ∙ e) in
        let known = (wanted_accepted numbers wanted g.0).0 in
        subst (λ (m : ℕ). In number (named numbers m) ↔ In number wanted) g.1 (mask_names numbers wanted known number)

  -- what a change by position or mask made
  made : (change : Change) (buffer : List ℕ) (k : ℕ) (e : (changed_record change bytes buffer).answer ≡ Ok k) → DesignMade change bytes buffer k e d
  made change buffer k e = made_read change bytes buffer k e small d next read

  -- Exactly the part with that number leaves.
  pub part_leaves : (number : ℕ) (buffer : List ℕ) (k : ℕ) → (changed_there take_out (part_position bytes number) bytes buffer).answer ≡ Ok k
      → Leave (number ∷ []) d (changed_there take_out (part_position bytes number) bytes buffer).buffer k
  part_leaves number buffer k e =
      let t = made_there take_out (part_position bytes number) bytes buffer k e in
      let position : ℕ = t.there in
      let m = made (take_out position) buffer k (ap (λ (o : Outcome Numbered (List ℕ)). o.answer) (sym t.same) ∙ e) in
      let p = (part_position_exactly number position).0 t.given in
      let one : named numbers (single position) ≡ number ∷ [] =
      named_single (position - 1) numbers (omega (arith, p.0, p.1, counted)) ∙ ap (λ (x : ℕ). x ∷ []) p.2 in
      subst (λ (o : Outcome Numbered (List ℕ)). Leave (number ∷ []) d o.buffer k) (sym t.same)
      (record {
        in_use = λ other i. in_named numbers (single position) (rw one i);
        new = design_without (single position) d;
        read = m.accepted_again;
        without = rw one at (without_group (single position) d rules (take_out_accepted position d m.accepted).left);
      })

  -- Exactly the parts with the wanted numbers leave, together.
  pub wanted_leave : (wanted buffer : List ℕ) (k : ℕ) → (changed_there take_out_group (parts_mask bytes wanted) bytes buffer).answer ≡ Ok k
      → Leave wanted d (changed_there take_out_group (parts_mask bytes wanted) bytes buffer).buffer k
  wanted_leave wanted buffer k e =
      let t = made_there take_out_group (parts_mask bytes wanted) bytes buffer k e in
      let group : ℕ = t.there in
      let m = made (take_out_group group) buffer k (ap (λ (o : Outcome Numbered (List ℕ)). o.answer) (sym t.same) ∙ e) in
      subst (λ (o : Outcome Numbered (List ℕ)). Leave wanted d o.buffer k) (sym t.same)
      (record {
        in_use = λ number i. in_named numbers group ((wanted_named wanted group t.given number).1 i);
        new = design_without group d;
        read = m.accepted_again;
        without = without_order (named numbers group) wanted (wanted_named wanted group t.given) (without_group group d rules (group_out_accepted group d m.accepted).2);
      })

  -- The set that comes has exactly the wanted numbers.
  pub wanted_comes : (wanted buffer : List ℕ) (k : ℕ) → (changed_there add_set (parts_mask bytes wanted) bytes buffer).answer ≡ Ok k
      → SetComes wanted d (changed_there add_set (parts_mask bytes wanted) bytes buffer).buffer k
  wanted_comes wanted buffer k e =
      let t = made_there add_set (parts_mask bytes wanted) bytes buffer k e in
      let mask : ℕ = t.there in
      let m = made (add_set mask) buffer k (ap (λ (o : Outcome Numbered (List ℕ)). o.answer) (sym t.same) ∙ e) in
      subst (λ (o : Outcome Numbered (List ℕ)). SetComes wanted d o.buffer k) (sym t.same)
      (record {
        in_use = λ number i. in_named numbers mask ((wanted_named wanted mask t.given number).1 i);
        new = changed (add_set mask) d;
        read = m.accepted_again;
        parts = refl;
        set = named numbers mask;
        wanted_ones = wanted_named wanted mask t.given;
        least = with_set_names mask d rules m.accepted;
      })
