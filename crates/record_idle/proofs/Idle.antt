-- Idle parts by part numbers: they are those that no set names; nothing refuses to take them out, and that leaves the sets and the structure by
-- part numbers as they were; and a part that is added is idle. Assumes nothing.
use mathlib.Core.Path.{◌≡◌, refl, sym, ap, ◌∙◌, subst}
use mathlib.Core.Bool.{Bool, true, false, not}
use mathlib.Core.List.Memᴰ
use mathlib.Core.List.{List, [], ◌∷◌, Memᴰ}
use mathlib.Core.Logic.{◌↔◌, ◌⊎◌, inl, inr}
use Prim.Native.Nat.{ℕ, ◌+◌, ◌-◌, ◌≤◌, ◌<◌}
use native.Mathlib.Nat.{lt_of_le_of_lt}
use native.Mathlib.Omega.{arith}
use lib.ListN.{length, get_or}
use lib.Pow.{pow_pos}
use borrow.Author.Tests.{not-true}
use Rattle.std.specs.Prelude.{Ok}
use Rattle.answer.specs.Outcome.{valued, Numbered, Verdict}
use Rattle.codec.specs.Bytes.{Bytes}
use Rattle.codec.specs.Reads.{found}
use Rattle.numbers.proofs.Bools.{clash, false_of}
use Rattle.numbers.proofs.Bounds.{below_or_above}
use Rattle.theory_sums.specs.Sums.{some}
use Rattle.theory_sets.specs.Masks.{has, holds}
use Rattle.theory_sets.specs.Structures.{listed}
use Rattle.theory_sets.specs.Tables.{in_table, table_of}
use Rattle.theory_sets.proofs.Lists.{member_at, index_of}
use Rattle.theory_sets.proofs.Masks.{has_le, has_above, holds_part, holds_le}
use Rattle.theory_sets.proofs.Idle.{idle_exactly, has_idle_parts, idle_parts_below}
use Rattle.masks.specs.Groups.{meets}
use Rattle.masks.proofs.Groups.{shared_part}
use Rattle.structure.proofs.Acceptance.{accepted_table}
use Rattle.record_numbers.specs.Numbering.{named, names}
use Rattle.record_parts.specs.PartLists.{numbers_of}
use Rattle.record_parts.specs.Changes.{single}
use Rattle.record_parts.specs.Lines.{In}
use Rattle.record_parts.proofs.LeftOut.{in_named}
use Rattle.record_parts.proofs.WellFormed.{well_formed_counted}
use Rattle.record.specs.Records.{Design}
use Rattle.record_editions.specs.Editions.{Stored, edition_of, whole_record}
use Rattle.record_editions.specs.EditionBytes.{stored_bytes, StoredRules}
use Rattle.record.specs.RecordBytes.{DesignRules}
use Rattle.record.proofs.MinimalSets.{design_table_lem, design_minimal}
use Rattle.record_editions.proofs.RoundTrip.{stored_written, DesignFound, design_found, design_rules}
use Rattle.record_lines.specs.Changes.{Change, add_part, take_out, take_out_group, every, change_refusal, changed}
use Rattle.record_lines.specs.Names.{named_sets, repeated, names_some, runs}
use Rattle.record_lines.specs.Records.{edition_after, changed_stored, changed_record}
use Rattle.record_lines.proofs.Keeping.{every_intro, keep_same, keep_all, keep_elim, some_elim}
use Rattle.record_lines.proofs.Names.{Position, named_position, named_at, named_has, names_hold}
use Rattle.record_numbers.proofs.Names.{names_intro, names_elim}
use Rattle.record_lines.proofs.NamedChanges.{added_numbers, added_unnamed}
use Rattle.record_lines.proofs.Refusals.{take_out_exactly, take_out_group_exactly, change_given, unconverted_refusal}
use Rattle.record_lines.proofs.Rules.{changed_rules}
use Rattle.record_naming.specs.Naming.{mask_of}
use Rattle.record_naming.proofs.Masks.{mask_names}
use Rattle.record_naming.proofs.Refusals.{wanted_right}
use Rattle.record_naming.proofs.Steps.{mask_below}
use Rattle.record_groups.specs.Without.{Without}
use Rattle.record_groups.proofs.Shorter.{taken_out_shorter}
use Rattle.record_by_number.specs.Parts.{part_position, parts_mask, changed_there}
use Rattle.record_by_number.specs.Effects.{Leave}
use Rattle.record_by_number.proofs.Effects.{part_position_exactly, part_leaves, wanted_judged, wanted_leave}
use Rattle.record_idle.specs.Idle.{idle_mask, idle_numbers, SetsStay}

-- ---- no set names them

module _ (d : Design) (r : DesignRules d) where
  abbrev numbers : List ℕ
  numbers = numbers_of d.parts

  counted : length numbers ≡ d.parts.count
  counted = well_formed_counted d.parts r.parts

  -- by positions
  idle_by_position : (i : ℕ) → i < d.parts.count → (has (idle_mask d) i ≡ true) ↔ ((a : ℕ) → Memᴰ a d.sets → has a i ≡ false)
  idle_by_position i l =
      let n = d.parts.count in
      let works : ℕ → Bool = in_table (table_of n (listed d.sets)) in
      let named = idle_exactly n works (accepted_table n (table_of n (listed d.sets)) (design_table_lem d r)).semicoherent i l in
      let bit = has_idle_parts n works i l in (
        λ h a m. named.0 (sym bit ∙ h) a (rw (design_minimal d r) m),
        λ none. bit ∙ named.1 (λ a m. none a (rw (design_minimal d r) at m)),
      )

  idle_inside : (i : ℕ) → has (idle_mask d) i ≡ true → i < d.parts.count
  idle_inside i h = cases (below_or_above i n)
    where
      n : ℕ
      n = d.parts.count

      cases : (i < n) ⊎ (n ≤ i) → i < n
      cases (inl low) = low
      cases (inr high) = clash h (has_above (idle_mask d) n i (idle_parts_below n (in_table (table_of n (listed d.sets)))) high)

  -- by part numbers
  pub idle_named : (number : ℕ) → In number (idle_numbers d) ↔ (In number (numbers_of d.parts) × ((set : List ℕ) → Memᴰ set (named_sets d) → In number set → ⊥))
  idle_named number = (λ i. (in_named numbers (idle_mask d) i, there i), λ given. back given.0 given.1)
    where
      there : In number (idle_numbers d) → (set : List ℕ) → Memᴰ set (named_sets d) → In number set → ⊥
      there i set m j =
          let at = named_position numbers (idle_mask d) i in
          let found = Memᴰ.of_map (named numbers) d.sets m in
          let a = found.0 in
          let here : In (get_or numbers at.index 0) (named numbers a) =
          subst (λ (x : ℕ). In x (named numbers a)) at.same (subst (λ (s : List ℕ). In number s) (sym found.2) j) in
          clash (named_has 0 d.parts.mark numbers r.parts.rules.rising a at.index at.inside here)
          ((idle_by_position at.index (omega (arith, at.inside, counted))).0 at.member a found.1)

      back : In number numbers → ((set : List ℕ) → Memᴰ set (named_sets d) → In number set → ⊥) → In number (idle_numbers d)
      back here none =
          let at = index_of numbers number here in
          let index = at.0 in
          let idle : has (idle_mask d) index ≡ true =
          (idle_by_position index (omega (arith, at.1, counted))).1 (λ a m. false_of (has a index) (λ h.
          none (named numbers a) (Memᴰ.map (named numbers) m) (subst (λ (x : ℕ). In x (named numbers a)) at.2 (named_at numbers a index at.1 h)))) in
          subst (λ (x : ℕ). In x (idle_numbers d)) at.2 (named_at numbers (idle_mask d) index at.1 idle)

  -- ---- taking them out

  -- a set shares no part with a group of idle ones
  idle_apart : (group : ℕ) → holds (idle_mask d) group ≡ true → (a : ℕ) → Memᴰ a d.sets → meets group a ≡ false
  idle_apart group within a m =
      false_of (meets group a) (λ h.
      let found = shared_part d.parts.count group a (r.sets.within a m).0 h in
      clash found.2 ((idle_by_position found.0 found.1).0 (holds_part (idle_mask d) group within found.0 found.3) a m))

  first_set : Memᴰ (get_or d.sets 0 0) d.sets
  first_set = member_at d.sets 0 r.sets.some

  -- nothing refuses to take out an idle part, or a group of them
  pub idle_taken_out : (position : ℕ) → 1 ≤ position → has (idle_mask d) (position - 1) ≡ true → change_refusal (take_out position) d ≡ Ok tt
  idle_taken_out position from h =
      let inside = idle_inside (position - 1) h in
      (take_out_exactly position d).1 (from, omega arith, (get_or d.sets 0 0, first_set, (idle_by_position (position - 1) inside).0 h (get_or d.sets 0 0) first_set))

  pub idle_group_taken_out : (group : ℕ) → 0 < group → holds (idle_mask d) group ≡ true → change_refusal (take_out_group group) d ≡ Ok tt
  idle_group_taken_out group any within =
      (take_out_group_exactly group d).1 (
        any,
        lt_of_le_of_lt (holds_le (idle_mask d) group within) (idle_parts_below d.parts.count (in_table (table_of d.parts.count (listed d.sets)))),
        (get_or d.sets 0 0, first_set, idle_apart group within (get_or d.sets 0 0) first_set),
      )

  module _ (gone : List ℕ) (new : Design) (without : Without gone d new) where
    -- without idle parts the sets are as they were, by part numbers,
    pub idle_stay : ((number : ℕ) → In number gone → In number (idle_numbers d)) → named_sets new ≡ named_sets d
    idle_stay idle =
        without.sets
        ∙ keep_same (λ set. not (names_some gone set)) (λ set. true) (named_sets d) (λ set m. ap not (false_of (names_some gone set) (λ h.
        let found = some_elim (λ number. names number set) gone h in
        ((idle_named found.0).0 (idle found.0 found.1)).1 set m (names_elim found.0 set found.2))))
        ∙ keep_all (named_sets d)

    -- and so is the structure;
    pub idle_runs : ((number : ℕ) → In number gone → In number (idle_numbers d)) → (working : ℕ → Bool) → runs new working ≡ runs d working
    idle_runs idle working = ap (some (every working)) (idle_stay idle)

-- where all of them have left, no part is idle
pub none_idle_left : (d : Design) → DesignRules d → (gone : List ℕ) (new : Design) → Without gone d new → ((number : ℕ) → In number gone ↔ In number (idle_numbers d))
    → (number : ℕ) → In number (idle_numbers new) → ⊥
none_idle_left d r gone new without idle number i =
    let now = (idle_named new without.rules number).0 i in
    let kept = keep_elim (λ other. not (names other gone)) (numbers_of d.parts) (subst (λ (numbers : List ℕ). In number numbers) without.numbers now.0) in
    let same = idle_stay d r gone new without (λ other. (idle other).0) in
    let before : In number (idle_numbers d) = (idle_named d r number).1 (kept.0, λ set m. now.1 set (rw same m)) in
    clash (names_intro number gone ((idle number).1 before)) (not-true (names number gone) kept.1)

-- ---- the calls

-- the part at a position taken out is the group of that one part taken out
single_group : (position : ℕ) (s : Stored) → changed_stored (take_out position) s ≡ changed_stored (take_out_group (single position)) s
unfolding changed_stored
single_group position s = refl

module _ (bytes : List ℕ) (d : Design) (next : ℕ) (small : Bytes bytes) (read : whole_record bytes ≡ found d next) where
  rules : DesignRules d
  rules = (design_rules bytes d next small read).0

  leave_stays : (gone buffer : List ℕ) (k : ℕ) → Leave gone d buffer k → ((number : ℕ) → In number gone → In number (idle_numbers d)) → SetsStay d buffer k
  leave_stays gone buffer k l idle = record { new = l.new; read = l.read; sets = idle_stay d rules gone l.new l.without idle }

  -- the record that was read, of either edition, and its length
  abbrev here : DesignFound bytes d next
  here = design_found bytes d next read

  abbrev s : Stored
  s = here.stored

  form : StoredRules s × (stored_bytes s ≡ bytes) × (next ≡ length bytes)
  form = stored_written bytes s next small here.read

  -- a change of an idle part or group, which nothing refuses, is made where there is room for the record as it is
  given : (change : Change) (group : ℕ) (buffer : List ℕ) → edition_after change (edition_of s) ≡ edition_of s → change_refusal change d ≡ Ok tt
      → changed_stored change s ≡ changed_stored (take_out_group group) s → length bytes ≤ length buffer
      → (changed_record change bytes buffer).answer ≡ Ok (length (stored_bytes (changed_stored change s)))
  given change group buffer edition accepted same room =
      change_given change bytes buffer s next here.read
      (unconverted_refusal change s edition ∙ ap (change_refusal change) here.same ∙ accepted)
      (omega (arith, ap (λ (t : Stored). length (stored_bytes t)) same, taken_out_shorter group s form.0, ap length form.1))

  -- An idle part is taken out of a record by its number, and the sets stay;
  pub idle_part_leaves : (number : ℕ) (buffer : List ℕ) → In number (idle_numbers d) → length bytes ≤ length buffer
      → (k : ℕ) × ((changed_there take_out (part_position bytes number) bytes buffer).answer ≡ Ok k)
      × SetsStay d (changed_there take_out (part_position bytes number) bytes buffer).buffer k
  idle_part_leaves number buffer idle room =
      (k, made, leave_stays (number ∷ []) _ k (part_leaves bytes d next small read number buffer k made) (λ other i. only i (Memᴰ.cases_cons i)))
    where
      only : {other : ℕ} → In other (number ∷ []) → (other ≡ number) ⊎ In other [] → In other (idle_numbers d)
      only i (inl e) = subst (λ (x : ℕ). In x (idle_numbers d)) (sym e) idle
      only i (inr none) = absurd (Memᴰ.not-nil none)

      at : Position (numbers_of d.parts) (idle_mask d) number
      at = named_position (numbers_of d.parts) (idle_mask d) idle

      position : ℕ
      position = at.index + 1

      back : position - 1 ≡ at.index
      back = omega arith

      there : part_position bytes number ≡ Ok position
      there =
          (part_position_exactly bytes d next small read number position).1
          (omega arith, omega (arith, at.inside, counted d rules), ap (λ (i : ℕ). get_or (numbers_of d.parts) i 0) back ∙ sym at.same)

      k : ℕ
      k = length (stored_bytes (changed_stored (take_out position) s))

      same : changed_stored (take_out position) s ≡ changed_stored (take_out_group (single position)) s
      same = single_group position s

      made : (changed_there take_out (part_position bytes number) bytes buffer).answer ≡ Ok k
      made =
          ap (λ (v : Numbered). (changed_there take_out v bytes buffer).answer) there
          ∙ given (take_out position) (single position) buffer refl
          (idle_taken_out d rules position (omega arith) (ap (has (idle_mask d)) back ∙ at.member)) same room

  -- and so are idle parts together, at least one and none of them twice.
  pub idle_parts_leave : (wanted buffer : List ℕ) → ((number : ℕ) → In number wanted → In number (idle_numbers d)) → 1 ≤ length wanted → repeated wanted ≡ false
      → length bytes ≤ length buffer
      → (k : ℕ) × ((changed_there take_out_group (parts_mask bytes wanted) bytes buffer).answer ≡ Ok k)
      × SetsStay d (changed_there take_out_group (parts_mask bytes wanted) bytes buffer).buffer k
  idle_parts_leave wanted buffer idle any once room =
      (k, made, leave_stays wanted _ k (wanted_leave bytes d next small read wanted buffer k made) idle)
    where
      numbers : List ℕ
      numbers = numbers_of d.parts

      mask : ℕ
      mask = mask_of numbers wanted

      known : every (λ number. names number numbers) wanted ≡ true
      known = every_intro (λ number. names number numbers) wanted (λ number i. names_intro number numbers (in_named numbers (idle_mask d) (idle number i)))

      there : parts_mask bytes wanted ≡ Ok mask
      there =
          wanted_judged bytes d next small read wanted
          ∙ ap (λ (v : Verdict). valued v mask) (wanted_right numbers wanted known once)

      named_same : (number : ℕ) → In number (named numbers mask) ↔ In number wanted
      named_same = mask_names numbers wanted known

      some : 0 < mask
      some =
          let at = named_position numbers mask ((named_same (get_or wanted 0 0)).1 (member_at wanted 0 any)) in
          omega (arith, has_le mask at.index at.member, pow_pos at.index)

      within : holds (idle_mask d) mask ≡ true
      within =
          names_hold 0 d.parts.mark numbers rules.parts.rules.rising (idle_mask d) mask (mask_below numbers wanted)
          (λ number i. idle number ((named_same number).0 i))

      k : ℕ
      k = length (stored_bytes (changed_stored (take_out_group mask) s))

      made : (changed_there take_out_group (parts_mask bytes wanted) bytes buffer).answer ≡ Ok k
      made =
          ap (λ (v : Numbered). (changed_there take_out_group v bytes buffer).answer) there
          ∙ given (take_out_group mask) mask buffer refl (idle_group_taken_out d rules mask some within) refl room

-- ---- one part more

-- a part that is added is idle
pub added_part_idle : (d : Design) → DesignRules d → change_refusal add_part d ≡ Ok tt → In (d.parts.mark + 1) (idle_numbers (changed add_part d))
added_part_idle d r accepted =
    (idle_named (changed add_part d) (changed_rules add_part d r accepted) (d.parts.mark + 1)).1 (
      subst (λ (numbers : List ℕ). In (d.parts.mark + 1) numbers) (sym (added_numbers d r accepted)) (Memᴰ.append_right (numbers_of d.parts) (Memᴰ.head refl)),
      added_unnamed d r accepted,
    )
