-- The theorem of 02, §2: a group that passes 15 and 16 comes to what its parts come to singly, in every order, each found by its number, where no
-- buffer is too short. It holds in either edition, and in edition 2 the same numbers are retired (§8).
-- Assumes nothing.
use mathlib.Core.Path.{◌≡◌, refl, sym, ap, ap₂, ◌∙◌, subst}
use mathlib.Core.Bool.{Bool, true, false, not}
use mathlib.Core.List.Memᴰ
use mathlib.Core.List.{List, [], ◌∷◌, map}
use mathlib.Core.Logic.{⊎_elim, ◌↔◌}
use Prim.Native.Nat.{ℕ, suc, ◌-◌, ◌^◌, ◌≤◌, ◌<◌}
use native.Mathlib.Omega.{arith}
use lib.ListN.{length, drop}
use lib.Seq.{take-append_seam}
use Rattle.std.specs.Prelude.{Ok, Err}
use Rattle.answer.specs.declared.Reason.TheVariants.{ShortBuffer, InEverySet}
use Rattle.answer.specs.Outcome.{at, Outcome, delivered, Numbered, Verdict}
use Rattle.answer.specs.Checks.{group_refusal}
use Rattle.answer.specs.declared.Refusal.{Refusal}
use Rattle.answer.proofs.Outcomes.{refuse_held, refuse_passed}
use Rattle.answer.proofs.Checks.{group_right, group_passed}
use Rattle.answer.proofs.Deliveries.{refused_kept, delivered_short, delivered_whole}
use Rattle.numbers.proofs.Bools.{clash, or_left, false_of}
use Rattle.numbers.proofs.Bounds.{below_or_above}
use Rattle.theory_sums.specs.Sums.{some}
use Rattle.masks.specs.Groups.{meets}
use Rattle.codec.specs.Bytes.{Bytes}
use Rattle.codec.specs.Reads.{Read, found}
use Rattle.record_numbers.specs.Numbering.{named, names}
use Rattle.record_parts.specs.PartLists.{numbers_of}
use Rattle.record_parts.specs.Changes.{single}
use Rattle.record_parts.specs.Lines.{In}
use Rattle.record_parts.proofs.LeftOut.{in_named, named_single}
use Rattle.record_parts.proofs.WellFormed.{well_formed_counted}
use Rattle.record.specs.Records.{Design}
use Rattle.record.specs.RecordBytes.{DesignRules}
use Rattle.record_retired.specs.Retired.{filed_all}
use Rattle.record_retired.proofs.Filing.{filed_order}
use Rattle.record_editions.specs.declared.Edition.{Edition}
use Rattle.record_editions.specs.declared.Edition.TheVariants.{First, Second}
use Rattle.record_editions.specs.Editions.{Stored, first, second, design_of, retired_in, edition_of, whole_stored, whole_record}
use Rattle.record_editions.specs.EditionBytes.{stored_bytes, StoredRules}
use Rattle.record_editions.proofs.RoundTrip.{stored_written, whole_stored_lem, stored_design, design_found, rules_design}
use Rattle.record_lines.specs.Changes.{take_out, take_out_group, every, design_without, without_refusal}
use Rattle.record_lines.specs.Names.{named_sets, names_some}
use Rattle.record_lines.specs.Records.{in_edition, stored_refusal, changed_stored, changed_read, changed_record}
use Rattle.record_lines.specs.Lines.{Call, outcome_of, record_after, after}
use Rattle.record_lines.proofs.Keeping.{every_intro, every_elim, keep_intro, every_kept, every_same}
use Rattle.record_lines.proofs.Names.{names_either}
use Rattle.record_numbers.proofs.Names.{names_elim}
use Rattle.record_lines.proofs.Refusals.{position_passed, unconverted_refusal}
use Rattle.record_lines.proofs.Stored.{changed_design, retired_rules, stored_rules}
use Rattle.record_naming.proofs.Positions.{Traced, traced}
use Rattle.record_groups.specs.Series.{Result, verdict_of, result_of, NotShort, position_in, Leaving, leaving, call_for, ending, series_from, series, Reordered}
use Rattle.record_groups.specs.Without.{Without}
use Rattle.record_groups.proofs.Orders.{Apart, order_apart, order_same}
use Rattle.record_groups.proofs.ByNames.{without_none, without_group, without_then, without_order, without_once, same_names_some, every_named}

-- ---- one call on a record

module _ (call : Call) (bytes : List ℕ) (s : Stored) (next : ℕ) (read : whole_stored bytes ≡ found s next) where
  abbrev result : List ℕ
  result = stored_bytes (changed_stored call.change s)

  call_outcome : outcome_of call bytes ≡ delivered (stored_refusal call.change s) result call.buffer
  unfolding changed_record
  call_outcome = ap (λ (r : Read Stored). changed_read call.change r call.buffer) read

  -- what an outcome comes to
  abbrev told : Outcome Numbered (List ℕ) → Result
  told o = record { verdict = verdict_of o.answer; bytes = record_after o.answer o.buffer bytes }

  pub call_refused : (why : Refusal) → stored_refusal call.change s ≡ Err why → result_of call bytes ≡ record { verdict = Err why; bytes = bytes }
  call_refused why e = ap told (call_outcome ∙ sym (refused_kept (stored_refusal call.change s) result call.buffer why e))

  module _ (e : stored_refusal call.change s ≡ Ok tt) where
    pub call_made : length result ≤ length call.buffer → result_of call bytes ≡ record { verdict = (Ok tt); bytes = result }
    call_made room =
        ap told (call_outcome ∙ sym (delivered_whole (stored_refusal call.change s) result call.buffer e (length result) refl _ refl room))
        ∙ ap (λ (l : List ℕ). record { verdict = (Ok tt); bytes = l }) (take-append_seam result (drop (length result) call.buffer))

    call_short : length call.buffer < length result → result_of call bytes ≡ record { verdict = Err (at ShortBuffer (length result)); bytes = bytes }
    call_short short = ap told (call_outcome ∙ sym (delivered_short (stored_refusal call.change s) result call.buffer e (length result) refl short))

    -- what is not too short has room
    call_fits : NotShort (result_of call bytes) → result_of call bytes ≡ record { verdict = (Ok tt); bytes = result }
    call_fits fits =
        ⊎_elim (λ short. absurd (fits (length result) (ap (λ (r : Result). r.verdict) (call_short short)))) call_made
        (below_or_above (length call.buffer) (length result))

-- ---- one part after the other

-- 18, with the record that was there at first
abbrev stopped : List ℕ → Result
stopped began = record { verdict = Err (at InEverySet 0); bytes = began }

abbrev left_with : Stored → Result
left_with s = record { verdict = (Ok tt); bytes = stored_bytes s }

-- the record of a design that is left, in the edition that was read: in edition 2 the numbers that left are filed
abbrev filed_with : Stored → Design → List ℕ → Stored
filed_with s new gone = in_edition (edition_of s) new (filed_all gone (retired_in s))

-- what parts come to: 18 if every set names one of them, and else the design without them, and their numbers filed
record Comes (gone : List ℕ) (s : Stored) (began : List ℕ) (result : Result) : Type 0 where
  pub refused : every (names_some gone) (named_sets (design_of s)) ≡ true → result ≡ stopped began
  pub left : every (names_some gone) (named_sets (design_of s)) ≡ false
      → (new : Design) × Without gone (design_of s) new × (result ≡ left_with (filed_with s new gone))

-- where none left, nothing is filed
filed_none : (s : Stored) → filed_with s (design_of s) [] ≡ s
unfolding filed_all
filed_none (first d) = refl
filed_none (second d retired) = refl

-- what is filed after other numbers
filed_again : (edition : Edition) (d new : Design) (retired rest : List ℕ) → filed_with (in_edition edition d retired) new rest ≡ in_edition edition new (filed_all rest retired)
filed_again First d new retired rest = refl
filed_again Second d new retired rest = refl

-- no set names a part of none
none_named : (f : ℕ → List ℕ) (sets : List ℕ) → 1 ≤ length sets → every (names_some []) (map f sets) ≡ false
unfolding some
none_named f [] h = absurd (omega arith)
none_named f (x ∷ xs) h = refl

-- the group of the part that leaves, in the record of that moment
abbrev group_of : Leaving → List ℕ → ℕ
group_of part bytes = single (position_in (whole_record bytes) part.number)

-- the first part to leave is one of a record
record Leads (part : Leaving) (bytes : List ℕ) (s : Stored) : Type 0 where
  pub next : ℕ
  pub read : whole_stored bytes ≡ found s next
  pub rules : DesignRules (design_of s)
  pub in_use : In part.number (numbers_of (design_of s).parts)

module _ (part : Leaving) (bytes : List ℕ) (s : Stored) (f : Leads part bytes s) where
  abbrev d : Design
  d = design_of s

  abbrev numbers : List ℕ
  numbers = numbers_of d.parts

  abbrev position : ℕ
  position = position_in (whole_record bytes) part.number

  abbrev all : Bool
  all = every (meets (group_of part bytes)) d.sets

  at_position : Traced 1 part.number numbers
  at_position = traced 1 part.number numbers f.in_use

  position_is : position ≡ suc at_position.index
  position_is = ap (λ (x : Read Design). position_in x part.number) (stored_design bytes s f.next f.read) ∙ at_position.position ∙ omega arith

  judged : stored_refusal (take_out position) s ≡ without_refusal (group_of part bytes) d
  judged =
      unconverted_refusal (take_out position) s refl
      ∙ position_passed position d (omega (arith, position_is))
      (omega (arith, position_is, at_position.inside, well_formed_counted d.parts f.rules.parts))

  -- its group has the one number
  one_gone : named numbers (group_of part bytes) ≡ part.number ∷ []
  one_gone =
      let index : position - 1 ≡ at_position.index = omega (arith, position_is) in
      ap (λ (k : ℕ). named numbers (2 ^ k)) index ∙ named_single at_position.index numbers at_position.inside
      ∙ ap (λ (x : ℕ). x ∷ []) at_position.same

  -- every set names it: 18, whatever is to follow
  every_more : (rest : List ℕ) → all ≡ true → every (names_some (part.number ∷ rest)) (named_sets d) ≡ true
  every_more rest h =
      let each : every (names_some (part.number ∷ [])) (named_sets d) ≡ true =
      ap (λ (gone : List ℕ). every (names_some gone) (named_sets d)) (sym one_gone) ∙ sym (every_named (group_of part bytes) d f.rules) ∙ h in
      every_intro (names_some (part.number ∷ rest)) (named_sets d) (λ set m.
      sym (names_either part.number rest set) ∙ or_left (names_some rest set) (every_elim (names_some (part.number ∷ [])) (named_sets d) each m))

  first_refused : (parts : List Leaving) (began : List ℕ) → all ≡ true → Comes (leaving (part ∷ parts)) s began (series_from began (part ∷ parts) bytes)
  first_refused parts began h =
      record {
        refused = λ named.
            ap (λ (x : Result). ending x.verdict began (series_from began parts (after (call_for part bytes) bytes)))
            (call_refused (call_for part bytes) bytes s f.next f.read (at InEverySet 0) (judged ∙ refuse_held all InEverySet 0 (Ok tt) h));
        left = λ some. clash (every_more (leaving parts) h) some;
      }

  -- some set does not: the others leave what is left
  module _ (some : all ≡ false) where
    abbrev middle : Stored
    middle = changed_stored (take_out position) s

    accepted : stored_refusal (take_out position) s ≡ Ok tt
    accepted = judged ∙ refuse_passed all InEverySet 0 (Ok tt) some

    one_without : Without (part.number ∷ []) d (design_of middle)
    one_without =
        subst (λ (new : Design). Without (part.number ∷ []) d new) (sym (changed_design (take_out position) s))
        (subst (λ (gone : List ℕ). Without gone d (design_without (group_of part bytes) d)) one_gone (without_group (group_of part bytes) d f.rules some))

    -- its number is filed before those of the others
    filed_first : (rest : List ℕ) (new : Design) → filed_with middle new rest ≡ filed_with s new (part.number ∷ rest)
    unfolding changed_stored filed_all
    filed_first rest new =
        filed_again (edition_of s) (design_without (group_of part bytes) d) new (filed_all (named numbers (group_of part bytes)) (retired_in s)) rest
        ∙ ap (λ (gone : List ℕ). in_edition (edition_of s) new (filed_all rest (filed_all gone (retired_in s)))) one_gone

    one_made : NotShort (result_of (call_for part bytes) bytes) → result_of (call_for part bytes) bytes ≡ left_with middle
    one_made = call_fits (call_for part bytes) bytes s f.next f.read accepted

    -- every set that is left names one of the others exactly if every set names it or one of them
    every_then : (rest : List ℕ) → every (names_some rest) (named_sets (design_of middle)) ≡ every (names_some (part.number ∷ rest)) (named_sets d)
    every_then rest =
        ap (every (names_some rest)) one_without.sets ∙ every_kept (names_some rest) (names_some (part.number ∷ [])) (named_sets d)
        ∙ every_same _ _ (named_sets d) (λ set m. names_either part.number rest set)

    -- another number is still in use
    still_in_use : (number : ℕ) → In number numbers → (number ≡ part.number → ⊥) → In number (numbers_of (design_of middle).parts)
    still_in_use number i other =
        subst (λ (l : List ℕ). In number l) (sym one_without.numbers)
        (keep_intro (λ number. not (names number (part.number ∷ []))) numbers i
        (ap not (false_of (names number (part.number ∷ [])) (λ h. other (Memᴰ.eq_of_singleton (names_elim number (part.number ∷ []) h))))))

    -- of a series in which no buffer is too short the first is not
    first_fits : (parts : List Leaving) (began : List ℕ) → NotShort (series_from began (part ∷ parts) bytes) → NotShort (result_of (call_for part bytes) bytes)
    first_fits parts began fits needed e =
        fits needed (ap (λ (v : Verdict). (ending v began (series_from began parts (after (call_for part bytes) bytes))).verdict) e)

    first_made : (parts : List Leaving) (began : List ℕ) → NotShort (series_from began (part ∷ parts) bytes) → series_from began (part ∷ parts) bytes ≡ series_from began parts (stored_bytes middle)
    first_made parts began fits =
        ap (λ (x : Result). ending x.verdict began (series_from began parts x.bytes)) (one_made (first_fits parts began fits))

    first_left : (parts : List Leaving) (began : List ℕ) → NotShort (series_from began (part ∷ parts) bytes)
        → Comes (leaving parts) middle began (series_from began parts (stored_bytes middle)) → Comes (leaving (part ∷ parts)) s began (series_from began (part ∷ parts) bytes)
    first_left parts began fits later =
        let on = first_made parts began fits in
        record {
          refused = λ each. on ∙ later.refused (every_then (leaving parts) ∙ each);
          left = λ one.
              let rest = later.left (every_then (leaving parts) ∙ one) in (
                rest.0,
                without_then part.number (leaving parts) one_without rest.1,
                on ∙ rest.2 ∙ ap left_with (filed_first (leaving parts) rest.0),
              );
        }

-- so for all of them
series_comes : (parts : List Leaving) (began bytes : List ℕ) (s : Stored) (next : ℕ) → whole_stored bytes ≡ found s next → StoredRules s → stored_bytes s ≡ bytes → Apart (leaving parts)
    → ((number : ℕ) → In number (leaving parts) → In number (numbers_of (design_of s).parts)) → NotShort (series_from began parts bytes)
    → Comes (leaving parts) s began (series_from began parts bytes)
series_comes [] began bytes s next read r written apart in_use fits =
    let d : Design = design_of s in
    let rules = rules_design s r in
    record {
      refused = λ all. clash all (none_named (named (numbers_of d.parts)) d.sets rules.sets.some);
      left = λ some. (d, without_none d rules, ap (λ (l : List ℕ). record { verdict = (Ok tt); bytes = l }) (sym written) ∙ ap left_with (sym (filed_none s)));
    }
series_comes (part ∷ parts) began bytes s next read r written apart in_use fits =
    cases (every (meets (group_of part bytes)) (design_of s).sets) refl (λ some.
    let rest = middle part bytes s leads some in
    let rules = stored_rules (take_out (position part bytes s leads)) s r (accepted part bytes s leads some) in
    series_comes parts began (stored_bytes rest) rest _ (whole_stored_lem rest rules) rules refl apart.1
    (λ number i. still_in_use part bytes s leads some number (in_use number (Memᴰ.tail i)) (λ same. apart.0 (subst (λ (x : ℕ). In x (leaving parts)) same i)))
    (subst NotShort (first_made part bytes s leads some parts began fits) fits))
  where
    leads : Leads part bytes s
    leads = record { next = next; read = read; rules = rules_design s r; in_use = in_use part.number (Memᴰ.head refl) }

    rest_of : Stored
    rest_of = changed_stored (take_out (position_in (whole_record bytes) part.number)) s

    cases : (p : Bool) → every (meets (group_of part bytes)) (design_of s).sets ≡ p
        → (every (meets (group_of part bytes)) (design_of s).sets ≡ false → Comes (leaving parts) rest_of began (series_from began parts (stored_bytes rest_of)))
        → Comes (leaving (part ∷ parts)) s began (series_from began (part ∷ parts) bytes)
    cases true e later = first_refused part bytes s leads parts began e
    cases false e later = first_left part bytes s leads e parts began fits (later e)

-- ---- together

module _ (bytes : List ℕ) (s : Stored) (next : ℕ) (small : Bytes bytes) (read : whole_stored bytes ≡ found s next) where
  -- a record as it is stored
  stored_order : (group : ℕ) → group_refusal (design_of s).parts.count group (Ok tt) ≡ Ok tt → (buffer : List ℕ)
      → (parts : List Leaving) → Reordered (leaving parts) (named (numbers_of (design_of s).parts) group)
      → NotShort (result_of (record { change = take_out_group group; buffer = buffer }) bytes) → NotShort (series parts bytes)
      → result_of (record { change = take_out_group group; buffer = buffer }) bytes ≡ series parts bytes
  unfolding changed_stored
  stored_order group right buffer parts order fits all_fit = cases (every (meets group) d.sets) refl
    where
      d : Design
      d = design_of s

      written : StoredRules s × (stored_bytes s ≡ bytes) × (next ≡ length bytes)
      written = stored_written bytes s next small read

      rules : DesignRules d
      rules = rules_design s written.0

      call : Call
      call = record { change = take_out_group group; buffer = buffer }

      gone : List ℕ
      gone = named (numbers_of d.parts) group

      apart : Apart (leaving parts)
      apart = order_apart 0 d.parts.mark (numbers_of d.parts) rules.parts.rules.rising group (leaving parts) order

      same : (number : ℕ) → In number (leaving parts) ↔ In number gone
      same = order_same 0 d.parts.mark (numbers_of d.parts) rules.parts.rules.rising group (leaving parts) order

      comes : Comes (leaving parts) s bytes (series parts bytes)
      comes =
          series_comes parts bytes bytes s next read written.0 written.1 apart
          (λ number i. in_named (numbers_of d.parts) group ((same number).0 i)) all_fit

      -- what is asked of the sets is the same by positions and in every order of the numbers
      each : every (names_some (leaving parts)) (named_sets d) ≡ every (meets group) d.sets
      each = every_same _ _ (named_sets d) (λ set m. same_names_some (leaving parts) gone same set) ∙ sym (every_named group d rules)

      -- and so is what is filed
      filed_same : filed_all gone (retired_in s) ≡ filed_all (leaving parts) (retired_in s)
      filed_same =
          let retired = retired_rules s written.0 in
          filed_order 0 d.parts.mark gone (leaving parts) (retired_in s) (λ number. sym (order number)) retired.rising retired.most

      judged : stored_refusal (take_out_group group) s ≡ without_refusal group d
      judged =
          let g = group_right d.parts.count group (Ok tt) right in
          unconverted_refusal (take_out_group group) s refl ∙ group_passed d.parts.count group (without_refusal group d) g.0 g.1

      cases : (p : Bool) → every (meets group) d.sets ≡ p → result_of call bytes ≡ series parts bytes
      cases true e =
          call_refused call bytes s next read (at InEverySet 0) (judged ∙ refuse_held (every (meets group) d.sets) InEverySet 0 (Ok tt) e)
          ∙ sym (comes.refused (each ∙ e))
      cases false e =
          let rest = comes.left (each ∙ e) in
          let left : design_without group d ≡ rest.0 = without_once (without_group group d rules e) (without_order (leaving parts) gone same rest.1) in
          call_fits call bytes s next read (judged ∙ refuse_passed (every (meets group) d.sets) InEverySet 0 (Ok tt) e) fits
          ∙ ap₂ (λ (new : Design) (retired : List ℕ). left_with (in_edition (edition_of s) new retired)) left filed_same
          ∙ sym rest.2

-- A group that passes 15 and 16 of an accepted record, of either edition, comes to what the series of its parts comes to, in every order of their
-- numbers, where neither is refused for a buffer that is too short: the same refusal and the record as it was, or the same record, its retired
-- numbers included.
pub any_order : (bytes : List ℕ) (d : Design) (next : ℕ) → Bytes bytes → whole_record bytes ≡ found d next
    → (group : ℕ) → group_refusal d.parts.count group (Ok tt) ≡ Ok tt → (buffer : List ℕ)
    → (parts : List Leaving) → Reordered (leaving parts) (named (numbers_of d.parts) group)
    → NotShort (result_of (record { change = take_out_group group; buffer = buffer }) bytes) → NotShort (series parts bytes)
    → result_of (record { change = take_out_group group; buffer = buffer }) bytes ≡ series parts bytes
any_order bytes d next small read group right buffer parts order fits all_fit =
    let f = design_found bytes d next read in
    let same = sym f.same in
    stored_order bytes f.stored next small f.read group
    (subst (λ (x : Design). group_refusal x.parts.count group (Ok tt) ≡ Ok tt) same right) buffer parts
    (subst (λ (x : Design). Reordered (leaving parts) (named (numbers_of x.parts) group)) same order) fits all_fit
