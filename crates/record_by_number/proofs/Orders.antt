-- Parts taken out by their numbers, together or one by one: the call for one part is the call of a series, so that what holds of every order of a
-- group's numbers holds of every order of the wanted numbers.
-- Assumes nothing.
use mathlib.Core.Path.{◌≡◌, refl, sym, ap, ◌∙◌}
use mathlib.Core.Bool.{Bool, true, false, ◌||◌}
use mathlib.Core.List.{List, [], ◌∷◌}
use Prim.Native.Nat.{ℕ, ◌+◌, ◌^◌, ◌<◌}
use native.Mathlib.Omega.{arith}
use borrow.Author.Tests.{eqb-true}
use lib.Dec.{eqb}
use Rattle.std.specs.Prelude.{Ok, Err}
use Rattle.answer.specs.declared.Reason.TheVariants.{UnknownPosition}
use Rattle.answer.specs.Outcome.{at, refuse, valued, Outcome, outcome, Numbered}
use Rattle.answer.proofs.Outcomes.{refuse_held, given_valued}
use Rattle.answer.proofs.Deliveries.{refused_kept}
use Rattle.answer.proofs.Checks.{group_passed}
use Rattle.numbers.proofs.Bools.{same_test, neither}
use Rattle.codec.specs.Bytes.{Bytes}
use Rattle.codec.specs.Reads.{Read, found, refused, then}
use Rattle.theory_sums.specs.Sums.{indicator, sum, some}
use Rattle.theory_orders.specs.Orders.{times}
use Rattle.record_numbers.specs.Numbering.{named, names}
use Rattle.record_parts.specs.PartLists.{numbers_of}
use Rattle.record_parts.proofs.WellFormed.{well_formed_counted}
use Rattle.record.specs.Records.{Design}
use Rattle.record_editions.specs.Editions.{Stored, design_of, whole_stored, whole_record}
use Rattle.record_editions.specs.EditionBytes.{stored_bytes}
use Rattle.record_editions.proofs.RoundTrip.{whole_design, design_rules}
use Rattle.record_lines.specs.Changes.{take_out, take_out_group}
use Rattle.record_lines.specs.Names.{repeated}
use Rattle.record_lines.specs.Records.{stored_refusal, changed_stored, changed_read, changed_record}
use Rattle.record_lines.proofs.Refusals.{unconverted_refusal}
use Rattle.record_lines.specs.Lines.{outcome_of}
use Rattle.record_numbers.proofs.Names.{names_intro, names_elim}
use Rattle.record_naming.specs.Naming.{position_of, mask_of, wanted_refusal, found_position}
use Rattle.record_naming.proofs.Steps.{mask_below}
use Rattle.record_naming.proofs.Masks.{named_rising, rising_not_repeated}
use Rattle.record_naming.proofs.Refusals.{wanted_accepted}
use Rattle.record_groups.specs.Series.{result_of, NotShort, position_in, Leaving, leaving, call_for, series, Reordered}
use Rattle.record_groups.proofs.Series.{any_order}
use Rattle.record_by_number.specs.Parts.{looked_up, part_position, parts_mask, changed_there}
use Rattle.record_by_number.proofs.Effects.{wanted_judged, wanted_named}

-- ---- one part

-- the design of what was read
abbrev design_read : Read Stored → Read Design
design_read read = then read (λ s next. found (design_of s) next)

module _ (number : ℕ) (buffer : List ℕ) where
  -- a part taken out where it was found, of what was read
  abbrev found_read : Numbered → Read Stored → Outcome Numbered (List ℕ)
  found_read (Err why) read = outcome (Err why) buffer
  found_read (Ok position) read = changed_read (take_out position) read buffer

  same_read : (v : Numbered) (bytes : List ℕ) → changed_there take_out v bytes buffer ≡ found_read v (whole_stored bytes)
  unfolding changed_record
  same_read (Err why) bytes = refl
  same_read (Ok position) bytes = refl

  -- a position that was not found is 0, which is refused as well
  same_position : (s : Stored) (next position : ℕ)
      → found_read (valued (refuse (eqb position 0) UnknownPosition 0 (Ok tt)) position) (found s next) ≡ changed_read (take_out position) (found s next) buffer
  same_position s next position = cases (eqb position 0) refl
    where
      cases : (p : Bool) → eqb position 0 ≡ p → found_read (valued (refuse p UnknownPosition 0 (Ok tt)) position) (found s next) ≡ changed_read (take_out position) (found s next) buffer
      cases true e =
          refused_kept (stored_refusal (take_out position) s) (stored_bytes (changed_stored (take_out position) s)) buffer (at UnknownPosition 0)
          (unconverted_refusal (take_out position) s refl ∙ refuse_held (eqb position 0) UnknownPosition 0 _ e)
      cases false e = refl

  same_call : (read : Read Stored) → found_read (looked_up (λ numbers. found_position numbers number) (design_read read)) read ≡ changed_read (take_out (position_in (design_read read) number)) read buffer
  same_call (refused why) = refl
  same_call (found s next) = same_position s next (position_of (numbers_of (design_of s).parts) number)

  -- The call that takes a part out by its number is the call of a series of single take-outs.
  pub part_call : (bytes : List ℕ)
      → changed_there take_out (part_position bytes number) bytes buffer ≡ outcome_of (call_for (record { number = number; buffer = buffer }) bytes) bytes
  unfolding part_position changed_record
  part_call bytes =
      same_read (part_position bytes number) bytes
      ∙ ap (λ (r : Read Design). found_read (looked_up (λ numbers. found_position numbers number) r) (whole_stored bytes)) (whole_design bytes)
      ∙ same_call (whole_stored bytes)
      ∙ ap (λ (r : Read Design). changed_read (take_out (position_in r number)) (whole_stored bytes) buffer) (sym (whole_design bytes))

-- ---- several parts

-- a list on which no number stands twice has each of its numbers once
once_times : (list : List ℕ) → repeated list ≡ false → (number : ℕ) → times number list ≡ indicator (names number list)
unfolding sum some
once_times [] once number = refl
once_times (x ∷ xs) once number =
    cases (eqb number x) refl (once_times xs (neither (names x xs) (repeated xs) once).1 number)
  where
    cases : (p : Bool) → eqb number x ≡ p → times number xs ≡ indicator (names number xs) → indicator p + times number xs ≡ indicator (p || names number xs)
    cases true e later =
        let none : names number xs ≡ false = ap (λ (y : ℕ). names y xs) (eqb-true number x e) ∙ (neither (names x xs) (repeated xs) once).0 in
        let zero : times number xs ≡ 0 = later ∙ ap indicator none in
        omega (arith, zero)
    cases false e later = omega (arith, later)

module _ (bytes : List ℕ) (d : Design) (next : ℕ) (small : Bytes bytes) (read : whole_record bytes ≡ found d next) (wanted : List ℕ) (mask : ℕ)
    (e : parts_mask bytes wanted ≡ Ok mask) where
  abbrev numbers : List ℕ
  numbers = numbers_of d.parts

  judged : (wanted_refusal numbers wanted ≡ Ok tt) × (mask_of numbers wanted ≡ mask)
  judged = given_valued (wanted_refusal numbers wanted) (mask_of numbers wanted) mask (sym (wanted_judged bytes d next small read wanted) ∙ e)

  -- the wanted numbers are an order of the mask's numbers
  wanted_order : Reordered wanted (named numbers mask)
  wanted_order number =
      let rising = (design_rules bytes d next small read).0.parts.rules.rising in
      let same = wanted_named bytes d next small read wanted mask e number in
      once_times wanted (wanted_accepted numbers wanted judged.0).1 number
      ∙ ap indicator
      (same_test (names number wanted) (names number (named numbers mask))
      (λ h. names_intro number (named numbers mask) (same.1 (names_elim number wanted h)))
      (λ h. names_intro number wanted (same.0 (names_elim number (named numbers mask) h))))
      ∙ sym (once_times (named numbers mask) (rising_not_repeated 0 d.parts.mark (named numbers mask) (named_rising 0 d.parts.mark numbers rising mask)) number)

  -- Wanted parts, at least one, come to the same together and one by one in every order, each by its number, where no buffer is too short: the
  -- same refusal and the record as it was, or the same record.
  pub wanted_any_order : 0 < mask → (buffer : List ℕ) (parts : List Leaving) → Reordered (leaving parts) wanted
      → NotShort (result_of (record { change = take_out_group mask; buffer = buffer }) bytes) → NotShort (series parts bytes)
      → result_of (record { change = take_out_group mask; buffer = buffer }) bytes ≡ series parts bytes
  wanted_any_order some buffer parts order =
      let w = (design_rules bytes d next small read).0.parts in
      let below : mask < 2 ^ d.parts.count = rw (← well_formed_counted d.parts w, ← judged.1) (mask_below numbers wanted) in
      any_order bytes d next small read mask (group_passed d.parts.count mask (Ok tt) some below) buffer parts (λ number. order number ∙ wanted_order number)
