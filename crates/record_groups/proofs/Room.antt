-- Which buffers are long enough: with at least as many bytes as the record that is read, of either edition, no take-out is refused for its buffer,
-- one alone or in a series.
-- Assumes nothing.
use mathlib.Core.Path.{◌≡◌, refl, sym, ap, ◌∙◌}
use mathlib.Core.Bool.{Bool, true, false}
use mathlib.Core.List.{List, [], ◌∷◌, Memᴰ}
use Prim.Native.Nat.{ℕ, ◌^◌, ◌≤◌}
use native.Mathlib.Nat.{le_trans}
use native.Mathlib.Omega.{arith}
use lib.Dec.{eqb, ltb, leb}
use lib.ListN.{length}
use Rattle.std.specs.Prelude.{Ok, Err}
use Rattle.answer.specs.Refusals.{number_of}
use Rattle.answer.specs.declared.Reason.{Reason}
use Rattle.answer.specs.declared.Reason.TheVariants.{ShortBuffer, EmptyGroup, UnknownGroupPart, UnknownPosition, InEverySet}
use Rattle.answer.specs.Outcome.{at, refuse, Verdict}
use Rattle.codec.specs.Bytes.{Bytes}
use Rattle.masks.specs.Groups.{meets}
use Rattle.codec.specs.Reads.{found}
use Rattle.record_parts.specs.Changes.{single}
use Rattle.record.specs.Records.{Design}
use Rattle.record_editions.specs.Editions.{Stored, design_of, whole_stored, whole_record}
use Rattle.record_editions.specs.EditionBytes.{stored_bytes, StoredRules}
use Rattle.record_editions.proofs.RoundTrip.{stored_written, whole_stored_lem, design_found}
use Rattle.record_lines.specs.Changes.{take_out, take_out_group, every, without_refusal, take_out_refusal, take_out_group_refusal}
use Rattle.record_lines.specs.Records.{stored_refusal, changed_stored}
use Rattle.record_lines.specs.Lines.{Call}
use Rattle.record_lines.proofs.Refusals.{unconverted_refusal}
use Rattle.record_lines.proofs.Stored.{stored_rules}
use Rattle.record_groups.specs.Series.{Result, result_of, NotShort, position_in, Leaving, call_for, ending, series_from, series}
use Rattle.record_groups.proofs.Series.{call_made, call_refused}
use Rattle.record_groups.proofs.Shorter.{taken_out_shorter}

-- a verdict is not 11
abbrev Other : Verdict → Type 0
Other v = (needed : ℕ) → v ≡ Err (at ShortBuffer needed) → ⊥

-- the number of a refusal
abbrev number_in : Verdict → ℕ
number_in (Err refusal) = number_of refusal.reason
number_in (Ok _) = 0

other_accepted : Other (Ok tt)
other_accepted needed e = absurd (omega (arith, ap number_in e))

other_refused : (test : Bool) (reason : Reason) (place : ℕ) (later : Verdict) → (number_of reason ≡ 11 → ⊥) → Other later → Other (refuse test reason place later)
other_refused true reason place later other rest needed e = other (ap number_in e)
other_refused false reason place later other rest needed e = rest needed e

-- what refuses a take-out by itself is not 11
without_other : (group : ℕ) (d : Design) → Other (without_refusal group d)
without_other group d = other_refused (every (meets group) d.sets) InEverySet 0 (Ok tt) (λ e. omega arith) other_accepted

position_other : (position : ℕ) (d : Design) → Other (take_out_refusal position d)
position_other position d =
    other_refused (eqb position 0) UnknownPosition 0 _ (λ e. omega arith)
    (other_refused (ltb d.parts.count position) UnknownPosition 0 _ (λ e. omega arith) (without_other (single position) d))

group_other : (group : ℕ) (d : Design) → Other (take_out_group_refusal group d)
group_other group d =
    other_refused (eqb group 0) EmptyGroup 0 _ (λ e. omega arith)
    (other_refused (leb (2 ^ d.parts.count) group) UnknownGroupPart 0 _ (λ e. omega arith) (without_other group d))

-- nor of a record, since 32 is not asked of a take-out
stored_position_other : (position : ℕ) (s : Stored) → Other (stored_refusal (take_out position) s)
stored_position_other position s needed e = position_other position (design_of s) needed (sym (unconverted_refusal (take_out position) s refl) ∙ e)

stored_group_other : (group : ℕ) (s : Stored) → Other (stored_refusal (take_out_group group) s)
stored_group_other group s needed e = group_other group (design_of s) needed (sym (unconverted_refusal (take_out_group group) s refl) ∙ e)

-- a single take-out leaves no longer a record either
single_shorter : (position : ℕ) (s : Stored) → StoredRules s → length (stored_bytes (changed_stored (take_out position) s)) ≤ length (stored_bytes s)
unfolding changed_stored
single_shorter position s r = taken_out_shorter (single position) s r

-- so a call that has room for the new record is not too short
call_not_short : (call : Call) (bytes : List ℕ) (s : Stored) (next : ℕ) → whole_stored bytes ≡ found s next → Other (stored_refusal call.change s)
    → length (stored_bytes (changed_stored call.change s)) ≤ length call.buffer → NotShort (result_of call bytes)
call_not_short call bytes s next read other room = cases (stored_refusal call.change s) refl
  where
    cases : (v : Verdict) → stored_refusal call.change s ≡ v → NotShort (result_of call bytes)
    cases (Ok _) e needed short = other_accepted needed (sym (ap (λ (r : Result). r.verdict) (call_made call bytes s next read e room)) ∙ short)
    cases (Err why) e needed short = other needed (e ∙ sym (ap (λ (r : Result). r.verdict) (call_refused call bytes s next read why e)) ∙ short)

-- one part after the other
series_room : (parts : List Leaving) (began bytes : List ℕ) (s : Stored) (next : ℕ) → whole_stored bytes ≡ found s next → StoredRules s → stored_bytes s ≡ bytes
    → ((part : Leaving) → Memᴰ part parts → length bytes ≤ length part.buffer) → NotShort (series_from began parts bytes)
series_room [] began bytes s next read r written room = other_accepted
series_room (part ∷ parts) began bytes s next read r written room =
    cases (stored_refusal call.change s) refl (λ accepted.
    let rules = stored_rules call.change s r accepted in
    series_room parts began (stored_bytes new) new _ (whole_stored_lem new rules) rules refl (λ other m. le_trans shorter (room other (Memᴰ.tail m))))
  where
    call : Call
    call = call_for part bytes

    new : Stored
    new = changed_stored call.change s

    shorter : length (stored_bytes new) ≤ length bytes
    shorter = omega (arith, single_shorter (position_in (whole_record bytes) part.number) s r, ap length written)

    enough : length (stored_bytes new) ≤ length part.buffer
    enough = le_trans shorter (room part (Memᴰ.head refl))

    cases : (v : Verdict) → stored_refusal call.change s ≡ v → (stored_refusal call.change s ≡ Ok tt → NotShort (series_from began parts (stored_bytes new)))
        → NotShort (series_from began (part ∷ parts) bytes)
    cases (Ok _) e later needed short =
        later e needed (sym (ap (λ (r : Result). (ending r.verdict began (series_from began parts r.bytes)).verdict) (call_made call bytes s next read e enough)) ∙ short)
    cases (Err why) e later needed short =
        stored_position_other (position_in (whole_record bytes) part.number) s needed
        (e ∙ sym (ap (λ (r : Result). (ending r.verdict began (series_from began parts r.bytes)).verdict) (call_refused call bytes s next read why e)) ∙ short)

-- ---- of an accepted record

module _ (bytes : List ℕ) (d : Design) (next : ℕ) (small : Bytes bytes) (read : whole_record bytes ≡ found d next) where
  pub group_fits : (group : ℕ) (buffer : List ℕ) → length bytes ≤ length buffer → NotShort (result_of (record { change = take_out_group group; buffer = buffer }) bytes)
  group_fits group buffer room =
      let f = design_found bytes d next read in
      let written = stored_written bytes f.stored next small f.read in
      call_not_short (record { change = take_out_group group; buffer = buffer }) bytes f.stored next f.read (stored_group_other group f.stored)
      (omega (arith, taken_out_shorter group f.stored written.0, ap length written.1))

  pub series_fits : (parts : List Leaving) → ((part : Leaving) → Memᴰ part parts → length bytes ≤ length part.buffer) → NotShort (series parts bytes)
  series_fits parts room =
      let f = design_found bytes d next read in
      let written = stored_written bytes f.stored next small f.read in
      series_room parts bytes bytes f.stored next f.read written.0 written.1 room
