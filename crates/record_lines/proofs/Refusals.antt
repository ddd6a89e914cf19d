-- Each change is refused exactly where 01 and 02 say so: 17 for a position that is not there, 15 and 16 for a group, 18 if every set names the part
-- or a part of the group, 19 for the seventeenth part, 20 if no number is left, 4 and 5 for a set; and nothing else refuses it but a buffer that
-- is too short.
-- Assumes nothing.
use mathlib.Core.Path.{◌≡◌, refl, sym, ap, ◌∙◌}
use mathlib.Core.Bool.{false}
use mathlib.Core.List.{List, Memᴰ}
use mathlib.Core.Logic.{◌↔◌}
use Prim.Native.Nat.{ℕ, ◌-◌, ◌^◌, ◌≤◌, ◌<◌}
use native.Mathlib.Omega.{arith}
use borrow.Author.Tests.{ne_eqb, le-ltb, lt-leb}
use lib.ListN.{length}
use lib.Pow.{pow_pos, pow-lt}
use Rattle.std.specs.Prelude.{Ok, Err}
use Rattle.answer.specs.declared.Reason.TheVariants.{InEverySet}
use Rattle.answer.specs.Outcome.{Outcome, and_then, delivered, Numbered, Verdict}
use Rattle.answer.proofs.Outcomes.{refuse_passed}
use Rattle.answer.proofs.Checks.{group_passed}
use Rattle.answer.proofs.Deliveries.{delivered_whole}
use Rattle.record_numbers.specs.Numbering.{most_parts, top_number}
use Rattle.theory_sets.specs.Masks.{has}
use Rattle.masks.specs.Groups.{meets}
use Rattle.masks.proofs.Groups.{meets_single}
use Rattle.record_parts.specs.Changes.{single}
use Rattle.numbers.proofs.Bools.{clash, false_of}
use Rattle.codec.specs.Reads.{Read, found}
use Rattle.record.specs.Records.{Design}
use Rattle.record_editions.specs.declared.Edition.{Edition}
use Rattle.record_editions.specs.Editions.{Stored, first, second, design_of, retired_in, edition_of, whole_stored}
use Rattle.record_editions.specs.EditionBytes.{stored_bytes}
use Rattle.record.specs.RecordBytes.{DesignRules}
use Rattle.record_lines.specs.Changes.{Change, add_part, take_out, take_out_group, add_set, every, without_refusal, take_out_refusal, take_out_group_refusal, change_refusal}
use Rattle.record_lines.specs.Records.{edition_after, back_refusal, stored_refusal, changed_stored, changed_read, changed_record}
use Rattle.record_lines.proofs.Keeping.{every_elim, every_fails}
use Rattle.record_lines.proofs.Rules.{add_accepted, take_out_accepted, group_out_accepted, set_accepted}

-- a part is added while there are fewer than 16 and a number is left
pub add_part_exactly : (d : Design) → DesignRules d → (change_refusal add_part d ≡ Ok tt) ↔ ((d.parts.count < most_parts) × (d.parts.mark < top_number))
add_part_exactly d r = (
  add_accepted d.parts r.parts,
  λ room. simp (ne_eqb d.parts.count most_parts (λ e. omega (arith, room.0)), ne_eqb d.parts.mark top_number (λ e. omega (arith, room.1))),
)

-- a part is taken out at a position of the machine, while some set does not name it
pub take_out_exactly : (position : ℕ) (d : Design) → (change_refusal (take_out position) d ≡ Ok tt)
    ↔ ((1 ≤ position) × (position ≤ d.parts.count) × ((set : ℕ) × Memᴰ set d.sets × (has set (position - 1) ≡ false)))
take_out_exactly position d = (
  λ accepted.
      let a = take_out_accepted position d accepted in
      let found = every_fails (meets (single position)) d.sets a.left in
      (a.from, a.to, (found.0, found.1, sym (meets_single (position - 1) found.0) ∙ found.2)),
  λ good.
      let left : every (meets (single position)) d.sets ≡ false =
      false_of (every (meets (single position)) d.sets) (λ all.
      clash (sym (meets_single (position - 1) good.2.0) ∙ every_elim (meets (single position)) d.sets all good.2.1) good.2.2) in
      simp (ne_eqb position 0 (λ e. omega (arith, good.0)), le-ltb d.parts.count position good.1, left),
)

-- a group is taken out that has a part, and only parts of the machine, while some set names none of them
pub take_out_group_exactly : (group : ℕ) (d : Design) → (change_refusal (take_out_group group) d ≡ Ok tt)
    ↔ ((0 < group) × (group < 2 ^ d.parts.count) × ((set : ℕ) × Memᴰ set d.sets × (meets group set ≡ false)))
take_out_group_exactly group d = (
  λ accepted. let a = group_out_accepted group d accepted in (a.0, a.1, every_fails (meets group) d.sets a.2),
  λ good.
      let left : every (meets group) d.sets ≡ false =
      false_of (every (meets group) d.sets) (λ all. clash (every_elim (meets group) d.sets all good.2.1) good.2.2) in
      group_passed d.parts.count group (without_refusal group d) good.0 good.1
      ∙ refuse_passed (every (meets group) d.sets) InEverySet 0 (Ok tt) left,
)

-- of a position of the machine only 18 is left to be asked
pub position_passed : (position : ℕ) (d : Design) → 1 ≤ position → position ≤ d.parts.count → take_out_refusal position d ≡ without_refusal (single position) d
position_passed position d from to = simp (ne_eqb position 0 (λ e. omega arith), le-ltb d.parts.count position to)

-- Taking out a position of the machine is taking out the group of the part at it, whatever the buffer.
pub position_is_group : (position : ℕ) (bytes buffer : List ℕ) (s : Stored) (next : ℕ) → whole_stored bytes ≡ found s next → 1 ≤ position → position ≤ (design_of s).parts.count
    → changed_record (take_out position) bytes buffer ≡ changed_record (take_out_group (single position)) bytes buffer
unfolding changed_record changed_stored
position_is_group position bytes buffer s next read from to =
    let d : Design = design_of s in
    let result : List ℕ = stored_bytes (changed_stored (take_out position) s) in
    let grouped : take_out_group_refusal (single position) d ≡ without_refusal (single position) d =
    group_passed d.parts.count (single position) (without_refusal (single position) d) (pow_pos (position - 1)) (pow-lt (omega arith)) in
    ap (λ (r : Read Stored). changed_read (take_out position) r buffer) read
    ∙ ap (λ (v : Verdict). delivered (and_then v (back_refusal (edition_of s) (retired_in s))) result buffer) (position_passed position d from to ∙ sym grouped)
    ∙ ap (λ (r : Read Stored). changed_read (take_out_group (single position)) r buffer) (sym read)

-- a set is added that has a part, and only parts of the machine
pub add_set_exactly : (set : ℕ) (d : Design) → (change_refusal (add_set set) d ≡ Ok tt) ↔ ((set < 2 ^ d.parts.count) × (0 < set))
add_set_exactly set d = (
  set_accepted set d,
  λ good. simp (lt-leb (2 ^ d.parts.count) set good.0, ne_eqb set 0 (λ e. omega (arith, good.1))),
)

-- a change that nothing refuses is made wherever the buffer has room for the new record, whose bytes are then the front of it
pub change_given : (change : Change) (bytes buffer : List ℕ) (s : Stored) (next : ℕ) → whole_stored bytes ≡ found s next → stored_refusal change s ≡ Ok tt
    → length (stored_bytes (changed_stored change s)) ≤ length buffer → (changed_record change bytes buffer).answer ≡ Ok (length (stored_bytes (changed_stored change s)))
unfolding changed_record
change_given change bytes buffer s next read accepted room =
    let result : List ℕ = stored_bytes (changed_stored change s) in
    ap (λ (r : Read Stored). (changed_read change r buffer).answer) read
    ∙ sym (ap (λ (o : Outcome Numbered (List ℕ)). o.answer) (delivered_whole (stored_refusal change s) result buffer accepted (length result) refl _ refl room))

-- A change that writes the edition it read is refused by nothing but its design's refusals: 32 is for the way back alone.
pub unconverted_refusal : (change : Change) (s : Stored) → edition_after change (edition_of s) ≡ edition_of s → stored_refusal change s ≡ change_refusal change (design_of s)
unconverted_refusal change s same = ap (λ (e : Edition). and_then (change_refusal change (design_of s)) (back_refusal e (retired_in s))) same ∙ passed s (change_refusal change (design_of s))
  where
    all : (v : Verdict) → and_then v (Ok tt) ≡ v
    all (Ok _) = refl
    all (Err why) = refl

    passed : (s : Stored) (v : Verdict) → and_then v (back_refusal (edition_of s) (retired_in s)) ≡ v
    passed (first d) v = all v
    passed (second d retired) v = all v
