-- Changes of record bytes (01, "Records on disk"): the whole record is checked as a reader checks it, then the change, then the new record is
-- written.
use Rattle.std.specs.Prelude.{List, [], ◌∷◌, ℕ, length, Ok, Err}
use Rattle.answer.specs.declared.Reason.TheVariants.{RetiredPresent}
use Rattle.answer.specs.Outcome.{Outcome, at, and_then, delivered, Numbered, Verdict}
use Rattle.structure.specs.Checks.{list_refusal}
use Rattle.record_numbers.specs.Numbering.{numbers_refusal}
use Rattle.codec.specs.Reads.{Read, found, refused}
use Rattle.record.specs.Records.{Design}
use Rattle.record_retired.specs.Retired.{filed_all}
use Rattle.record_editions.specs.declared.Edition.{Edition}
use Rattle.record_editions.specs.declared.Edition.TheVariants.{First, Second}
use Rattle.record_editions.specs.Editions.{Stored, first, second, design_of, retired_in, edition_of, whole_stored}
use Rattle.record_editions.specs.EditionBytes.{stored_bytes}
use Rattle.record.specs.RecordBytes.{record_bytes}
use Rattle.record_lines.specs.Changes.{Change, add_part, take_out, take_out_group, add_set, convert, change_refusal, changed, left_in, entered_design, first_design}

-- ---- a record of either edition (02, §8)

-- "A change writes the edition it read": another one only where that is what is asked for
abbrev pub edition_after : Change → Edition → Edition
edition_after add_part edition = edition
edition_after (take_out position) edition = edition
edition_after (take_out_group group) edition = edition
edition_after (add_set set) edition = edition
edition_after (convert asked) edition = asked

-- a design and retired numbers in an edition, of which edition 1 has no place for the numbers
abbrev pub in_edition : Edition → Design → List ℕ → Stored
in_edition First d retired = first d
in_edition Second d retired = second d retired

-- 32: retired numbers present on the way back
abbrev pub back_refusal : Edition → List ℕ → Verdict
back_refusal First [] = (Ok tt)
back_refusal First (number ∷ numbers) = Err (at RetiredPresent 0)
back_refusal Second retired = (Ok tt)

-- what refuses a change of a record: the refusals of its design, and then 32
abbrev pub stored_refusal : Change → Stored → Verdict
stored_refusal change s = and_then (change_refusal change (design_of s)) (back_refusal (edition_after change (edition_of s)) (retired_in s))

-- what a change gives: the changed design, and in edition 2 the numbers that left are filed
unfoldable pub changed_stored : Change → Stored → Stored
changed_stored change s =
    in_edition (edition_after change (edition_of s)) (changed change (design_of s)) (filed_all (left_in change (design_of s)) (retired_in s))

-- A change of what was read, for a lent buffer: the reader's refusal, or the change's, or the new record's bytes or 11. The path counts of what is
-- written in edition 2 are counted afresh (`stored_bytes`).
abbrev pub changed_read : Change → Read Stored → List ℕ → Outcome Numbered (List ℕ)
changed_read change (refused r) buffer = delivered (Err r) [] buffer
changed_read change (found s next) buffer = delivered (stored_refusal change s) (stored_bytes (changed_stored change s)) buffer

unfoldable pub changed_record : Change → List ℕ → List ℕ → Outcome Numbered (List ℕ)
changed_record change bytes buffer = changed_read change (whole_stored bytes) buffer

-- ---- records to start from, of edition 1

-- A first record, from n and a list of sets: 1 to 5 as for a list, and then its bytes or 11.
unfoldable pub first_record : ℕ → List ℕ → List ℕ → Outcome Numbered (List ℕ)
first_record n list buffer = delivered (list_refusal n list) (record_bytes (first_design n list)) buffer

-- A record of parts that already have numbers, as many as there are numbers: 1 to 5 as for a list, 23 at the index of the first wrong number,
-- and then its bytes or 11.
abbrev pub entered_refusal : ℕ → List ℕ → List ℕ → Verdict
entered_refusal mark numbers list = and_then (list_refusal (length numbers) list) (numbers_refusal 0 mark 0 numbers)

unfoldable pub entered_record : ℕ → List ℕ → List ℕ → List ℕ → Outcome Numbered (List ℕ)
entered_record mark numbers list buffer =
    delivered (entered_refusal mark numbers list) (record_bytes (entered_design mark numbers list)) buffer
