-- Design records as they were read and changed while part numbers reached 2^32-1 (01, "Records on disk", before 02, §7 and §8), in the one edition
-- that there was. Kept for one claim: "Records accepted until now read as before".
use Rattle.std.specs.Prelude.{true, cond, List, [], ◌≡◌, ℕ, leb, ltb, eqb, Ok, Err}
use Rattle.answer.specs.declared.Reason.TheVariants.{FullMachine, NumbersSpent, WrongPartNumber}
use Rattle.answer.specs.Outcome.{Outcome, refuse, delivered, Numbered, Verdict}
use Rattle.codec.specs.declared.Field.{Field}
use Rattle.codec.specs.declared.Field.TheVariants.{Count}
use Rattle.codec.specs.Fields.{top}
use Rattle.codec.specs.Reads.{Read, found, refused, then, alone}
use Rattle.codec.specs.FieldReads.{field_at, Judge, fields_at}
use Rattle.theory_sets.specs.Structures.{listed}
use Rattle.theory_sets.specs.Tables.{table_of}
use Rattle.record_numbers.specs.Numbering.{most_parts}
use Rattle.record_parts.specs.declared.PartList.{PartList}
use Rattle.record_parts.specs.PartLists.{list_of}
use Rattle.record_parts.specs.Changes.{with_part}
use Rattle.record_head.specs.Headings.{parts_refusal, mark_refusal, last_number, set_count_refusal, Head}
use Rattle.record.specs.Records.{sets_at, Design, design, DesignAt, design_at}
use Rattle.record_editions.specs.Editions.{first, StoredAt, whole_stored, whole_record}
use Rattle.record.specs.Contents.{contents_of, with_words_of, stretch_of}
use Rattle.record_editions.specs.Contents.{whole_contents, record_refusal, design_in, whole_with_words}
use Rattle.record.specs.RecordBytes.{record_bytes}
use Rattle.record_lines.specs.Changes.{Change, change_refusal, changed}
use Rattle.record_lines.specs.Changes as changes

-- ---- reading

-- the field of a part number and of the mark: 2^32-1 and five groups, as n has them still
abbrev pub former_field : Field
former_field = Count

-- 23: a part number not above the one before it (0 before the first), or above the mark or the top number
abbrev pub former_judge : ℕ → Judge
former_judge mark earlier place number =
    refuse (cond (leb number (last_number 0 earlier)) true (cond (ltb mark number) true (ltb (top former_field) number))) WrongPartNumber place (Ok tt)

-- n, the mark and n part numbers
unfoldable pub former_parts_at : List ℕ → ℕ → Read PartList
former_parts_at bytes start =
    then (field_at bytes start Count (parts_refusal start)) (λ n next.
    then (field_at bytes next former_field mark_refusal) (λ mark after.
    then (fields_at bytes former_field (former_judge mark) n [] after) (λ numbers end.
    found (list_of mark numbers) end)))

-- what stands before the sets
unfoldable pub former_head_at : List ℕ → ℕ → Read Head
former_head_at bytes start =
    then (former_parts_at bytes start) (λ parts next.
    then (field_at bytes next Count (set_count_refusal next)) (λ count after.
    found (record { parts = parts; count = count }) after))

-- the record at that position, with the position after it
unfoldable pub former_record_at : List ℕ → ℕ → Read DesignAt
former_record_at bytes start =
    then (former_head_at bytes start) (λ head begin.
    then (sets_at bytes head.parts.count head.count [] begin) (λ sets end.
    found (design_at head.parts sets begin end) end))

-- the record that the bytes are
unfoldable pub former_record : List ℕ → Read DesignAt
former_record bytes = then (former_record_at bytes 0) (alone bytes)

-- a design where it stands, as a record of edition 1
abbrev pub in_first : DesignAt → StoredAt
in_first here = record { stored = first here.design; begin = here.begin; end = here.end }

-- What it means that bytes, read then as a design that stands there, read as before: each answer is what that design gives.
pub record ReadAsBefore (bytes : List ℕ) (here : DesignAt) (next : ℕ) : Type 0 where
  -- it is a record of edition 1
  pub edition : whole_stored bytes ≡ found (first here.design) next
  -- the part list and the sets
  pub design : whole_record bytes ≡ found here.design next
  -- the part list, the number of sets, and from where to where their bytes stand
  pub contents : whole_contents bytes ≡ contents_of (found here next)
  -- these bytes
  pub stretch : stretch_of (whole_contents bytes) bytes ≡ stretch_of (contents_of (found here next)) bytes
  -- the words of the structure, and its table for a lent buffer
  pub words : whole_with_words bytes ≡ with_words_of (found here next)
  pub table : (buffer : List ℕ) → delivered (record_refusal bytes) (table_of (design_in bytes).parts.count (listed (design_in bytes).sets)) buffer
      ≡ delivered (Ok tt) (table_of here.design.parts.count (listed here.design.sets)) buffer
  -- and the bytes are what is written of the design
  pub written : record_bytes here.design ≡ bytes

-- ---- changing

-- the changes that there were: one part more, the part at a position taken out, one path set more
pub data FormerChange : Type 0 where
  add_part : FormerChange
  take_out : ℕ → FormerChange
  add_set : ℕ → FormerChange

-- each among those that there are
abbrev pub as_now : FormerChange → Change
as_now add_part = changes.add_part
as_now (take_out position) = changes.take_out position
as_now (add_set set) = changes.add_set set

-- 19 before 20, which was a mark of 2^32-1
abbrev pub former_change_refusal : FormerChange → Design → Verdict
former_change_refusal add_part d =
    refuse (eqb d.parts.count most_parts) FullMachine 0 (refuse (eqb d.parts.mark (top former_field)) NumbersSpent 0 (Ok tt))
former_change_refusal (take_out position) d = change_refusal (changes.take_out position) d
former_change_refusal (add_set set) d = change_refusal (changes.add_set set) d

-- a part more: position n+1, part number mark+1, in no set; the other changes ask for no top number
abbrev pub former_changed : FormerChange → Design → Design
former_changed add_part d = design (with_part d.parts).list d.sets
former_changed (take_out position) d = changed (changes.take_out position) d
former_changed (add_set set) d = changed (changes.add_set set) d

-- a change of record bytes, for a lent buffer: the reader's refusal, or the change's, or the new record's bytes or 11
abbrev pub former_changed_read : FormerChange → Read DesignAt → List ℕ → Outcome Numbered (List ℕ)
former_changed_read change (refused r) buffer = delivered (Err r) [] buffer
former_changed_read change (found here next) buffer =
    delivered (former_change_refusal change here.design) (record_bytes (former_changed change here.design)) buffer

unfoldable pub former_changed_record : FormerChange → List ℕ → List ℕ → Outcome Numbered (List ℕ)
former_changed_record change bytes buffer = former_changed_read change (former_record bytes) buffer
