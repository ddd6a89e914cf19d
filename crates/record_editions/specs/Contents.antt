-- What the reading functions answer: the contents of a record of either edition, the stretch of its sets, its edition and its retired numbers.
use Rattle.std.specs.Prelude.{List, [], ℕ}
use Rattle.answer.specs.Outcome.{Outcome, valued, delivered, Numbered, Verdict}
use Rattle.codec.specs.Reads.{Read, found, refused}
use Rattle.record_parts.specs.PartLists.{list_of}
use Rattle.record_retired.specs.Retired.{retired_of}
use Rattle.record.specs.declared.Contents.{Contents}
use Rattle.record.specs.declared.Cursor.{Cursor}
use Rattle.record.specs.declared.WithWords.{WithWords}
use Rattle.record.specs.Records.{Design, design}
use Rattle.record.specs.Contents.{contents_of, with_words_of, cursor}
use Rattle.record_editions.specs.declared.Edition.{Edition}
use Rattle.record_editions.specs.declared.Edition.TheVariants.{First, Second}
use Rattle.record_editions.specs.declared.StoredRead.{StoredRead}
use Rattle.record_editions.specs.Editions.{Stored, edition_of, retired_in, StoredAt, stored_at, only_stored, whole_stored, body_of, only_record, whole_record}

-- the contents of the record at that position
unfoldable pub contents_at : List ℕ → ℕ → Contents
contents_at bytes start = contents_of (body_of (stored_at bytes start))

-- and of the record that the bytes are, 25 included
unfoldable pub whole_contents : List ℕ → Contents
whole_contents bytes = contents_of (only_record bytes)

-- the first refusal of a whole record
abbrev pub record_refusal : List ℕ → Verdict
record_refusal bytes = (whole_contents bytes).verdict

-- the design in a record; of a refused one, a design of no parts and no sets
abbrev pub design_or : Read Design → Design
design_or (found d end) = d
design_or (refused refusal) = design (list_of 0 []) []

unfoldable pub design_in : List ℕ → Design
design_in bytes = design_or (whole_record bytes)

-- the contents of the record that the bytes are, and the words of its structure
unfoldable pub whole_with_words : List ℕ → WithWords
whole_with_words bytes = with_words_of (only_record bytes)

-- at the first set; of a refused record no set is left
abbrev pub first_cursor : List ℕ → Cursor
first_cursor bytes = cursor (whole_contents bytes).begin (whole_contents bytes).sets

-- ---- the edition and the retired numbers

-- the contents of a record and the words of its structure, its edition and its retired numbers; of a refused one edition 1, and none
abbrev pub stored_read_of : Read StoredAt → StoredRead
stored_read_of (found here next) =
    record { body = with_words_of (body_of (found here next)); edition = edition_of here.stored; retired = retired_of (retired_in here.stored) }
stored_read_of (refused refusal) = record { body = with_words_of (refused refusal); edition = First; retired = retired_of [] }

-- those of the record that the bytes are
unfoldable pub whole_stored_read : List ℕ → StoredRead
whole_stored_read bytes = stored_read_of (only_stored bytes)

-- an edition by its number
abbrev pub edition_number : Edition → ℕ
edition_number First = 1
edition_number Second = 2

-- the edition and the retired numbers of what was read; of a refused record edition 1, and none
abbrev pub edition_or : Read Stored → Edition
edition_or (found s next) = edition_of s
edition_or (refused refusal) = First

abbrev pub retired_or : Read Stored → List ℕ
retired_or (found s next) = retired_in s
retired_or (refused refusal) = []

-- the edition of the record that the bytes are: 1 or 2
unfoldable pub edition_given : List ℕ → Numbered
edition_given bytes = valued (record_refusal bytes) (edition_number (edition_or (whole_stored bytes)))

-- its retired numbers, rising, for a lent buffer
unfoldable pub retired_given : List ℕ → List ℕ → Outcome Numbered (List ℕ)
retired_given bytes buffer = delivered (record_refusal bytes) (retired_or (whole_stored bytes)) buffer

-- the position after the record at a position
unfoldable pub end_given : List ℕ → ℕ → Numbered
end_given bytes start = valued (contents_at bytes start).verdict (contents_at bytes start).next
