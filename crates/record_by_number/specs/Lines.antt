-- Lines of changes by part numbers: each is a line of changes, of which record_lines speaks.
use Rattle.std.specs.Prelude.{List, [], ◌∷◌, ◌++◌, ℕ, Ok, Err}
use Rattle.answer.specs.Outcome.{Outcome, Numbered}
use Rattle.record_lines.specs.Changes.{Change, take_out, take_out_group, add_set}
use Rattle.record_lines.specs.Records.{changed_record}
use Rattle.record_lines.specs.Lines.{Call, record_after}
use Rattle.record_by_number.specs.Parts.{part_position, parts_mask, changed_there}

-- a change by part numbers: the part with a number taken out, or those with some numbers; one path set more, of those with some numbers. A line
-- may have changes by positions as well, and one part more is such a change.
pub data ByNumber : Type 0 where
  by_position : Change → ByNumber
  take_out_part : ℕ → ByNumber
  take_out_parts : List ℕ → ByNumber
  add_set_of_parts : List ℕ → ByNumber

-- and the buffer lent for the new record
pub record NumberCall : Type 0 where
  pub change : ByNumber
  pub buffer : List ℕ

-- what a call leaves, by the definitions that the contracts cite
abbrev pub changed_by_number : ByNumber → List ℕ → List ℕ → Outcome Numbered (List ℕ)
changed_by_number (by_position change) bytes buffer = changed_record change bytes buffer
changed_by_number (take_out_part number) bytes buffer = changed_there take_out (part_position bytes number) bytes buffer
changed_by_number (take_out_parts wanted) bytes buffer = changed_there take_out_group (parts_mask bytes wanted) bytes buffer
changed_by_number (add_set_of_parts wanted) bytes buffer = changed_there add_set (parts_mask bytes wanted) bytes buffer

-- the record after it, and at the end of a line
abbrev pub after_by_number : NumberCall → List ℕ → List ℕ
after_by_number call bytes =
    record_after (changed_by_number call.change bytes call.buffer).answer (changed_by_number call.change bytes call.buffer).buffer bytes

abbrev pub last_by_number : List NumberCall → List ℕ → List ℕ
last_by_number [] bytes = bytes
last_by_number (call ∷ calls) bytes = last_by_number calls (after_by_number call bytes)

-- ---- the same by positions

-- the change where the parts were found; none where they were not
abbrev pub found_change : (ℕ → Change) → Numbered → List Change
found_change change (Err refusal) = []
found_change change (Ok there) = change there ∷ []

abbrev pub change_of : ByNumber → List ℕ → List Change
change_of (by_position change) bytes = change ∷ []
change_of (take_out_part number) bytes = found_change take_out (part_position bytes number)
change_of (take_out_parts wanted) bytes = found_change take_out_group (parts_mask bytes wanted)
change_of (add_set_of_parts wanted) bytes = found_change add_set (parts_mask bytes wanted)

abbrev pub calls_with : List ℕ → List Change → List Call
calls_with buffer [] = []
calls_with buffer (change ∷ changes) = record { change = change; buffer = buffer } ∷ calls_with buffer changes

-- the calls by positions of a line by part numbers, each made to the record of its moment
abbrev pub calls_of : List NumberCall → List ℕ → List Call
calls_of [] bytes = []
calls_of (call ∷ calls) bytes = calls_with call.buffer (change_of call.change bytes) ++ calls_of calls (after_by_number call bytes)
