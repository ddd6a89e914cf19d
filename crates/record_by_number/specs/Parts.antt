-- Changes of record bytes by part numbers: the parts are looked up in the record that is read, and then it is changed there.
use Rattle.std.specs.Prelude.{List, ℕ, Ok, Err}
use Rattle.answer.specs.Outcome.{Outcome, outcome, Numbered}
use Rattle.codec.specs.Reads.{Read, found, refused}
use Rattle.record_parts.specs.PartLists.{numbers_of}
use Rattle.record.specs.Records.{Design}
use Rattle.record_editions.specs.Editions.{whole_record}
use Rattle.record_lines.specs.Changes.{Change}
use Rattle.record_lines.specs.Records.{changed_record}
use Rattle.record_naming.specs.Naming.{found_position, found_mask}

-- looked up among the part numbers of the record that was read; a refused record's own refusal
abbrev pub looked_up : (List ℕ → Numbered) → Read Design → Numbered
looked_up look (refused refusal) = Err refusal
looked_up look (found d next) = look (numbers_of d.parts)

-- the position of the part with a number
unfoldable pub part_position : List ℕ → ℕ → Numbered
part_position bytes number = looked_up (λ numbers. found_position numbers number) (whole_record bytes)

-- the mask of the parts that are wanted
unfoldable pub parts_mask : List ℕ → List ℕ → Numbered
parts_mask bytes wanted = looked_up (λ numbers. found_mask numbers wanted) (whole_record bytes)

-- A change of what was looked up: the refusal, or what the change by that position or mask leaves.
abbrev pub changed_there : (ℕ → Change) → Numbered → List ℕ → List ℕ → Outcome Numbered (List ℕ)
changed_there change (Err refusal) bytes buffer = outcome (Err refusal) buffer
changed_there change (Ok there) bytes buffer = changed_record (change there) bytes buffer
