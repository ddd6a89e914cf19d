-- The spreadsheet's fault replayed on the bridge: part 3 has left and a part has come, which has the number 6, is idle, and leaves again with the
-- sets as they were. The definitions compute.
-- Assumes nothing.
use mathlib.Core.Path.{◌≡◌, refl, ap, ◌∙◌}
use mathlib.Core.Bool.{xor}
use mathlib.Core.List.{List, [], ◌∷◌}
use Prim.Native.Nat.{ℕ}
use lib.ListN.{replicate, take}
use Rattle.codec.specs.Reading.{number_in, number_at}
use Rattle.codec.specs.ByteForm.{grouped, bytes_of, forms_of}
use Rattle.codec.specs.FieldReads.{field_at, fields_at}
use Rattle.codec.specs.Reads.{found}
use Rattle.numbers.specs.Tables.{tabulate}
use Rattle.masks.specs.Groups.{meets, squeezed}
use Rattle.theory_sets.specs.Masks.{has, holds, any}
use Rattle.theory_sets.specs.Structures.{listed}
use Rattle.theory_sets.specs.Tables.{packed, in_table, table_of}
use Rattle.theory_sets.specs.Idle.{idle, idle_parts}
use Rattle.record_numbers.specs.Numbering.{named, others}
use Rattle.record_parts.specs.PartLists.{list_of}
use Rattle.record_head.specs.Headings.{parts_at, head_at}
use Rattle.record_head.specs.HeadingBytes.{parts_bytes, head_bytes}
use Rattle.record.specs.Records.{Design, design, misplaced, record_at}
use Rattle.record_editions.specs.Editions.{second_there, stored_at, only_stored, whole_stored, only_record, whole_record}
use Rattle.record_editions.specs.EditionBytes.{stored_bytes}
use Rattle.record.specs.RecordBytes.{record_bytes}
use Rattle.record_lines.specs.Changes.{take_out, sets_without}
use Rattle.record_lines.specs.Records.{changed_stored, changed_record}
use Rattle.record_naming.specs.Naming.{position_from}
use Rattle.record_by_number.specs.Parts.{part_position, changed_there}
use Rattle.record_idle.specs.Idle.{idle_mask, idle_numbers, SetsStay}

-- parts 1, 2, 4, 5 and 6 with the sets {1, 4} and {2, 5}
abbrev machine : Design
machine = design (list_of 6 (1 ∷ 2 ∷ 4 ∷ 5 ∷ 6 ∷ [])) (5 ∷ 10 ∷ [])

abbrev bytes : List ℕ
bytes = 5 ∷ 6 ∷ 1 ∷ 2 ∷ 4 ∷ 5 ∷ 6 ∷ 2 ∷ 5 ∷ 10 ∷ []

is_read : whole_record bytes ≡ found machine 10
unfolding whole_stored whole_record only_record only_stored stored_at second_there record_at head_at parts_at fields_at field_at misplaced holds number_at number_in
is_read = refl

-- the part at position 5 is idle, and it is part 6
at_position : idle_mask machine ≡ 16
unfolding idle_parts idle packed in_table table_of tabulate listed has holds any xor
at_position = refl

by_number : idle_numbers machine ≡ 6 ∷ []
unfolding idle_parts idle packed in_table table_of tabulate listed has holds any xor named
by_number = refl

-- taken out by its number it leaves nine bytes, with the sets {1, 4} and {2, 5}
abbrev without : List ℕ
without = 4 ∷ 6 ∷ 1 ∷ 2 ∷ 4 ∷ 5 ∷ 2 ∷ 5 ∷ 10 ∷ []

wrote : take 9 (changed_there take_out (part_position bytes 6) bytes (replicate 20 0)).buffer ≡ without
unfolding part_position position_from changed_record changed_stored whole_stored whole_record only_record only_stored stored_at second_there record_at head_at parts_at fields_at field_at misplaced has holds number_at number_in stored_bytes record_bytes head_bytes parts_bytes forms_of bytes_of grouped others meets squeezed sets_without
wrote = refl

without_read : whole_record without ≡ found (design (list_of 6 (1 ∷ 2 ∷ 4 ∷ 5 ∷ [])) (5 ∷ 10 ∷ [])) 9
unfolding whole_record only_record only_stored stored_at second_there record_at head_at parts_at fields_at field_at misplaced holds number_at number_in
without_read = refl

leaves : SetsStay machine (changed_there take_out (part_position bytes 6) bytes (replicate 20 0)).buffer 9
unfolding named has
leaves = record { new = design (list_of 6 (1 ∷ 2 ∷ 4 ∷ 5 ∷ [])) (5 ∷ 10 ∷ []); read = ap whole_record wrote ∙ without_read; sets = refl }
