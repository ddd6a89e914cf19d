-- The definitions on the bridge, in both editions, and on a machine of three parts: they compute.
-- Assumes nothing.
use mathlib.Core.Path.{◌≡◌, refl}
use mathlib.Core.List.{List, [], ◌∷◌, map}
use Prim.Native.Nat.{ℕ}
use lib.Count.{ones, ones_in}
use lib.ListN.{replicate}
use Rattle.std.specs.Prelude.{Ok, Err}
use Rattle.answer.specs.declared.Reason.TheVariants.{ShortBuffer, UnknownPosition, InEverySet}
use Rattle.answer.specs.Outcome.{at}
use Rattle.codec.specs.Reading.{number_in, number_at}
use Rattle.codec.specs.ByteForm.{grouped, bytes_of, forms_of}
use Rattle.codec.specs.FieldReads.{field_at, fields_at}
use Rattle.masks.specs.Groups.{meets, squeezed}
use Rattle.theory_sets.specs.Masks.{has, holds}
use Rattle.theory_sets.specs.Structures.{listed}
use Rattle.theory_sums.specs.Sums.{sum_below, some}
use Rattle.theory_orders.specs.Formulas.{path_count}
use Rattle.numbers.specs.Tables.{tabulate}
use Rattle.record_numbers.specs.Numbering.{part_list_refusal, named, others}
use Rattle.record_head.specs.Headings.{parts_at, head_at}
use Rattle.record_head.specs.HeadingBytes.{parts_bytes, head_bytes}
use Rattle.record.specs.Records.{misplaced, record_at}
use Rattle.record_retired.specs.Retired.{inserted, kept, filed_all}
use Rattle.record_tail.specs.Tails.{retired_at, tail_at}
use Rattle.record_tail.specs.TailBytes.{tail_bytes}
use Rattle.record_editions.specs.Editions.{fresh_counts, second_there, stored_at, only_stored, whole_stored, only_record, whole_record}
use Rattle.record_editions.specs.EditionBytes.{stored_bytes}
use Rattle.record.specs.RecordBytes.{record_bytes}
use Rattle.record_lines.specs.Changes.{take_out_group, sets_without}
use Rattle.record_lines.specs.Records.{changed_stored, changed_record}
use Rattle.record_naming.specs.Naming.{position_from}
use Rattle.record_groups.specs.Series.{Result, result_of, series}

-- 01's bridge: 05 05 01 02 03 04 05 04 09 0E 12 15
abbrev bridge : List ℕ
bridge = 5 ∷ 5 ∷ 1 ∷ 2 ∷ 3 ∷ 4 ∷ 5 ∷ 4 ∷ 9 ∷ 14 ∷ 18 ∷ 21 ∷ []

-- the bridge in edition 2, with the mark 6 and part 6 retired: 00 02 05 06 01 02 03 04 05 04 09 0E 12 15 01 06 00 00 02 08 05 01
abbrev second_bridge : List ℕ
second_bridge = 0 ∷ 2 ∷ 5 ∷ 6 ∷ 1 ∷ 2 ∷ 3 ∷ 4 ∷ 5 ∷ 4 ∷ 9 ∷ 14 ∷ 18 ∷ 21 ∷ 1 ∷ 6 ∷ 0 ∷ 0 ∷ 2 ∷ 8 ∷ 5 ∷ 1 ∷ []

-- {1,2} and {1,3}: 03 03 01 02 03 02 03 05
abbrev three : List ℕ
three = 3 ∷ 3 ∷ 1 ∷ 2 ∷ 3 ∷ 2 ∷ 3 ∷ 5 ∷ []

-- in buffers as long as the record
abbrev together : ℕ → List ℕ → ℕ → Result
together group bytes room = result_of (record { change = take_out_group group; buffer = replicate room 0 }) bytes

abbrev singly : List ℕ → List ℕ → ℕ → Result
singly order bytes room = series (map (λ number. record { number = number; buffer = replicate room 0 }) order) bytes

-- parts 3 and 5 of the bridge leave together, or 3 first and then 5, which is at position 4 then, or 5 first
left :
    together 20 bridge 12 ∷ singly (3 ∷ 5 ∷ []) bridge 12 ∷ singly (5 ∷ 3 ∷ []) bridge 12 ∷ []
    ≡ replicate 3 (record { verdict = (Ok tt); bytes = 3 ∷ 5 ∷ 1 ∷ 2 ∷ 4 ∷ 1 ∷ 5 ∷ [] })
unfolding position_from changed_record changed_stored whole_stored whole_record only_record only_stored stored_at second_there record_at head_at parts_at fields_at field_at misplaced has holds number_at number_in stored_bytes record_bytes head_bytes parts_bytes forms_of bytes_of grouped part_list_refusal others meets squeezed sets_without
left = refl

-- The same of the bridge in edition 2, whose part 6 left before: 3, 5 and 6 are retired then, whichever left first, and the path counts are those of
-- the machine that is left.
left_second :
    together 20 second_bridge 22 ∷ singly (3 ∷ 5 ∷ []) second_bridge 22 ∷ singly (5 ∷ 3 ∷ []) second_bridge 22 ∷ []
    ≡ replicate 3 (record { verdict = (Ok tt); bytes = 0 ∷ 2 ∷ 3 ∷ 6 ∷ 1 ∷ 2 ∷ 4 ∷ 1 ∷ 5 ∷ 3 ∷ 3 ∷ 5 ∷ 6 ∷ 0 ∷ 0 ∷ 1 ∷ 1 ∷ [] })
unfolding position_from changed_record changed_stored whole_stored whole_record only_record only_stored stored_at second_there record_at head_at parts_at fields_at field_at misplaced has holds number_at number_in stored_bytes record_bytes head_bytes parts_bytes forms_of bytes_of grouped part_list_refusal others meets squeezed sets_without tail_at retired_at tail_bytes fresh_counts path_count tabulate sum_below listed some ones ones_in named inserted kept filed_all
left_second = refl

-- Parts 1 and 2 of the machine of three are refused by 18 together; part 1 alone is, and ends the series, though part 2 alone could leave; and after
-- part 2 part 1 is. The record stays as it was at the start.
refused :
    together 3 three 8 ∷ singly (1 ∷ 2 ∷ []) three 8 ∷ singly (2 ∷ 1 ∷ []) three 8 ∷ []
    ≡ replicate 3 (record { verdict = Err (at InEverySet 0); bytes = three })
unfolding position_from changed_record changed_stored whole_stored whole_record only_record only_stored stored_at second_there record_at head_at parts_at fields_at field_at misplaced has holds number_at number_in stored_bytes record_bytes head_bytes parts_bytes forms_of bytes_of grouped part_list_refusal others meets squeezed sets_without
refused = refl

part_two_alone : singly (2 ∷ []) three 8 ≡ record { verdict = (Ok tt); bytes = 2 ∷ 3 ∷ 1 ∷ 3 ∷ 1 ∷ 3 ∷ [] }
unfolding position_from changed_record changed_stored whole_stored whole_record only_record only_stored stored_at second_there record_at head_at parts_at fields_at field_at misplaced has holds number_at number_in stored_bytes record_bytes head_bytes parts_bytes forms_of bytes_of grouped part_list_refusal others meets squeezed sets_without
part_two_alone = refl

-- a number that no part has is 17
part_nine : singly (9 ∷ []) three 8 ≡ record { verdict = Err (at UnknownPosition 0); bytes = three }
unfolding position_from changed_record changed_stored whole_stored whole_record only_record only_stored stored_at second_there record_at head_at parts_at fields_at field_at misplaced has holds number_at number_in stored_bytes record_bytes head_bytes parts_bytes forms_of bytes_of grouped part_list_refusal others meets squeezed sets_without
part_nine = refl

-- A short buffer is another matter: the bridge without part 5 takes nine bytes on the way to seven.
short :
    (together 20 bridge 7).verdict ∷ (singly (5 ∷ 3 ∷ []) bridge 7).verdict ∷ []
    ≡ Ok tt ∷ Err (at ShortBuffer 9) ∷ []
unfolding position_from changed_record changed_stored whole_stored whole_record only_record only_stored stored_at second_there record_at head_at parts_at fields_at field_at misplaced has holds number_at number_in stored_bytes record_bytes head_bytes parts_bytes forms_of bytes_of grouped part_list_refusal others meets squeezed sets_without
short = refl
