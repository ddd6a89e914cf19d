-- The definitions of changes on the bridge and at the edges: they compute.
-- Assumes nothing.
use mathlib.Core.Path.{◌≡◌, refl}
use mathlib.Core.List.{List, [], ◌∷◌, ◌++◌, map}
use Prim.Native.Nat.{ℕ}
use lib.Count.{ones, ones_in}
use lib.ListN.{replicate}
use Rattle.std.specs.Prelude.{Ok, Err}
use Rattle.answer.specs.declared.Reason.TheVariants.{WrongPartCount, EmptyList, UnknownPart, EmptySet, ShortBuffer, EmptyGroup, UnknownGroupPart, UnknownPosition, InEverySet, NumbersSpent, WrongPartNumber, BytesLeft, RetiredPresent}
use Rattle.answer.specs.Outcome.{at, outcome, Numbered}
use Rattle.codec.specs.Reading.{number_in, number_at}
use Rattle.codec.specs.ByteForm.{grouped, bytes_of, forms_of}
use Rattle.numbers.specs.Tables.{tabulate}
use Rattle.masks.specs.Groups.{meets, squeezed}
use Rattle.record_numbers.specs.Numbering.{part_list_refusal, named, others}
use Rattle.theory_sums.specs.Sums.{sum_below, some}
use Rattle.theory_orders.specs.Formulas.{path_count}
use Rattle.record_retired.specs.Retired.{inserted, kept, filed_all}
use Rattle.record_tail.specs.Tails.{retired_at, tail_at}
use Rattle.record_tail.specs.TailBytes.{tail_bytes}
use Rattle.record_editions.specs.declared.Edition.TheVariants.{First, Second}
use Rattle.record_parts.specs.Changes.{part_added}
use Rattle.theory_sets.specs.Masks.{has, holds, any, those}
use Rattle.theory_sets.specs.Structures.{listed, minimal}
use Rattle.structure.specs.Checks as structure
use Rattle.codec.specs.FieldReads.{field_at, fields_at}
use Rattle.record_head.specs.Headings.{parts_at, head_at}
use Rattle.record.specs.Records.{misplaced, record_at}
use Rattle.record_editions.specs.Editions.{fresh_counts, second_there, stored_at, only_stored, whole_stored}
use Rattle.record_editions.specs.EditionBytes.{stored_bytes}
use Rattle.record_head.specs.HeadingBytes.{parts_bytes, head_bytes}
use Rattle.record.specs.RecordBytes.{record_bytes}
use Rattle.record_lines.specs.Changes.{Change, add_part, take_out, take_out_group, add_set, convert, sets_without}
use Rattle.record_lines.specs.Records.{changed_stored, changed_record, first_record, entered_record}
use Rattle.record_lines.specs.Lines.{Call, after, last_of}

-- 01's bridge: 05 05 01 02 03 04 05 04 09 0E 12 15
abbrev bridge : List ℕ
bridge = 5 ∷ 5 ∷ 1 ∷ 2 ∷ 3 ∷ 4 ∷ 5 ∷ 4 ∷ 9 ∷ 14 ∷ 18 ∷ 21 ∷ []

-- a call with room enough
abbrev call : Change → Call
call change = record { change = change; buffer = replicate 20 0 }

abbrev answer : Change → List ℕ → ℕ → Numbered
answer change bytes room = (changed_record change bytes (replicate room 0)).answer

-- Changes that are made: the highest part leaves and the mark stays; the next part gets the number after the mark, and not after the highest
-- part; an idle part leaves without touching a set; a set that is there, or holds one that is, changes nothing; one inside old ones replaces
-- them, at its place.
made :
    after (call (take_out 5)) bridge ∷ after (call add_part) (4 ∷ 5 ∷ 1 ∷ 2 ∷ 3 ∷ 4 ∷ 2 ∷ 9 ∷ 14 ∷ []) ∷ after (call add_part) (1 ∷ 9 ∷ 3 ∷ 1 ∷ 1 ∷ [])
    ∷ after (call (take_out 2)) (2 ∷ 2 ∷ 1 ∷ 2 ∷ 1 ∷ 1 ∷ []) ∷ after (call (take_out 3)) bridge ∷ after (call (add_set 9)) bridge ∷ after (call (add_set 31)) bridge
    ∷ after (call (add_set 1)) bridge ∷ []
    ≡ (4 ∷ 5 ∷ 1 ∷ 2 ∷ 3 ∷ 4 ∷ 2 ∷ 9 ∷ 14 ∷ []) ∷ (5 ∷ 6 ∷ 1 ∷ 2 ∷ 3 ∷ 4 ∷ 6 ∷ 2 ∷ 9 ∷ 14 ∷ []) ∷ (2 ∷ 10 ∷ 3 ∷ 10 ∷ 1 ∷ 1 ∷ [])
    ∷ (1 ∷ 2 ∷ 1 ∷ 1 ∷ 1 ∷ []) ∷ (4 ∷ 5 ∷ 1 ∷ 2 ∷ 4 ∷ 5 ∷ 2 ∷ 5 ∷ 10 ∷ []) ∷ bridge ∷ bridge
    ∷ (5 ∷ 5 ∷ 1 ∷ 2 ∷ 3 ∷ 4 ∷ 5 ∷ 3 ∷ 1 ∷ 14 ∷ 18 ∷ []) ∷ []
unfolding changed_record changed_stored whole_stored only_stored stored_at second_there record_at head_at parts_at fields_at field_at misplaced has holds any those listed minimal number_at number_in stored_bytes record_bytes head_bytes parts_bytes forms_of bytes_of grouped part_added part_list_refusal others meets squeezed sets_without
made = refl

-- Changes that are refused: the last part is 18; a position that is not there is 17, before 18; 20 looks at the mark; 4 and 5 at place 0; 11 with the
-- needed length behind the change's own refusals; and 25 of the record before anything of the change.
not_made :
    answer (take_out 1) (1 ∷ 1 ∷ 1 ∷ 1 ∷ 1 ∷ []) 9 ∷ answer (take_out 1) (3 ∷ 3 ∷ 1 ∷ 2 ∷ 3 ∷ 2 ∷ 3 ∷ 5 ∷ []) 9 ∷ answer (take_out 0) (1 ∷ 1 ∷ 1 ∷ 1 ∷ 1 ∷ []) 9
    ∷ answer (take_out 2) (1 ∷ 1 ∷ 1 ∷ 1 ∷ 1 ∷ []) 9 ∷ answer add_part (1 ∷ replicate 6 255 ++ (63 ∷ 1 ∷ 1 ∷ 1 ∷ [])) 9
    ∷ answer (add_set 0) (1 ∷ 1 ∷ 1 ∷ 1 ∷ 1 ∷ []) 9 ∷ answer (add_set 2) (1 ∷ 1 ∷ 1 ∷ 1 ∷ 1 ∷ []) 9 ∷ answer (take_out 3) bridge 8
    ∷ answer (take_out 9) bridge 0 ∷ answer (take_out 9) (1 ∷ 1 ∷ 1 ∷ 1 ∷ 1 ∷ 0 ∷ []) 9 ∷ []
    ≡ map Err (at InEverySet 0 ∷ at InEverySet 0 ∷ at UnknownPosition 0 ∷ at UnknownPosition 0 ∷ at NumbersSpent 0 ∷ at EmptySet 0 ∷ at UnknownPart 0 ∷ at ShortBuffer 9 ∷ at UnknownPosition 0 ∷ at BytesLeft 5 ∷ [])
unfolding changed_record changed_stored whole_stored only_stored stored_at second_there record_at head_at parts_at fields_at field_at misplaced has holds any those listed minimal number_at number_in stored_bytes record_bytes head_bytes parts_bytes forms_of bytes_of grouped part_added part_list_refusal others meets squeezed sets_without
not_made = refl

-- The spreadsheet's fault: a pump, part 3, is taken out and a sensor is added. The sensor is part 6 and stands in no set.
sensor : last_of (call (take_out 3) ∷ call add_part ∷ []) bridge ≡ 5 ∷ 6 ∷ 1 ∷ 2 ∷ 4 ∷ 5 ∷ 6 ∷ 2 ∷ 5 ∷ 10 ∷ []
unfolding changed_record changed_stored whole_stored only_stored stored_at second_there record_at head_at parts_at fields_at field_at misplaced has holds any those listed minimal number_at number_in stored_bytes record_bytes head_bytes parts_bytes forms_of bytes_of grouped part_added part_list_refusal others meets squeezed sets_without
sensor = refl

-- At a mark of 2^32-1 the numbers go on, and they end at 2^48-1.
on : after (call add_part) (1 ∷ replicate 4 255 ++ (15 ∷ 1 ∷ 1 ∷ 1 ∷ [])) ≡ 2 ∷ replicate 4 128 ++ (16 ∷ 1 ∷ replicate 4 128 ++ (16 ∷ 1 ∷ 1 ∷ []))
unfolding changed_record changed_stored whole_stored only_stored stored_at second_there record_at head_at parts_at fields_at field_at misplaced has holds any those listed minimal number_at number_in stored_bytes record_bytes head_bytes parts_bytes forms_of bytes_of grouped part_added part_list_refusal others meets squeezed sets_without
on = refl

last_number_lem : last_of (call add_part ∷ call add_part ∷ []) (1 ∷ 254 ∷ replicate 5 255 ++ (63 ∷ 1 ∷ 1 ∷ 1 ∷ [])) ≡ 2 ∷ replicate 6 255 ++ (63 ∷ 1 ∷ replicate 6 255 ++ (63 ∷ 1 ∷ 1 ∷ []))
unfolding changed_record changed_stored whole_stored only_stored stored_at second_there record_at head_at parts_at fields_at field_at misplaced has holds any those listed minimal number_at number_in stored_bytes record_bytes head_bytes parts_bytes forms_of bytes_of grouped part_added part_list_refusal others meets squeezed sets_without
last_number_lem = refl

-- Groups of the bridge and of records of one and three parts: parts 3 and 5 leave together and parts 1 and 4 are then at positions 1 and 3; 15 for no
-- part; 16 for a position behind the last, also beside right ones and before 18; 18 where every set names some part, though none is named by all; 11 behind
-- 18; and 25 of the record before anything of the group.
together : after (call (take_out_group 20)) bridge ≡ 3 ∷ 5 ∷ 1 ∷ 2 ∷ 4 ∷ 1 ∷ 5 ∷ []
unfolding changed_record changed_stored whole_stored only_stored stored_at second_there record_at head_at parts_at fields_at field_at misplaced has holds any those listed minimal number_at number_in stored_bytes record_bytes head_bytes parts_bytes forms_of bytes_of grouped part_list_refusal others meets squeezed sets_without
together = refl

not_together :
    answer (take_out_group 0) (1 ∷ 1 ∷ 1 ∷ 1 ∷ 1 ∷ []) 9 ∷ answer (take_out_group 2) (1 ∷ 1 ∷ 1 ∷ 1 ∷ 1 ∷ []) 9 ∷ answer (take_out_group 3) bridge 12
    ∷ answer (take_out_group 3) (3 ∷ 3 ∷ 1 ∷ 2 ∷ 3 ∷ 2 ∷ 3 ∷ 5 ∷ []) 9 ∷ answer (take_out_group 31) bridge 12 ∷ answer (take_out_group 52) bridge 12 ∷ answer (take_out_group 63) bridge 12
    ∷ answer (take_out_group 20) bridge 6 ∷ answer (take_out_group 3) bridge 0 ∷ answer (take_out_group 0) (1 ∷ 1 ∷ 1 ∷ 1 ∷ 1 ∷ 0 ∷ []) 9 ∷ []
    ≡ map Err (at EmptyGroup 0 ∷ at UnknownGroupPart 0 ∷ at InEverySet 0 ∷ at InEverySet 0 ∷ at InEverySet 0 ∷ at UnknownGroupPart 0 ∷ at UnknownGroupPart 0 ∷ at ShortBuffer 7 ∷ at InEverySet 0 ∷ at BytesLeft 5 ∷ [])
unfolding changed_record changed_stored whole_stored only_stored stored_at second_there record_at head_at parts_at fields_at field_at misplaced has holds any those listed minimal number_at number_in stored_bytes record_bytes head_bytes parts_bytes forms_of bytes_of grouped part_list_refusal others meets squeezed sets_without
not_together = refl

-- ---- edition 2 (02, §8)

-- the bridge in edition 2: no retired numbers, and the path counts 0, 0, 2, 8, 5, 1
abbrev second_bridge : List ℕ
second_bridge = 0 ∷ 2 ∷ (bridge ++ (0 ∷ 0 ∷ 0 ∷ 2 ∷ 8 ∷ 5 ∷ 1 ∷ []))

abbrev wide_call : Change → Call
wide_call change = record { change = change; buffer = replicate 30 0 }

converted : after (wide_call (convert Second)) bridge ≡ second_bridge
unfolding changed_record changed_stored whole_stored only_stored stored_at second_there record_at head_at parts_at fields_at field_at misplaced has holds any those listed minimal number_at number_in stored_bytes record_bytes head_bytes parts_bytes forms_of bytes_of grouped part_added part_list_refusal others meets squeezed sets_without tail_at retired_at tail_bytes fresh_counts path_count tabulate sum_below some ones ones_in named inserted kept filed_all
converted = refl

-- Part 3 leaves and is filed, with the path counts of the machine that is left; the next part gets number 6; part 1 becomes enough by itself.
abbrev second_without_3 : List ℕ
second_without_3 = 0 ∷ 2 ∷ 4 ∷ 5 ∷ 1 ∷ 2 ∷ 4 ∷ 5 ∷ 2 ∷ 5 ∷ 10 ∷ 1 ∷ 3 ∷ 0 ∷ 0 ∷ 2 ∷ 4 ∷ 1 ∷ []

filed_away : after (wide_call (take_out 3)) second_bridge ≡ second_without_3
unfolding changed_record changed_stored whole_stored only_stored stored_at second_there record_at head_at parts_at fields_at field_at misplaced has holds any those listed minimal number_at number_in stored_bytes record_bytes head_bytes parts_bytes forms_of bytes_of grouped part_added part_list_refusal others meets squeezed sets_without tail_at retired_at tail_bytes fresh_counts path_count tabulate sum_below some ones ones_in named inserted kept filed_all
filed_away = refl

sensor_comes : after (wide_call add_part) second_without_3 ≡ 0 ∷ 2 ∷ 5 ∷ 6 ∷ 1 ∷ 2 ∷ 4 ∷ 5 ∷ 6 ∷ 2 ∷ 5 ∷ 10 ∷ 1 ∷ 3 ∷ 0 ∷ 0 ∷ 2 ∷ 6 ∷ 5 ∷ 1 ∷ []
unfolding changed_record changed_stored whole_stored only_stored stored_at second_there record_at head_at parts_at fields_at field_at misplaced has holds any those listed minimal number_at number_in stored_bytes record_bytes head_bytes parts_bytes forms_of bytes_of grouped part_added part_list_refusal others meets squeezed sets_without tail_at retired_at tail_bytes fresh_counts path_count tabulate sum_below some ones ones_in named inserted kept filed_all
sensor_comes = refl

counted_again : after (wide_call (add_set 1)) second_bridge ≡ 0 ∷ 2 ∷ 5 ∷ 5 ∷ 1 ∷ 2 ∷ 3 ∷ 4 ∷ 5 ∷ 3 ∷ 1 ∷ 14 ∷ 18 ∷ 0 ∷ 0 ∷ 1 ∷ 5 ∷ 9 ∷ 5 ∷ 1 ∷ []
unfolding changed_record changed_stored whole_stored only_stored stored_at second_there record_at head_at parts_at fields_at field_at misplaced has holds any those listed minimal number_at number_in stored_bytes record_bytes head_bytes parts_bytes forms_of bytes_of grouped part_added part_list_refusal others meets squeezed sets_without tail_at retired_at tail_bytes fresh_counts path_count tabulate sum_below some ones ones_in named inserted kept filed_all
counted_again = refl

-- back to edition 1: 32 for the retired number, before 11; and without one the bridge as it was
not_back : answer (convert First) second_without_3 0 ∷ answer (convert First) second_bridge 11 ∷ [] ≡ Err (at RetiredPresent 0) ∷ Err (at ShortBuffer 12) ∷ []
unfolding changed_record changed_stored whole_stored only_stored stored_at second_there record_at head_at parts_at fields_at field_at misplaced has holds any those listed minimal number_at number_in stored_bytes record_bytes head_bytes parts_bytes forms_of bytes_of grouped part_added part_list_refusal others meets squeezed sets_without tail_at retired_at tail_bytes fresh_counts path_count tabulate sum_below some ones ones_in named inserted kept filed_all
not_back = refl

back : after (wide_call (convert First)) second_bridge ≡ bridge
unfolding changed_record changed_stored whole_stored only_stored stored_at second_there record_at head_at parts_at fields_at field_at misplaced has holds any those listed minimal number_at number_in stored_bytes record_bytes head_bytes parts_bytes forms_of bytes_of grouped part_added part_list_refusal others meets squeezed sets_without tail_at retired_at tail_bytes fresh_counts path_count tabulate sum_below some ones ones_in named inserted kept filed_all
back = refl

-- ---- records to start from

-- a first record of a list with a repeat and a nested set
first : first_record 2 (3 ∷ 1 ∷ 1 ∷ []) (replicate 7 9) ≡ outcome (Ok 6) (2 ∷ 2 ∷ 1 ∷ 2 ∷ 1 ∷ 1 ∷ 9 ∷ [])
unfolding first_record structure.list_refusal structure.entries_refusal tabulate holds any those listed minimal stored_bytes record_bytes head_bytes parts_bytes forms_of bytes_of grouped
first = refl

-- ---- records of parts that already have numbers

-- parts 3, 7 and 12 of a tab whose numbers went up to 15, with {3, 7}, {3, 12} and a set that holds one of them
entered : entered_record 15 (3 ∷ 7 ∷ 12 ∷ []) (5 ∷ 7 ∷ 3 ∷ []) (replicate 9 0) ≡ outcome (Ok 8) (3 ∷ 15 ∷ 3 ∷ 7 ∷ 12 ∷ 2 ∷ 3 ∷ 5 ∷ 0 ∷ [])
unfolding entered_record structure.list_refusal structure.entries_refusal has holds any those listed minimal stored_bytes record_bytes head_bytes parts_bytes forms_of bytes_of grouped
entered = refl

-- no number; no set; a set beyond the last position before a wrong number; the number 0; one that does not rise; one above the mark; a mark above
-- the top number, behind the last number; and a short buffer last
not_entered :
    (entered_record 15 [] (1 ∷ []) []).answer ∷ (entered_record 15 (0 ∷ []) [] []).answer ∷ (entered_record 15 (0 ∷ []) (2 ∷ []) []).answer
    ∷ (entered_record 15 (0 ∷ []) (1 ∷ []) []).answer ∷ (entered_record 15 (3 ∷ 7 ∷ 7 ∷ []) (1 ∷ []) []).answer ∷ (entered_record 15 (3 ∷ 16 ∷ []) (1 ∷ []) []).answer
    ∷ (entered_record 281474976710656 (3 ∷ 7 ∷ []) (1 ∷ []) []).answer ∷ (entered_record 15 (3 ∷ []) (1 ∷ []) []).answer ∷ []
    ≡ Err (at WrongPartCount 0) ∷ Err (at EmptyList 0) ∷ Err (at UnknownPart 0) ∷ Err (at WrongPartNumber 0) ∷ Err (at WrongPartNumber 2) ∷ Err (at WrongPartNumber 1) ∷ Err (at WrongPartNumber 2)
    ∷ Err (at ShortBuffer 5) ∷ []
unfolding entered_record structure.list_refusal structure.entries_refusal has holds any those listed minimal stored_bytes record_bytes head_bytes parts_bytes forms_of bytes_of grouped
not_entered = refl
