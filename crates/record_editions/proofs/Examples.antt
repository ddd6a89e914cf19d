-- The definitions on the bridge and at the edges of the refusals of a record, in both editions: they compute.
-- Assumes nothing.
use mathlib.Core.Path.{◌≡◌, refl}
use mathlib.Core.List.{List, [], ◌∷◌, ◌++◌}
use Prim.Native.Nat.{ℕ, ◌-◌, ◌^◌}
use lib.Count.{ones, ones_in}
use lib.ListN.{replicate}
use Rattle.answer.specs.declared.Reason.TheVariants.{WrongPartCount, EmptyList, LongList, UnknownPart, EmptySet, EndOfBytes, WrongNumber, WrongPartNumber, WrongSet, BytesLeft, WrongRetired, DifferentCount}
use Rattle.answer.specs.Outcome.{at}
use Rattle.codec.specs.Reading.{number_in, number_at}
use Rattle.codec.specs.ByteForm.{grouped, bytes_of, forms_of}
use Rattle.record_parts.specs.PartLists.{list_of}
use Rattle.theory_sets.specs.Masks.{holds}
use Rattle.codec.specs.Reads.{found, refused}
use Rattle.codec.specs.FieldReads.{field_at, fields_at}
use Rattle.record_head.specs.Headings.{parts_at, head_at}
use Rattle.record.specs.Records.{misplaced, design, record_at}
use Rattle.record_head.specs.HeadingBytes.{parts_bytes, head_bytes}
use Rattle.record.specs.RecordBytes.{record_bytes}
use Rattle.numbers.specs.Tables.{tabulate}
use Rattle.theory_sums.specs.Sums.{sum_below, some}
use Rattle.theory_sets.specs.Structures.{listed}
use Rattle.theory_orders.specs.Formulas.{path_count}
use Rattle.record_tail.specs.Tails.{retired_at, tail_at}
use Rattle.record_tail.specs.TailBytes.{tail_bytes}
use Rattle.record_editions.specs.Editions.{second, fresh_counts, second_there, stored_at, only_stored, whole_stored, only_record, whole_record}
use Rattle.record_editions.specs.EditionBytes.{stored_bytes}

-- 01's bridge: 05 05 01 02 03 04 05 04 09 0E 12 15
abbrev bridge : List ℕ
bridge = 5 ∷ 5 ∷ 1 ∷ 2 ∷ 3 ∷ 4 ∷ 5 ∷ 4 ∷ 9 ∷ 14 ∷ 18 ∷ 21 ∷ []

bridge_read : whole_record bridge ≡ found (design (list_of 5 (1 ∷ 2 ∷ 3 ∷ 4 ∷ 5 ∷ [])) (9 ∷ 14 ∷ 18 ∷ 21 ∷ [])) 12
unfolding whole_record only_record only_stored stored_at second_there record_at head_at parts_at fields_at field_at misplaced holds number_at number_in
bridge_read = refl

bridge_written : record_bytes (design (list_of 5 (1 ∷ 2 ∷ 3 ∷ 4 ∷ 5 ∷ [])) (9 ∷ 14 ∷ 18 ∷ 21 ∷ [])) ≡ bridge
unfolding record_bytes head_bytes parts_bytes forms_of bytes_of grouped
bridge_written = refl

-- n is judged before the mark is looked at, and 21 before n
too_many_parts : whole_record (17 ∷ []) ≡ refused (at WrongPartCount 0)
unfolding whole_record only_record only_stored stored_at second_there record_at head_at parts_at fields_at field_at misplaced holds number_at number_in
too_many_parts = refl

-- the input ends inside n
end_inside : whole_record (145 ∷ []) ≡ refused (at EndOfBytes 1)
unfolding whole_record only_record only_stored stored_at second_there record_at head_at parts_at fields_at field_at misplaced holds number_at number_in
end_inside = refl

-- 2^32 is over the top value of n, and of a set, and a part number like any other
wide_count : whole_record (replicate 4 128 ++ (16 ∷ [])) ≡ refused (at WrongNumber 0)
unfolding whole_record only_record only_stored stored_at second_there record_at head_at parts_at fields_at field_at misplaced holds number_at number_in
wide_count = refl

wide_number : whole_record (1 ∷ replicate 4 128 ++ (16 ∷ 1 ∷ 1 ∷ 1 ∷ [])) ≡ found (design (list_of (2 ^ 32) (1 ∷ [])) (1 ∷ [])) 9
unfolding whole_record only_record only_stored stored_at second_there record_at head_at parts_at fields_at field_at misplaced holds number_at number_in
wide_number = refl

set_over_its_top : whole_record (1 ∷ 1 ∷ 1 ∷ 1 ∷ replicate 4 128 ++ (16 ∷ [])) ≡ refused (at WrongNumber 4)
unfolding whole_record only_record only_stored stored_at second_there record_at head_at parts_at fields_at field_at misplaced holds number_at number_in
set_over_its_top = refl

-- the highest mark, and one more
top_mark : whole_record (1 ∷ replicate 6 255 ++ (63 ∷ 1 ∷ 1 ∷ 1 ∷ [])) ≡ found (design (list_of (2 ^ 48 - 1) (1 ∷ [])) (1 ∷ [])) 11
unfolding whole_record only_record only_stored stored_at second_there record_at head_at parts_at fields_at field_at misplaced holds number_at number_in
top_mark = refl

over_the_top_mark : whole_record (1 ∷ replicate 6 255 ++ (64 ∷ 1 ∷ 1 ∷ 1 ∷ [])) ≡ refused (at WrongNumber 1)
unfolding whole_record only_record only_stored stored_at second_there record_at head_at parts_at fields_at field_at misplaced holds number_at number_in
over_the_top_mark = refl

-- the input ends behind five, six and seven groups of a mark, each with bit 7 set
five_groups : whole_record (1 ∷ replicate 5 255) ≡ refused (at EndOfBytes 6)
unfolding whole_record only_record only_stored stored_at second_there record_at head_at parts_at fields_at field_at misplaced holds number_at number_in
five_groups = refl

six_groups : whole_record (1 ∷ replicate 6 255) ≡ refused (at EndOfBytes 7)
unfolding whole_record only_record only_stored stored_at second_there record_at head_at parts_at fields_at field_at misplaced holds number_at number_in
six_groups = refl

seven_groups : whole_record (1 ∷ replicate 7 255) ≡ refused (at WrongNumber 1)
unfolding whole_record only_record only_stored stored_at second_there record_at head_at parts_at fields_at field_at misplaced holds number_at number_in
seven_groups = refl

-- a part number that does not rise, before 21 of what is missing
equal_numbers : whole_record (2 ∷ 5 ∷ 3 ∷ 3 ∷ []) ≡ refused (at WrongPartNumber 3)
unfolding whole_record only_record only_stored stored_at second_there record_at head_at parts_at fields_at field_at misplaced holds number_at number_in
equal_numbers = refl

-- a mark of 0 is no fault of its own, and no part number is right under it
mark_of_none : whole_record (1 ∷ 0 ∷ 1 ∷ 1 ∷ 1 ∷ []) ≡ refused (at WrongPartNumber 2)
unfolding whole_record only_record only_stored stored_at second_there record_at head_at parts_at fields_at field_at misplaced holds number_at number_in
mark_of_none = refl

-- no sets
no_sets : whole_record (1 ∷ 1 ∷ 1 ∷ 0 ∷ []) ≡ refused (at EmptyList 3)
unfolding whole_record only_record only_stored stored_at second_there record_at head_at parts_at fields_at field_at misplaced holds number_at number_in
no_sets = refl

-- 12,871 sets, before any is looked at
too_many_sets : whole_record (1 ∷ 1 ∷ 1 ∷ 199 ∷ 100 ∷ []) ≡ refused (at LongList 3)
unfolding whole_record only_record only_stored stored_at second_there record_at head_at parts_at fields_at field_at misplaced holds number_at number_in
too_many_sets = refl

-- 65,536 + 1 is no mask of one part
wide_set : whole_record (1 ∷ 1 ∷ 1 ∷ 1 ∷ 129 ∷ 128 ∷ 4 ∷ []) ≡ refused (at UnknownPart 4)
unfolding whole_record only_record only_stored stored_at second_there record_at head_at parts_at fields_at field_at misplaced holds number_at number_in
wide_set = refl

-- 5 before 24
empty_behind : whole_record (2 ∷ 2 ∷ 1 ∷ 2 ∷ 2 ∷ 1 ∷ 0 ∷ []) ≡ refused (at EmptySet 6)
unfolding whole_record only_record only_stored stored_at second_there record_at head_at parts_at fields_at field_at misplaced holds number_at number_in
empty_behind = refl

-- a set that holds the one before it, before 21 of the next
nested_set : whole_record (3 ∷ 3 ∷ 1 ∷ 2 ∷ 3 ∷ 3 ∷ 1 ∷ 3 ∷ []) ≡ refused (at WrongSet 7)
unfolding whole_record only_record only_stored stored_at second_there record_at head_at parts_at fields_at field_at misplaced holds number_at number_in
nested_set = refl

-- a set that holds one two back
nested_two_back : whole_record (3 ∷ 3 ∷ 1 ∷ 2 ∷ 3 ∷ 3 ∷ 1 ∷ 2 ∷ 5 ∷ []) ≡ refused (at WrongSet 8)
unfolding whole_record only_record only_stored stored_at second_there record_at head_at parts_at fields_at field_at misplaced holds number_at number_in
nested_two_back = refl

-- a byte too many
byte_left : whole_record (1 ∷ 1 ∷ 1 ∷ 1 ∷ 1 ∷ 0 ∷ []) ≡ refused (at BytesLeft 5)
unfolding whole_record only_record only_stored stored_at second_there record_at head_at parts_at fields_at field_at misplaced holds number_at number_in
byte_left = refl

-- ---- edition 2 (02, §8)

-- a first byte 00 without 02 behind it is n = 0: with nothing behind it, with 2 written long, with another byte
nothing_behind : whole_stored (0 ∷ []) ≡ refused (at WrongPartCount 0)
unfolding whole_stored only_stored stored_at second_there record_at head_at parts_at fields_at field_at misplaced holds number_at number_in tail_at retired_at fresh_counts tabulate path_count sum_below listed some ones ones_in
nothing_behind = refl

two_written_long : whole_stored (0 ∷ 130 ∷ 0 ∷ []) ≡ refused (at WrongPartCount 0)
unfolding whole_stored only_stored stored_at second_there record_at head_at parts_at fields_at field_at misplaced holds number_at number_in tail_at retired_at fresh_counts tabulate path_count sum_below listed some ones ones_in
two_written_long = refl

another_edition : whole_stored (0 ∷ 1 ∷ []) ≡ refused (at WrongPartCount 0)
unfolding whole_stored only_stored stored_at second_there record_at head_at parts_at fields_at field_at misplaced holds number_at number_in tail_at retired_at fresh_counts tabulate path_count sum_below listed some ones ones_in
another_edition = refl

-- the edition alone, and n refused at its own byte
edition_and_no_more : whole_stored (0 ∷ 2 ∷ []) ≡ refused (at EndOfBytes 2)
unfolding whole_stored only_stored stored_at second_there record_at head_at parts_at fields_at field_at misplaced holds number_at number_in tail_at retired_at fresh_counts tabulate path_count sum_below listed some ones ones_in
edition_and_no_more = refl

seventeen_parts : whole_stored (0 ∷ 2 ∷ 17 ∷ []) ≡ refused (at WrongPartCount 2)
unfolding whole_stored only_stored stored_at second_there record_at head_at parts_at fields_at field_at misplaced holds number_at number_in tail_at retired_at fresh_counts tabulate path_count sum_below listed some ones ones_in
seventeen_parts = refl

edition_twice : whole_stored (0 ∷ 2 ∷ 0 ∷ 2 ∷ []) ≡ refused (at WrongPartCount 2)
unfolding whole_stored only_stored stored_at second_there record_at head_at parts_at fields_at field_at misplaced holds number_at number_in tail_at retired_at fresh_counts tabulate path_count sum_below listed some ones ones_in
edition_twice = refl

-- 30 at a count over 64, before any number is read; at a number in use; at one above the mark
sixty_five : whole_stored (0 ∷ 2 ∷ 1 ∷ 1 ∷ 1 ∷ 1 ∷ 1 ∷ 65 ∷ []) ≡ refused (at WrongRetired 7)
unfolding whole_stored only_stored stored_at second_there record_at head_at parts_at fields_at field_at misplaced holds number_at number_in tail_at retired_at fresh_counts tabulate path_count sum_below listed some ones ones_in
sixty_five = refl

in_use : whole_stored (0 ∷ 2 ∷ 1 ∷ 2 ∷ 1 ∷ 1 ∷ 1 ∷ 1 ∷ 1 ∷ []) ≡ refused (at WrongRetired 8)
unfolding whole_stored only_stored stored_at second_there record_at head_at parts_at fields_at field_at misplaced holds number_at number_in tail_at retired_at fresh_counts tabulate path_count sum_below listed some ones ones_in
in_use = refl

above_the_mark : whole_stored (0 ∷ 2 ∷ 1 ∷ 2 ∷ 1 ∷ 1 ∷ 1 ∷ 1 ∷ 3 ∷ []) ≡ refused (at WrongRetired 8)
unfolding whole_stored only_stored stored_at second_there record_at head_at parts_at fields_at field_at misplaced holds number_at number_in tail_at retired_at fresh_counts tabulate path_count sum_below listed some ones ones_in
above_the_mark = refl

-- 31 at the first count that differs, before 21 of a later one; and 21 where one is missing
first_count : whole_stored (0 ∷ 2 ∷ 1 ∷ 1 ∷ 1 ∷ 1 ∷ 1 ∷ 0 ∷ 1 ∷ []) ≡ refused (at DifferentCount 8)
unfolding whole_stored only_stored stored_at second_there record_at head_at parts_at fields_at field_at misplaced holds number_at number_in tail_at retired_at fresh_counts tabulate path_count sum_below listed some ones ones_in
first_count = refl

second_count : whole_stored (0 ∷ 2 ∷ 1 ∷ 1 ∷ 1 ∷ 1 ∷ 1 ∷ 0 ∷ 0 ∷ 2 ∷ []) ≡ refused (at DifferentCount 9)
unfolding whole_stored only_stored stored_at second_there record_at head_at parts_at fields_at field_at misplaced holds number_at number_in tail_at retired_at fresh_counts tabulate path_count sum_below listed some ones ones_in
second_count = refl

count_missing : whole_stored (0 ∷ 2 ∷ 1 ∷ 1 ∷ 1 ∷ 1 ∷ 1 ∷ 0 ∷ 0 ∷ []) ≡ refused (at EndOfBytes 9)
unfolding whole_stored only_stored stored_at second_there record_at head_at parts_at fields_at field_at misplaced holds number_at number_in tail_at retired_at fresh_counts tabulate path_count sum_below listed some ones ones_in
count_missing = refl

-- a byte too many, last of all
left_in_edition_2 : whole_stored (0 ∷ 2 ∷ 1 ∷ 1 ∷ 1 ∷ 1 ∷ 1 ∷ 0 ∷ 0 ∷ 1 ∷ 7 ∷ []) ≡ refused (at BytesLeft 10)
unfolding whole_stored only_stored stored_at second_there record_at head_at parts_at fields_at field_at misplaced holds number_at number_in tail_at retired_at fresh_counts tabulate path_count sum_below listed some ones ones_in
left_in_edition_2 = refl

-- part 1 of a machine that had a part 2: read, and written back
one_retired : whole_stored (0 ∷ 2 ∷ 1 ∷ 2 ∷ 1 ∷ 1 ∷ 1 ∷ 1 ∷ 2 ∷ 0 ∷ 1 ∷ []) ≡ found (second (design (list_of 2 (1 ∷ [])) (1 ∷ [])) (2 ∷ [])) 11
unfolding whole_stored only_stored stored_at second_there record_at head_at parts_at fields_at field_at misplaced holds number_at number_in tail_at retired_at fresh_counts tabulate path_count sum_below listed some ones ones_in
one_retired = refl

one_retired_written : stored_bytes (second (design (list_of 2 (1 ∷ [])) (1 ∷ [])) (2 ∷ [])) ≡ 0 ∷ 2 ∷ 1 ∷ 2 ∷ 1 ∷ 1 ∷ 1 ∷ 1 ∷ 2 ∷ 0 ∷ 1 ∷ []
unfolding stored_bytes tail_bytes record_bytes head_bytes parts_bytes forms_of bytes_of grouped fresh_counts tabulate path_count sum_below listed some ones ones_in holds
one_retired_written = refl

-- the bridge in edition 2: its path counts are 0, 0, 2, 8, 5, 1
bridge_in_edition_2 : stored_bytes (second (design (list_of 5 (1 ∷ 2 ∷ 3 ∷ 4 ∷ 5 ∷ [])) (9 ∷ 14 ∷ 18 ∷ 21 ∷ [])) []) ≡ 0 ∷ 2 ∷ (bridge ++ (0 ∷ 0 ∷ 0 ∷ 2 ∷ 8 ∷ 5 ∷ 1 ∷ []))
unfolding stored_bytes tail_bytes record_bytes head_bytes parts_bytes forms_of bytes_of grouped fresh_counts tabulate path_count sum_below listed some ones ones_in holds
bridge_in_edition_2 = refl
