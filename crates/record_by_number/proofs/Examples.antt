-- The spreadsheet's fault replayed on the bridge, by part numbers: the definitions compute.
-- Assumes nothing.
use mathlib.Core.Path.{◌≡◌, refl, ap, ◌∙◌}
use mathlib.Core.List.{List, [], ◌∷◌, map}
use Prim.Native.Nat.{ℕ}
use lib.ListN.{replicate}
use Rattle.std.specs.Prelude.{Err}
use Rattle.answer.specs.declared.Reason.TheVariants.{EmptySet, EmptyGroup, UnknownPosition, RepeatedPosition}
use Rattle.answer.specs.Outcome.{at}
use Rattle.codec.specs.Reading.{number_in, number_at}
use Rattle.codec.specs.ByteForm.{grouped, bytes_of, forms_of}
use Rattle.codec.specs.FieldReads.{field_at, fields_at}
use Rattle.masks.specs.Groups.{meets, squeezed}
use Rattle.theory_sums.specs.Sums.{some}
use Rattle.theory_sets.specs.Masks.{has, holds, any, those}
use Rattle.theory_sets.specs.Structures.{listed, minimal}
use Rattle.record_numbers.specs.Numbering.{part_list_refusal, others}
use Rattle.record_parts.specs.Changes.{part_added}
use Rattle.record_head.specs.Headings.{parts_at, head_at}
use Rattle.record_head.specs.HeadingBytes.{parts_bytes, head_bytes}
use Rattle.record.specs.Records.{misplaced, record_at}
use Rattle.record_editions.specs.Editions.{second_there, stored_at, only_stored, whole_stored, only_record, whole_record}
use Rattle.record_editions.specs.EditionBytes.{stored_bytes}
use Rattle.record.specs.RecordBytes.{record_bytes}
use Rattle.record_lines.specs.Changes.{add_part, sets_without}
use Rattle.record_lines.specs.Records.{changed_stored, changed_record}
use Rattle.record_naming.specs.Naming.{position_from, mask_of}
use Rattle.record_by_number.specs.Parts.{part_position, parts_mask}
use Rattle.record_by_number.specs.Lines.{ByNumber, by_position, take_out_part, take_out_parts, add_set_of_parts, changed_by_number, last_by_number}

-- 01's bridge: 05 05 01 02 03 04 05 04 09 0E 12 15
abbrev bridge : List ℕ
bridge = 5 ∷ 5 ∷ 1 ∷ 2 ∷ 3 ∷ 4 ∷ 5 ∷ 4 ∷ 9 ∷ 14 ∷ 18 ∷ 21 ∷ []

-- a call with room enough, and calls one after the other
abbrev one : ByNumber → List ℕ → List ℕ
one change bytes = last_by_number (record { change = change; buffer = replicate 20 0 } ∷ []) bytes

abbrev after : List ByNumber → List ℕ → List ℕ
after changes bytes = last_by_number (map (λ change. record { change = change; buffer = replicate 20 0 }) changes) bytes

-- Part 3 leaves, and then part 4, which stands at position 3 by now: parts 1, 2 and 5 are left with the set {2, 5}. Together they leave as much.
abbrev without_3 : List ℕ
without_3 = 4 ∷ 5 ∷ 1 ∷ 2 ∷ 4 ∷ 5 ∷ 2 ∷ 5 ∷ 10 ∷ []

abbrev left : List ℕ
left = 3 ∷ 5 ∷ 1 ∷ 2 ∷ 5 ∷ 1 ∷ 6 ∷ []

three_leaves : one (take_out_part 3) bridge ≡ without_3
unfolding part_position parts_mask position_from mask_of some changed_record changed_stored whole_stored whole_record only_record only_stored stored_at second_there record_at head_at parts_at fields_at field_at misplaced has holds any those listed minimal number_at number_in stored_bytes record_bytes head_bytes parts_bytes forms_of bytes_of grouped part_added part_list_refusal others meets squeezed sets_without
three_leaves = refl

four_leaves : one (take_out_part 4) without_3 ≡ left
unfolding part_position parts_mask position_from mask_of some changed_record changed_stored whole_stored whole_record only_record only_stored stored_at second_there record_at head_at parts_at fields_at field_at misplaced has holds any those listed minimal number_at number_in stored_bytes record_bytes head_bytes parts_bytes forms_of bytes_of grouped part_added part_list_refusal others meets squeezed sets_without
four_leaves = refl

leaving : after (take_out_part 3 ∷ take_out_part 4 ∷ []) bridge ≡ left
leaving = ap (one (take_out_part 4)) three_leaves ∙ four_leaves

together : one (take_out_parts (4 ∷ 3 ∷ [])) bridge ≡ left
unfolding part_position parts_mask position_from mask_of some changed_record changed_stored whole_stored whole_record only_record only_stored stored_at second_there record_at head_at parts_at fields_at field_at misplaced has holds any those listed minimal number_at number_in stored_bytes record_bytes head_bytes parts_bytes forms_of bytes_of grouped part_added part_list_refusal others meets squeezed sets_without
together = refl

-- a part that comes has the number 6 and no set, and a set that is given to it by its number is its own
abbrev with_6 : List ℕ
with_6 = 4 ∷ 6 ∷ 1 ∷ 2 ∷ 5 ∷ 6 ∷ 1 ∷ 6 ∷ []

coming_alone : one (by_position add_part) left ≡ with_6
unfolding part_position parts_mask position_from mask_of some changed_record changed_stored whole_stored whole_record only_record only_stored stored_at second_there record_at head_at parts_at fields_at field_at misplaced has holds any those listed minimal number_at number_in stored_bytes record_bytes head_bytes parts_bytes forms_of bytes_of grouped part_added part_list_refusal others meets squeezed sets_without
coming_alone = refl

given_a_set : one (add_set_of_parts (6 ∷ 1 ∷ [])) with_6 ≡ 4 ∷ 6 ∷ 1 ∷ 2 ∷ 5 ∷ 6 ∷ 2 ∷ 6 ∷ 9 ∷ []
unfolding part_position parts_mask position_from mask_of some changed_record changed_stored whole_stored whole_record only_record only_stored stored_at second_there record_at head_at parts_at fields_at field_at misplaced has holds any those listed minimal number_at number_in stored_bytes record_bytes head_bytes parts_bytes forms_of bytes_of grouped part_added part_list_refusal others meets squeezed sets_without
given_a_set = refl

coming : after (by_position add_part ∷ add_set_of_parts (6 ∷ 1 ∷ []) ∷ []) left ≡ 4 ∷ 6 ∷ 1 ∷ 2 ∷ 5 ∷ 6 ∷ 2 ∷ 6 ∷ 9 ∷ []
coming = ap (one (add_set_of_parts (6 ∷ 1 ∷ []))) coming_alone ∙ given_a_set

-- what is refused: a number that is no part's, one that stands twice, none; for a set none is 5
refusals :
    map (λ change. (changed_by_number change left []).answer)
    (take_out_part 3 ∷ take_out_parts (2 ∷ 3 ∷ []) ∷ take_out_parts (2 ∷ 2 ∷ []) ∷ take_out_parts [] ∷ add_set_of_parts (1 ∷ 4 ∷ []) ∷ add_set_of_parts [] ∷ [])
    ≡ Err (at UnknownPosition 0) ∷ Err (at UnknownPosition 0) ∷ Err (at RepeatedPosition 0) ∷ Err (at EmptyGroup 0) ∷ Err (at UnknownPosition 0) ∷ Err (at EmptySet 0) ∷ []
unfolding part_position parts_mask position_from mask_of some changed_record changed_stored whole_stored whole_record only_record only_stored stored_at second_there record_at head_at parts_at fields_at field_at misplaced has holds any those listed minimal number_at number_in stored_bytes record_bytes head_bytes parts_bytes forms_of bytes_of grouped part_added part_list_refusal others meets squeezed sets_without
refusals = refl
