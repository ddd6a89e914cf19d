-- What stands before the sets of a design record, at bytes from a position on (01, "Records on disk"), or which refusal at which place: each
-- number is judged as it is read, and places are counted in the whole input.
use Rattle.std.specs.Prelude.{List, [], ◌∷◌, ℕ, ltb, eqb, Result, Ok, Err}
use Rattle.answer.specs.declared.Reason.TheVariants.{EmptyList, LongList, WrongPartNumber}
use Rattle.answer.specs.Outcome.{refuse, Verdict}
use Rattle.answer.specs.declared.Refusal.{Refusal}
use Rattle.answer.specs.Checks.{part_count_refusal}
use Rattle.codec.specs.declared.Field.TheVariants.{Count, PartNumber}
use Rattle.codec.specs.Reads.{Read, found, refused, then}
use Rattle.codec.specs.FieldReads.{field_at, Judge, fields_at}
use Rattle.theory_orders.specs.Antichains.{most_sets}
use Rattle.record_parts.specs.declared.PartList.{PartList}
use Rattle.record_numbers.specs.Numbering.{misnumbered}
use Rattle.record_parts.specs.PartLists.{list_of}
use Rattle.record_head.specs.declared.Heading.{Heading}

-- ---- the checks of each field, with the number's first byte as place

-- n: 1
abbrev pub parts_refusal : ℕ → ℕ → Verdict
parts_refusal place n = part_count_refusal place n (Ok tt)

-- the mark: none
abbrev pub mark_refusal : ℕ → Verdict
mark_refusal mark = (Ok tt)

-- a part number: 23, after the one before it (0 before the first)
abbrev pub part_number_refusal : ℕ → ℕ → ℕ → ℕ → Verdict
part_number_refusal mark previous place number = refuse (misnumbered previous mark number) WrongPartNumber place (Ok tt)

-- the count of minimal sets: 2 and 3
abbrev pub set_count_refusal : ℕ → ℕ → Verdict
set_count_refusal place count = refuse (eqb count 0) EmptyList place (refuse (ltb most_sets count) LongList place (Ok tt))

-- ---- the heading

-- the last of some numbers, and `before` where there are none
abbrev pub last_number : ℕ → List ℕ → ℕ
last_number before [] = before
last_number before (number ∷ numbers) = last_number number numbers

-- a part number behind the earlier ones
abbrev pub part_number_judge : ℕ → Judge
part_number_judge mark earlier = part_number_refusal mark (last_number 0 earlier)

-- so many part numbers more, behind the earlier ones
abbrev pub numbers_at : List ℕ → ℕ → ℕ → List ℕ → ℕ → Read (List ℕ)
numbers_at bytes mark = fields_at bytes PartNumber (part_number_judge mark)

-- n, the mark and n part numbers
unfoldable pub parts_at : List ℕ → ℕ → Read PartList
parts_at bytes start =
    then (field_at bytes start Count (parts_refusal start)) (λ n next.
    then (field_at bytes next PartNumber mark_refusal) (λ mark after.
    then (numbers_at bytes mark n [] after) (λ numbers end.
    found (list_of mark numbers) end)))

-- what stands before the sets: the part list and the count of sets
pub record Head : Type 0 where
  pub parts : PartList
  pub count : ℕ

unfoldable pub head_at : List ℕ → ℕ → Read Head
head_at bytes start =
    then (parts_at bytes start) (λ parts next.
    then (field_at bytes next Count (set_count_refusal next)) (λ count after.
    found (record { parts = parts; count = count }) after))

-- how it is answered
abbrev pub heading_of : Read Head → Result Heading Refusal
heading_of (found head begin) = Ok (record { list = head.parts; sets = head.count; begin = begin })
heading_of (refused refusal) = Err refusal
