-- Changes of a part list (01, "Records on disk"; 02, §2): add part, take out the part at a position, take out the parts of a group.
use Rattle.std.specs.Prelude.{[], ◌∷◌, ◌++◌, ℕ, ◌+◌, ◌-◌, ◌^◌, ltb, eqb, length, get_or, Ok, Err}
use Rattle.answer.specs.declared.Reason.TheVariants.{UnknownPosition, InEverySet, FullMachine, NumbersSpent}
use Rattle.answer.specs.Outcome.{refuse, and_then, Numbered, Verdict}
use Rattle.answer.specs.Checks.{group_refusal}
use Rattle.record_parts.specs.declared.PartList.{PartList}
use Rattle.record_parts.specs.declared.Changed.{Changed}
use Rattle.record_parts.specs.declared.Listed.{Listed}
use Rattle.record_numbers.specs.Numbering.{most_parts, top_number, part_list_refusal, others}
use Rattle.record_parts.specs.PartLists.{numbers_of, list_of, listed_or}

-- what a change answers, by the verdict on it: the part number that it issued or took out; or the refusal, with 01's number and place
abbrev pub numbered_of : Verdict → ℕ → Numbered
numbered_of (Err refusal) number = Err refusal
numbered_of (Ok _) number = Ok number

-- what a change hands back: the list, and the part number that it issued or took out, or the refusal
abbrev pub changed : PartList → Numbered → Changed
changed list answer = record { list = list; answer = answer }

-- a refused change leaves the list as it was
abbrev pub unless : Verdict → PartList → Changed → Changed
unless (Err refusal) list change = changed list (numbered_of (Err refusal) 0)
unless (Ok _) list change = change

-- What refuses a list that breaks the rules, as one built by hand may: the number and the place that reading it would give. Spare cells are
-- not looked at, and hold 0 after every change that is made.
abbrev pub broken_refusal : PartList → Verdict
broken_refusal list = part_list_refusal list.count list.mark (numbers_of list)

-- A change: a list that breaks the rules is refused before anything else, then the change's own refusals follow.
abbrev pub change : PartList → Verdict → Changed → Changed
change list refusal result = unless (broken_refusal list) list (unless refusal list result)

-- 19 before 20
abbrev pub add_refusal : PartList → Verdict
add_refusal list =
    refuse (eqb list.count most_parts) FullMachine 0 (refuse (eqb list.mark top_number) NumbersSpent 0 (Ok tt))

-- one part more: position n+1, part number mark+1; the mark rises by one
abbrev pub with_part : PartList → Changed
with_part list =
    changed (list_of (list.mark + 1) (numbers_of list ++ ((list.mark + 1) ∷ []))) (numbered_of (Ok tt) (list.mark + 1))

-- add part
unfoldable pub part_added : PartList → Changed
part_added list = change list (add_refusal list) (with_part list)

-- 17, and then 18 for a machine's only part, which every set of it names
abbrev pub take_out_refusal : PartList → ℕ → Verdict
take_out_refusal list position =
    refuse (eqb position 0) UnknownPosition 0
    (refuse (ltb list.count position) UnknownPosition 0 (refuse (eqb list.count 1) InEverySet 0 (Ok tt)))

-- the group of the single part at a position, counted from 1
abbrev pub single : ℕ → ℕ
single position = 2 ^ (position - 1)

-- a list without the parts of a group: higher positions move down, part numbers and mark stay
abbrev pub list_without : ℕ → PartList → PartList
list_without group list = list_of list.mark (others (numbers_of list) group)

-- the part at a position left out
abbrev pub without_part : PartList → ℕ → Changed
without_part list position =
    changed (list_without (single position) list) (numbered_of (Ok tt) (get_or (numbers_of list) (position - 1) 0))

-- take out the part at a position, counted from 1
unfoldable pub taken_out : PartList → ℕ → Changed
taken_out list position = change list (take_out_refusal list position) (without_part list position)

-- 15 and 16, and then 18 for all parts of a machine, of which every set of it names some
abbrev pub take_out_group_refusal : PartList → ℕ → Verdict
take_out_group_refusal list group =
    group_refusal list.count group (refuse (eqb (length (others (numbers_of list) group)) 0) InEverySet 0 (Ok tt))

-- take out the parts of a group, a mask of positions; a refused change leaves the list as it was
unfoldable pub group_taken_out : PartList → ℕ → Listed
group_taken_out list group = listed_or list (and_then (broken_refusal list) (take_out_group_refusal list group)) (list_without group list)
