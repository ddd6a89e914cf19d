-- Lines of changes of a part list (01, "Records on disk"; 02, §2): a line starts from one list, and each change is applied to what the last one gave.
use mathlib.Core.List.{List, [], ◌∷◌, ◌++◌, Memᴰ}
use Rattle.answer.specs.Outcome.{Numbered, Verdict}
use Rattle.std.specs.Prelude.{◌⊎◌, ℕ, ◌≤◌, Ok, Err}
use Rattle.record_parts.specs.declared.PartList.{PartList}
use Rattle.record_parts.specs.declared.Listed.{Listed}
use Rattle.record_parts.specs.declared.Changed.{Changed}
use Rattle.record_numbers.specs.Numbering.{RisingWithin, named}
use Rattle.record_parts.specs.PartLists.{numbers_of, WellFormed}
use Rattle.record_parts.specs.Changes.{part_added, taken_out, group_taken_out}

-- a change of a part list: one part more, the part at a position taken out, or the parts of a group of positions
pub data PartChange : Type 0 where
  add_part : PartChange
  take_out : ℕ → PartChange
  take_out_group : ℕ → PartChange

-- the verdict in an answer, and the list after a change with the verdict on it
abbrev pub verdict_in : Numbered → Verdict
verdict_in (Ok number) = (Ok tt)
verdict_in (Err refusal) = Err refusal

abbrev pub listed_after : Changed → Listed
listed_after change = record { list = change.list; verdict = verdict_in change.answer }

-- what a change gives, by the definitions that `add`, `take_out` and `take_out_group` are held to
abbrev pub apply : PartChange → PartList → Listed
apply add_part list = listed_after (part_added list)
apply (take_out position) list = listed_after (taken_out list position)
apply (take_out_group group) list = group_taken_out list group

-- the number in an answer, where the change was made
abbrev pub given_number : Numbered → List ℕ
given_number (Ok number) = number ∷ []
given_number (Err refusal) = []

-- some numbers, where the change was made
abbrev pub if_made : Verdict → List ℕ → List ℕ
if_made (Ok _) numbers = numbers
if_made (Err refusal) numbers = []

-- the number issued in a change, and the numbers that left in it, if any
abbrev pub issued_in : PartChange → PartList → List ℕ
issued_in add_part list = given_number (part_added list).answer
issued_in (take_out position) list = []
issued_in (take_out_group group) list = []

abbrev pub left_in : PartChange → PartList → List ℕ
left_in add_part list = []
left_in (take_out position) list = given_number (taken_out list position).answer
left_in (take_out_group group) list = if_made (group_taken_out list group).verdict (named (numbers_of list) group)

-- the list at the end of a line; a refused change leaves it as it was, and the line goes on
abbrev pub last_of : List PartChange → PartList → PartList
last_of [] list = list
last_of (change ∷ changes) list = last_of changes (apply change list).list

-- the numbers issued along a line, in order
abbrev pub issued_by : List PartChange → PartList → List ℕ
issued_by [] list = []
issued_by (change ∷ changes) list = issued_in change list ++ issued_by changes (apply change list).list

-- the numbers that left along a line, in order
abbrev pub left_by : List PartChange → PartList → List ℕ
left_by [] list = []
left_by (change ∷ changes) list = left_in change list ++ left_by changes (apply change list).list

-- a number is one of some numbers
abbrev pub In : ℕ → List ℕ → Type 0
In number numbers = Memᴰ number numbers

-- What holds of a line from one list to another, along which some numbers are issued and some leave.
pub record Line (first last : PartList) (issued left : List ℕ) : Type 0 where
  -- the last list is a part list as 01 has it, and the mark has not fallen
  pub well_formed : WellFormed last
  pub mark : first.mark ≤ last.mark
  -- each number issued is above the first mark and above every number issued before it, and none is above the last mark
  pub rising : RisingWithin first.mark last.mark issued
  -- a number in use was in use at first, or was issued along the line
  pub origin : (number : ℕ) → In number (numbers_of last) → In number (numbers_of first) ⊎ In number issued
  -- a number that was in use at first, or was issued, is in use or has left
  pub account : (number : ℕ) → In number (numbers_of first) ⊎ In number issued → In number (numbers_of last) ⊎ In number left
  -- a number that left was in use at first, or was issued, and is not in use any more
  pub gone : (number : ℕ) → In number left → (In number (numbers_of first) ⊎ In number issued) × (In number (numbers_of last) → ⊥)
