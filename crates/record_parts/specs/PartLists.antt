-- The part list of a design record (01, "Records on disk"): the part numbers in use, by position, and the mark, which is the highest part
-- number ever issued.
use Rattle.answer.specs.Outcome.{Verdict}
use Rattle.std.specs.Prelude.{◌≡◌, List, [], ℕ, length, take, Ok, Err}
use Rattle.record_numbers.specs.Numbering.{cells_of, Rules, part_list_refusal}
use Rattle.record_parts.specs.declared.PartList.{PartList}
use Rattle.record_parts.specs.declared.Listed.{Listed}

-- the part numbers in use, by position
abbrev pub numbers_of : PartList → List ℕ
numbers_of list = take list.count list.numbers

-- the list with this mark and these numbers
abbrev pub list_of : ℕ → List ℕ → PartList
list_of mark numbers = record { count = length numbers; mark = mark; numbers = cells_of numbers }

-- a part list that keeps the rules, with 0 in its spare cells
pub record WellFormed (list : PartList) : Type 0 where
  pub rules : Rules list.count list.mark (numbers_of list)
  pub spare : list.numbers ≡ cells_of (numbers_of list)

-- A list with the verdict on it: where it is refused, another one in its place.
abbrev pub listed_or : PartList → Verdict → PartList → Listed
listed_or other (Err refusal) list = record { list = other; verdict = Err refusal }
listed_or other (Ok _) list = record { list = list; verdict = (Ok tt) }

-- What is made of numbers and a mark: the list that has them; or the refusal, with a list of no parts.
abbrev pub listing : Verdict → PartList → Listed
listing verdict list = listed_or (list_of 0 []) verdict list

unfoldable pub made : ℕ → List ℕ → Listed
made mark numbers = listing (part_list_refusal (length numbers) mark numbers) (list_of mark numbers)
