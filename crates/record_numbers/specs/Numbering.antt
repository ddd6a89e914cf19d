-- The part numbers and the mark of a part list (01, "Records on disk"): the rules that they keep, and what refuses them.
use Rattle.std.specs.Prelude.{Bool, true, cond, List, [], ◌∷◌, ◌++◌, ℕ, suc, ◌-◌, ◌/◌, ◌≤◌, ◌<◌, max, leb, ltb, eqb, length, replicate, Ok}
use Rattle.answer.specs.declared.Reason.TheVariants.{WrongPartNumber}
use Rattle.answer.specs.Checks.{part_count_refusal}
use Rattle.answer.specs.Outcome.{refuse, Verdict}
use Rattle.theory_sets.specs.Masks.{has}
use Rattle.theory_sums.specs.Sums.{some}
use Rattle.codec.specs.Fields.{top}
use Rattle.codec.specs.declared.Field.TheVariants.{PartNumber}

-- the most parts of a machine
abbrev pub most_parts : ℕ
most_parts = 16

-- the top part number: the largest that a record can hold, 2^48-1
abbrev pub top_number : ℕ
top_number = top PartNumber

-- strictly rising, each above `low` and none above `high`
abbrev pub RisingWithin : ℕ → ℕ → List ℕ → Type 0
RisingWithin low high [] = Unit
RisingWithin low high (number ∷ numbers) = (low < number) × (number ≤ high) × RisingWithin number high numbers

-- What 01 asks of a part list: 1 to 16 part numbers, strictly rising, 1 or more, none above the mark, and the mark no higher than the top
-- number.
pub record Rules (count mark : ℕ) (numbers : List ℕ) : Type 0 where
  pub some : 1 ≤ count
  pub few : count ≤ most_parts
  pub rising : RisingWithin 0 mark numbers
  pub top : mark ≤ top_number

-- a part number that 23 refuses: not above the one before it (0 before the first), or above the mark or the top number
abbrev pub misnumbered : ℕ → ℕ → ℕ → Bool
misnumbered previous mark number = cond (leb number previous) true (cond (ltb mark number) true (ltb top_number number))

-- 23 at the index of the first wrong number. Behind the last number the mark, itself a part number, is held against the top number.
abbrev pub numbers_refusal : ℕ → ℕ → ℕ → List ℕ → Verdict
numbers_refusal previous mark index [] = refuse (ltb top_number mark) WrongPartNumber index (Ok tt)
numbers_refusal previous mark index (number ∷ numbers) =
    refuse (misnumbered previous mark number) WrongPartNumber index (numbers_refusal number mark (suc index) numbers)

-- the first refusal of a part list: 1 for its count, and then 23
unfoldable pub part_list_refusal : ℕ → ℕ → List ℕ → Verdict
part_list_refusal count mark numbers = part_count_refusal 0 count (numbers_refusal 0 mark 0 numbers)

-- a number is one of some numbers: it names a part of a set of part numbers
abbrev pub names : ℕ → List ℕ → Bool
names number numbers = some (λ other. eqb number other) numbers

-- the highest of some numbers
abbrev pub highest : List ℕ → ℕ
highest [] = 0
highest (number ∷ numbers) = max number (highest numbers)

-- where these are the numbers by position: the numbers of a set of positions, each of which the bit is set,
unfoldable pub named : List ℕ → ℕ → List ℕ
named [] set = []
named (number ∷ numbers) set = cond (has set 0) (number ∷ named numbers (set / 2)) (named numbers (set / 2))

-- and the others, in order
unfoldable pub others : List ℕ → ℕ → List ℕ
others [] set = []
others (number ∷ numbers) set = cond (has set 0) (others numbers (set / 2)) (number ∷ others numbers (set / 2))

-- the cells of a list of these numbers: the spare ones behind the last number hold 0
abbrev pub cells_of : List ℕ → List ℕ
cells_of numbers = numbers ++ replicate (most_parts - length numbers) 0
