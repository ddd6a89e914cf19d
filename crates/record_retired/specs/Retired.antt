-- The retired part numbers of a record (02, §8): the numbers of parts that left, rising, the highest 64 of them.
use Rattle.std.specs.Prelude.{cond, List, [], ◌∷◌, ◌++◌, ℕ, ◌-◌, ◌≤◌, ltb, length, drop, replicate}
use Rattle.record_numbers.specs.Numbering.{RisingWithin}
use Rattle.record_parts.specs.Lines.{In}
use Rattle.record_retired.specs.declared.Retired.{Retired}

-- the most retired numbers of a record
abbrev pub most_retired : ℕ
most_retired = 64

-- a number put in front of the first that is above it
unfoldable pub inserted : ℕ → List ℕ → List ℕ
inserted number [] = number ∷ []
inserted number (other ∷ others) = cond (ltb number other) (number ∷ (other ∷ others)) (other ∷ inserted number others)

-- the last 64: where there are more, the lowest are dropped
unfoldable pub kept : List ℕ → List ℕ
kept numbers = drop (length numbers - most_retired) numbers

-- A number filed: "if that makes 65, the lowest of the 65 is dropped, even when it is the one just filed".
abbrev pub filed : ℕ → List ℕ → List ℕ
filed number retired = kept (inserted number retired)

-- the numbers that left, filed one after the other
unfoldable pub filed_all : List ℕ → List ℕ → List ℕ
filed_all [] retired = retired
filed_all (number ∷ numbers) retired = filed_all numbers (filed number retired)

-- What 02 asks of the retired numbers, beside the mark and the part numbers in use: at most 64, strictly rising, none 0, none above the mark and
-- none in use.
pub record RetiredRules (mark : ℕ) (in_use retired : List ℕ) : Type 0 where
  pub most : length retired ≤ most_retired
  pub rising : RisingWithin 0 mark retired
  pub unused : (number : ℕ) → In number retired → In number in_use → ⊥

-- these numbers in front of the cells; the spare ones behind the last hold 0
abbrev pub retired_of : List ℕ → Retired
retired_of numbers = record { count = length numbers; numbers = numbers ++ replicate (most_retired - length numbers) 0 }
