-- Parts by their numbers: the position of the part that has a number, and the mask of some parts that are wanted. The numbers of the parts stand
-- by position, as reading a record hands them out.
use Rattle.std.specs.Prelude.{not, cond, List, [], ◌∷◌, ℕ, suc, ◌+◌, ◌*◌, ◌^◌, leb, eqb, length, Ok}
use Rattle.answer.specs.declared.Reason.TheVariants.{UnknownGroupPart, UnknownPosition, RepeatedPosition}
use Rattle.answer.specs.Outcome.{refuse, valued, Numbered, Verdict}
use Rattle.answer.specs.Checks.{part_count_refusal}
use Rattle.record_lines.specs.Changes.{every}
use Rattle.record_lines.specs.Names.{repeated}
use Rattle.record_numbers.specs.Numbering.{names}

-- ---- one part

-- the position at which a number stands, where the first one is counted `first`; 0 where it stands nowhere
unfoldable pub position_from : ℕ → ℕ → List ℕ → ℕ
position_from first number [] = 0
position_from first number (other ∷ numbers) = cond (eqb number other) first (position_from (suc first) number numbers)

-- the position of the part with a number, from 1
abbrev pub position_of : List ℕ → ℕ → ℕ
position_of numbers number = position_from 1 number numbers

-- and 17 where no part has it
abbrev pub found_position : List ℕ → ℕ → Numbered
found_position numbers number = valued (refuse (eqb (position_of numbers number) 0) UnknownPosition 0 (Ok tt)) (position_of numbers number)

-- ---- several parts

-- the mask of the positions whose number is wanted
unfoldable pub mask_of : List ℕ → List ℕ → ℕ
mask_of [] wanted = 0
mask_of (number ∷ numbers) wanted = cond (names number wanted) 1 0 + 2 * mask_of numbers wanted

-- 17: a wanted number is no part's; 28: one stands twice among the wanted
abbrev pub wanted_refusal : List ℕ → List ℕ → Verdict
wanted_refusal numbers wanted =
    refuse (not (every (λ number. names number numbers) wanted)) UnknownPosition 0 (refuse (repeated wanted) RepeatedPosition 0 (Ok tt))

-- the mask of the parts that are wanted: 1 for how many parts there are, 17, 28
abbrev pub mask_of_refusal : List ℕ → List ℕ → Verdict
mask_of_refusal numbers wanted = part_count_refusal 0 (length numbers) (wanted_refusal numbers wanted)

abbrev pub found_mask : List ℕ → List ℕ → Numbered
found_mask numbers wanted = valued (mask_of_refusal numbers wanted) (mask_of numbers wanted)

-- the numbers of a mask of positions, which are `named`: 1, and 16 where it has bit n or above
abbrev pub named_refusal : List ℕ → ℕ → Verdict
named_refusal numbers mask = part_count_refusal 0 (length numbers) (refuse (leb (2 ^ length numbers) mask) UnknownGroupPart 0 (Ok tt))
