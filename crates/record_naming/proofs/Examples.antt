-- The definitions on parts 3, 7 and 12, whose part 5 left: they compute.
-- Assumes nothing.
use mathlib.Core.Path.{◌≡◌, refl}
use mathlib.Core.List.{List, [], ◌∷◌, map}
use Prim.Native.Nat.{ℕ}
use Rattle.std.specs.Prelude.{Ok, Err}
use Rattle.answer.specs.declared.Reason.TheVariants.{WrongPartCount, UnknownGroupPart, UnknownPosition, RepeatedPosition}
use Rattle.answer.specs.Outcome.{at}
use Rattle.theory_sets.specs.Masks.{has}
use Rattle.theory_sums.specs.Sums.{some}
use Rattle.record_numbers.specs.Numbering.{named}
use Rattle.record_naming.specs.Naming.{position_from, found_position, mask_of, found_mask, named_refusal}

abbrev parts : List ℕ
parts = 3 ∷ 7 ∷ 12 ∷ []

-- a part number is no position
positions : map (found_position parts) (12 ∷ 3 ∷ 1 ∷ 5 ∷ 0 ∷ []) ≡ Ok 3 ∷ Ok 1 ∷ Err (at UnknownPosition 0) ∷ Err (at UnknownPosition 0) ∷ Err (at UnknownPosition 0) ∷ []
unfolding position_from
positions = refl

-- in any order; none; one that is no part's; one that stands twice; both, of which 17 comes first
masks : map (found_mask parts) ((12 ∷ 3 ∷ []) ∷ [] ∷ (3 ∷ 5 ∷ []) ∷ (7 ∷ 3 ∷ 7 ∷ []) ∷ (7 ∷ 7 ∷ 5 ∷ []) ∷ [])
    ≡ Ok 5 ∷ Ok 0 ∷ Err (at UnknownPosition 0) ∷ Err (at RepeatedPosition 0) ∷ Err (at UnknownPosition 0) ∷ []
unfolding mask_of some
masks = refl

-- no parts at all
no_parts : found_mask [] [] ≡ Err (at WrongPartCount 0)
unfolding mask_of some
no_parts = refl

-- and back
numbers : map (named parts) (5 ∷ 0 ∷ 7 ∷ []) ≡ (3 ∷ 12 ∷ []) ∷ [] ∷ parts ∷ []
unfolding named has
numbers = refl

beyond : map (named_refusal parts) (7 ∷ 8 ∷ []) ≡ Ok tt ∷ Err (at UnknownGroupPart 0) ∷ []
beyond = refl
