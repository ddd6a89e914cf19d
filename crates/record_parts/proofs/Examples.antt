-- The definitions at the edges of the refusals 1, 15 to 20 and 23, and lines of changes: they compute.
-- Assumes nothing.
use mathlib.Core.Path.{◌≡◌, refl}
use mathlib.Core.List.{List, [], ◌∷◌}
use Prim.Native.Nat.{ℕ, ◌+◌, ◌-◌, ◌^◌}
use lib.ListN.{replicate}
use Rattle.std.specs.Prelude.{Ok, Err}
use Rattle.answer.specs.declared.Reason.{Reason}
use Rattle.answer.specs.declared.Reason.TheVariants.{WrongPartCount, EmptyGroup, UnknownGroupPart, UnknownPosition, InEverySet, FullMachine, NumbersSpent, WrongPartNumber}
use Rattle.answer.specs.Outcome.{at}
use Rattle.record_parts.specs.declared.PartList.{PartList}
use Rattle.record_parts.specs.declared.Listed.{Listed}
use Rattle.theory_sets.specs.Masks.{has}
use Rattle.record_numbers.specs.Numbering.{top_number, part_list_refusal, highest, named, others}
use Rattle.record_parts.specs.PartLists.{list_of, listing, made}
use Rattle.record_parts.specs.Changes.{part_added, taken_out, group_taken_out}
use Rattle.record_parts.specs.Lines.{add_part, take_out, take_out_group, last_of, issued_by, left_by}

-- mark 0: no part number can be right
no_mark : (made 0 (1 ∷ [])).verdict ≡ Err (at WrongPartNumber 0)
unfolding part_list_refusal made part_added taken_out
no_mark = refl

number_zero : (made 5 (0 ∷ [])).verdict ≡ Err (at WrongPartNumber 0)
unfolding part_list_refusal made part_added taken_out
number_zero = refl

above_the_mark : (made 5 (1 ∷ 6 ∷ [])).verdict ≡ Err (at WrongPartNumber 1)
unfolding part_list_refusal made part_added taken_out
above_the_mark = refl

not_rising : (made 5 (3 ∷ 2 ∷ [])).verdict ≡ Err (at WrongPartNumber 1)
unfolding part_list_refusal made part_added taken_out
not_rising = refl

-- equal to the mark is right, and so is a mark above all numbers
at_the_mark : (made 5 (5 ∷ [])).verdict ≡ Ok tt
unfolding part_list_refusal made part_added taken_out
at_the_mark = refl

under_the_mark : (made 9 (3 ∷ [])).list ≡ list_of 9 (3 ∷ [])
unfolding part_list_refusal made part_added taken_out
under_the_mark = refl

no_numbers : (made 5 []).verdict ≡ Err (at WrongPartCount 0)
unfolding part_list_refusal made part_added taken_out
no_numbers = refl

seventeen_numbers : (made 5 (replicate 17 0)).verdict ≡ Err (at WrongPartCount 0)
unfolding part_list_refusal made part_added taken_out
seventeen_numbers = refl

-- a first list
first_mark : (made (highest (2 ∷ 5 ∷ 7 ∷ [])) (2 ∷ 5 ∷ 7 ∷ [])).list.mark ≡ 7
unfolding part_list_refusal made part_added taken_out
first_mark = refl

first_top : (made (highest (1 ∷ top_number ∷ [])) (1 ∷ top_number ∷ [])).verdict ≡ Ok tt
unfolding part_list_refusal made part_added taken_out
first_top = refl

first_over : (made (highest (1 ∷ (top_number + 1) ∷ [])) (1 ∷ (top_number + 1) ∷ [])).verdict ≡ Err (at WrongPartNumber 1)
unfolding part_list_refusal made part_added taken_out
first_over = refl

-- the bridge: the highest part leaves, the mark stays, and the next part gets 6
abbrev bridge : PartList
bridge = list_of 5 (1 ∷ 2 ∷ 3 ∷ 4 ∷ 5 ∷ [])

highest_leaves : (taken_out bridge 5).list ≡ list_of 5 (1 ∷ 2 ∷ 3 ∷ 4 ∷ [])
unfolding part_list_refusal made part_added taken_out others has
highest_leaves = refl

next_is_six : last_of (take_out 5 ∷ add_part ∷ []) bridge ≡ list_of 6 (1 ∷ 2 ∷ 3 ∷ 4 ∷ 6 ∷ [])
unfolding part_list_refusal made part_added taken_out others has
next_is_six = refl

-- mark+1, and not one more than the highest part
after_the_mark : (part_added (list_of 9 (3 ∷ []))).list ≡ list_of 10 (3 ∷ 10 ∷ [])
unfolding part_list_refusal made part_added taken_out
after_the_mark = refl

-- 17 at 0 and at n+1, and before 18
position_zero : (taken_out bridge 0).answer ≡ Err (at UnknownPosition 0)
unfolding part_list_refusal made part_added taken_out
position_zero = refl

position_six : (taken_out bridge 6).answer ≡ Err (at UnknownPosition 0)
unfolding part_list_refusal made part_added taken_out
position_six = refl

past_the_only_part : (taken_out (list_of 1 (1 ∷ [])) 2).answer ≡ Err (at UnknownPosition 0)
unfolding part_list_refusal made part_added taken_out
past_the_only_part = refl

the_only_part : (taken_out (list_of 1 (1 ∷ [])) 1).answer ≡ Err (at InEverySet 0)
unfolding part_list_refusal made part_added taken_out
the_only_part = refl

-- 20 looks at the mark, and 19 comes before it
spent : (part_added (list_of top_number (1 ∷ []))).answer ≡ Err (at NumbersSpent 0)
unfolding part_list_refusal made part_added taken_out
spent = refl

-- and 2^32-1 is no end any more
old_top : (part_added (list_of (2 ^ 32 - 1) (1 ∷ []))).answer ≡ Ok (2 ^ 32)
unfolding part_list_refusal made part_added taken_out
old_top = refl

abbrev sixteen : List ℕ
sixteen = 1 ∷ 2 ∷ 3 ∷ 4 ∷ 5 ∷ 6 ∷ 7 ∷ 8 ∷ 9 ∷ 10 ∷ 11 ∷ 12 ∷ 13 ∷ 14 ∷ 15 ∷ 16 ∷ []

full_and_spent : (part_added (list_of top_number sixteen)).answer ≡ Err (at FullMachine 0)
unfolding part_list_refusal made part_added taken_out
full_and_spent = refl

-- built by hand: a count of 40, and numbers that do not rise
forty : (part_added (record { count = 40; mark = 9; numbers = sixteen })).answer ≡ Err (at WrongPartCount 0)
unfolding part_list_refusal made part_added taken_out
forty = refl

falling : (taken_out (record { count = 2; mark = 9; numbers = 3 ∷ 2 ∷ replicate 14 0 }) 9).answer ≡ Err (at WrongPartNumber 1)
unfolding part_list_refusal made part_added taken_out
falling = refl

-- a refused change inside a line leaves the list, and the line goes on
line_issued : issued_by (add_part ∷ take_out 9 ∷ take_out 2 ∷ add_part ∷ []) bridge ≡ 6 ∷ 7 ∷ []
unfolding part_list_refusal made part_added taken_out others has
line_issued = refl

line_left : left_by (add_part ∷ take_out 9 ∷ take_out 2 ∷ take_out 2 ∷ []) bridge ≡ 2 ∷ 3 ∷ []
unfolding part_list_refusal made part_added taken_out others has
line_left = refl

-- a list that stays as it was
abbrev refused_as : PartList → Reason → ℕ → Listed
refused_as list reason place = record { list = list; verdict = Err (at reason place) }

-- groups: the third and the fifth part leave together; 15 for none, 16 for a position behind the last, 18 for all parts, and a list that breaks the
-- rules before all these
abbrev outcomes : List Listed
outcomes =
    group_taken_out bridge 20 ∷ group_taken_out bridge 0 ∷ group_taken_out bridge 36 ∷ group_taken_out bridge 31
    ∷ group_taken_out (record { count = 40; mark = 9; numbers = sixteen }) 0 ∷ []

groups :
    outcomes
    ≡ listing (Ok tt) (list_of 5 (1 ∷ 2 ∷ 4 ∷ [])) ∷ refused_as bridge EmptyGroup 0 ∷ refused_as bridge UnknownGroupPart 0 ∷ refused_as bridge InEverySet 0
    ∷ refused_as (record { count = 40; mark = 9; numbers = sixteen }) WrongPartCount 0 ∷ []
unfolding part_list_refusal group_taken_out others has
groups = refl

-- the numbers of a group leave together, and none of them is issued again
group_line : left_by (take_out_group 20 ∷ add_part ∷ take_out_group 9 ∷ take_out_group 4 ∷ []) bridge ≡ 3 ∷ 5 ∷ 1 ∷ 6 ∷ []
unfolding part_list_refusal made part_added taken_out group_taken_out named others has
group_line = refl

group_issued : issued_by (take_out_group 20 ∷ add_part ∷ take_out_group 9 ∷ add_part ∷ []) bridge ≡ 6 ∷ 7 ∷ []
unfolding part_list_refusal made part_added taken_out group_taken_out others has
group_issued = refl
