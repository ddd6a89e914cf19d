-- Changes of a design (01, "Records on disk"; 02, §2 and §8): add part, take out the part at a position or the parts of a group, add set, and
-- another edition, which leaves the design as it is; and designs to start from.
use Rattle.std.specs.Prelude.{Bool, true, not, cond, ◌&&◌, List, [], ◌∷◌, map, ℕ, ◌+◌, ltb, eqb, length, Ok}
use Rattle.answer.specs.declared.Reason.TheVariants.{UnknownPosition, InEverySet}
use Rattle.answer.specs.Outcome.{refuse, Verdict}
use Rattle.answer.specs.Checks.{mask_refusal, group_refusal}
use Rattle.numbers.specs.Tables.{tabulate}
use Rattle.record_parts.specs.PartLists.{numbers_of, list_of}
use Rattle.record_numbers.specs.Numbering.{most_parts, named}
use Rattle.record_parts.specs.Changes.{add_refusal, part_added, single, list_without}
use Rattle.masks.specs.Groups.{meets, squeezed}
use Rattle.theory_sets.specs.Structures.{listed, minimal_sets}
use Rattle.record.specs.Records.{Design, design}
use Rattle.record_editions.specs.declared.Edition.{Edition}

-- a change of a record: one part more; the part at a position, from 1, taken out; the parts of a group taken out, a mask of positions; one path
-- set more, as a mask; the same design in another edition
pub data Change : Type 0 where
  add_part : Change
  take_out : ℕ → Change
  take_out_group : ℕ → Change
  add_set : ℕ → Change
  convert : Edition → Change

-- ---- without a group of parts

-- those of a list that pass a test, in order
abbrev pub keep : {A : Type 0} → (A → Bool) → List A → List A
keep test [] = []
keep test (x ∷ xs) = cond (test x) (x ∷ keep test xs) (keep test xs)

-- every one of a list passes a test
abbrev pub every : {A : Type 0} → (A → Bool) → List A → Bool
every test [] = true
every test (x ∷ xs) = test x && every test xs

-- the parts of a group are held failed: "Sets naming it go, higher positions move down by one"
unfoldable pub sets_without : ℕ → List ℕ → List ℕ
sets_without group sets = map (squeezed most_parts group) (keep (λ set. not (meets group set)) sets)

-- a design without the parts of a group; "part numbers and mark stay"
abbrev pub design_without : ℕ → Design → Design
design_without group d = design (list_without group d.parts) (sets_without group d.sets)

-- ---- what refuses a change, at place 0

-- 18: every set names a part of the group
abbrev pub without_refusal : ℕ → Design → Verdict
without_refusal group d = refuse (every (meets group) d.sets) InEverySet 0 (Ok tt)

-- 17: the position is not 1 to n; then 18 for the part at it
abbrev pub take_out_refusal : ℕ → Design → Verdict
take_out_refusal position d =
    refuse (eqb position 0) UnknownPosition 0
    (refuse (ltb d.parts.count position) UnknownPosition 0 (without_refusal (single position) d))

-- 15 and 16 of the group, in the place of 17; then 18
abbrev pub take_out_group_refusal : ℕ → Design → Verdict
take_out_group_refusal group d = group_refusal d.parts.count group (without_refusal group d)

-- a set that is added to a machine of n parts, 4: bit n or above; 5: mask 0
abbrev pub new_set_refusal : ℕ → ℕ → Verdict
new_set_refusal n set = mask_refusal n 0 set (Ok tt)

abbrev pub add_set_refusal : ℕ → Design → Verdict
add_set_refusal set d = new_set_refusal d.parts.count set

-- adding a part has the refusals of its part list, 19 before 20; nothing of a design refuses another edition
abbrev pub change_refusal : Change → Design → Verdict
change_refusal add_part d = add_refusal d.parts
change_refusal (take_out position) d = take_out_refusal position d
change_refusal (take_out_group group) d = take_out_group_refusal group d
change_refusal (add_set set) d = add_set_refusal set d
change_refusal (convert edition) d = (Ok tt)

-- ---- what a change gives where nothing refuses it

-- add part: the sets stay; take out: the part or the group is held failed; add set: the minimal sets of the old ones and the new one
abbrev pub changed : Change → Design → Design
changed add_part d = design (part_added d.parts).list d.sets
changed (take_out position) d = design_without (single position) d
changed (take_out_group group) d = design_without group d
changed (add_set set) d = design d.parts (minimal_sets d.parts.count (listed (set ∷ d.sets)))
changed (convert edition) d = d

-- the numbers that leave in a change, if any
abbrev pub left_in : Change → Design → List ℕ
left_in add_part d = []
left_in (take_out position) d = named (numbers_of d.parts) (single position)
left_in (take_out_group group) d = named (numbers_of d.parts) group
left_in (add_set set) d = []
left_in (convert edition) d = []

-- a design of parts that already have numbers, with a list of sets as in the list form: these numbers, this mark, the minimal sets
abbrev pub entered_design : ℕ → List ℕ → List ℕ → Design
entered_design mark numbers list = design (list_of mark numbers) (minimal_sets (length numbers) (listed list))

-- a first design, of n parts and a list of sets as in the list form: part numbers 1 to n, mark n, the minimal sets
abbrev pub first_design : ℕ → List ℕ → Design
first_design n list = design (list_of n (tabulate n (λ i. i + 1))) (minimal_sets n (listed list))
