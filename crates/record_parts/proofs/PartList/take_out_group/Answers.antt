-- `record_parts::PartList::take_out_group` meets its contract: the verdict decides, and where it accepts, the list is without the group.
-- Assumes nothing.
use mathlib.Core.Path.{◌≡◌, sym, ap, ◌∙◌}
use Prim.Native.Nat.{ℕ, ◌^◌, ◌<◌}
use Rattle.std.specs.Prelude.{Ok}
use Rattle.answer.specs.Outcome.{and_then, Verdict}
use Rattle.answer.proofs.Outcomes.{then_accepted}
use Rattle.record_parts.specs.declared.PartList.{PartList}
use Rattle.record_parts.specs.PartLists.{listed_or, listing}
use Rattle.record_parts.specs.Changes.{broken_refusal, take_out_group_refusal, list_without, group_taken_out}
use Rattle.record_parts.proofs.OneChange.{take_out_group_accepted}
use Rattle.record_parts.proofs.Changing.{Usable, usable}
use Rattle.record_parts.proofs.PartList.take_out_group.Goals as goal
use Rattle.record_parts.proofs.PartList.take_out_group.Goals.{In_default}

-- `record_parts::PartList::take_out_group` meets its contract: the verdict decides, and where it accepts, the list is without the group.
-- Assumes nothing.

-- where nothing refuses the change
module _ (told : In_default) where
  abbrev list : PartList
  list = told.args.self

  abbrev group : ℕ
  group = told.args.group

  made : and_then (broken_refusal list) (take_out_group_refusal list group) ≡ Ok tt
  made = sym told.group_verdict-verdict.ensures ∙ told.in_default.is

  -- the list keeps the rules
  kept : Usable list
  kept = usable list _ told.well_formed.0 (then_accepted (broken_refusal list) (take_out_group_refusal list group) made).0

  -- and the group is one of its parts
  within : group < 2 ^ list.count
  within = (take_out_group_accepted list group (then_accepted (broken_refusal list) (take_out_group_refusal list group) made).1).1

pub returns-in-Err : goal.returns-in-Err
unfolding group_taken_out
returns-in-Err c =
    let a = c.args in
    ap (λ (x : Verdict). listed_or a.self x (list_without a.group a.self)) (sym c.in-Err.is ∙ c.group_verdict-verdict.ensures)

pub without-requires : goal.without-requires
without-requires c =
    let here = (goal.at.without-requires c).In_default in
    record {
      count_le_most_parts = (kept here).rules.few;
      group_bound = within here;
    }

pub returns : goal.returns
unfolding group_taken_out
returns c =
    let here = (goal.at.returns c).In_default in
    ap (listing (Ok tt)) c.without.ensures ∙ ap (λ (v : Verdict). listed_or (list here) v (list_without (group here) (list here))) (sym (made here))
