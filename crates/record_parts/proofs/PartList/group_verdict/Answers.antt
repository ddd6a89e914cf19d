-- `record_parts::PartList::group_verdict` meets its contract: the list is judged first, then the group by 15 and 16, and 18 asks whether it has
-- as many parts as the list.
-- Assumes nothing.
use mathlib.Core.Path.{◌≡◌, sym, ◌∙◌, subst, ap}
use Prim.Native.Nat.{ℕ, ◌+◌, ◌^◌, ◌<◌}
use native.Mathlib.Omega.{arith}
use borrow.Author.Tests.{eq-eqb, ne_eqb}
use lib.Dec.{eqb}
use lib.ListN.{length}
use Rattle.std.specs.Prelude.{Ok, Err}
use Rattle.answer.specs.declared.Reason.TheVariants.{InEverySet}
use Rattle.answer.specs.Outcome.{refuse, and_then, Verdict}
use Rattle.answer.proofs.Outcomes.{then_refused, then_passed, refuse_held, refuse_passed}
use Rattle.answer.proofs.Checks.{group_passed, group_right, group_refused}
use Rattle.record_numbers.specs.Numbering.{others}
use Rattle.record_parts.specs.declared.PartList.{PartList}
use Rattle.record_parts.specs.PartLists.{numbers_of}
use Rattle.record_parts.specs.Changes.{broken_refusal, take_out_group_refusal}
use Rattle.record_parts.proofs.LeftOut.{others_counted}
use Rattle.record_parts.proofs.Changing.{usable}
use Rattle.record_parts.proofs.PartList.group_verdict.Goals as goal
use Rattle.record_parts.proofs.PartList.group_verdict.Goals.{After-size}

-- `record_parts::PartList::group_verdict` meets its contract: the list is judged first, then the group by 15 and 16, and 18 asks whether it has
-- as many parts as the list.
-- Assumes nothing.

-- where the list keeps the rules, what the group is refused for is the answer
judged_group : (list : PartList) (group : ℕ) → broken_refusal list ≡ Ok tt
    → and_then (broken_refusal list) (take_out_group_refusal list group) ≡ take_out_group_refusal list group
judged_group list group is_whole = then_passed (take_out_group_refusal list group) is_whole

-- where 15 and 16 let the group through: what is asked last is whether no part is left
module _ (c : After-size) where
  abbrev list : PartList
  list = c.args.self

  abbrev group : ℕ
  group = c.args.group

  sound : broken_refusal list ≡ Ok tt
  sound = sym c.judged-verdict.ensures ∙ c.in_default.is

  abbrev left : ℕ
  left = length (others (numbers_of list) group)

  known : (0 < group) × (group < 2 ^ list.count) × (◌≡◌ {A = Verdict} (Ok tt) (Ok tt))
  known = group_right list.count group (Ok tt) (sym c.group_verdict-known.ensures ∙ c.in_default-known.is)

  passed : and_then (broken_refusal list) (take_out_group_refusal list group) ≡ refuse (eqb left 0) InEverySet 0 (Ok tt)
  passed = judged_group list group sound ∙ group_passed list.count group (refuse (eqb left 0) InEverySet 0 (Ok tt)) known.0 known.1

  counted : left + c.size.result ≡ list.count
  counted =
      let n = (usable list _ c.well_formed.0 sound).counted in
      omega (arith, others_counted (numbers_of list) group (subst (λ (x : ℕ). group < 2 ^ x) (sym n) known.1), c.size.ensures)

pub returns-in-Err : goal.returns-in-Err
returns-in-Err c =
    let a = c.args in
    sym (then_refused (take_out_group_refusal a.self a.group) (sym c.judged-verdict.ensures ∙ c.in-Err.is))

pub returns-in-Err-known : goal.returns-in-Err-known
returns-in-Err-known c =
    let a = c.args in
    sym (judged_group a.self a.group (sym c.judged-verdict.ensures ∙ c.in_default.is)
    ∙ group_refused a.self.count a.group (Ok tt) _ _ (sym c.group_verdict-known.ensures ∙ c.in-Err-known.is)
    (λ e. let z : ◌≡◌ {A = ℕ} 0 1 = cc e in absurd (omega arith)))

pub returns-then-size-count : goal.returns-then-size-count
returns-then-size-count c =
    let here = (goal.at.returns-then-size-count c).After-size in
    (ap Err c.at.ensures)
    ∙ sym (passed here ∙ refuse_held (eqb (left here) 0) InEverySet 0 (Ok tt) (eq-eqb (left here) 0 (omega (arith, counted here, c.if-size-count.true))))

pub returns : goal.returns
returns c =
    let here = (goal.at.returns c).After-size in
    sym (passed here ∙ refuse_passed (eqb (left here) 0) InEverySet 0 (Ok tt) (ne_eqb (left here) 0 (λ e. c.if-size-count.false (omega (arith, counted here)))))
