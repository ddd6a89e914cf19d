-- `record_parts::PartList::take_out` meets its contract: at each `return` the tests that led there say which check refuses, if any. The position
-- is one of a list that keeps the rules, and the list is without the group of the part at it.
-- Assumes nothing.
use mathlib.Core.Path.{◌≡◌, sym, ap, ap₂, ◌∙◌, subst}
use Prim.Native.Nat.{ℕ, ◌-◌, ◌^◌, ◌<◌}
use native.Mathlib.Omega.{arith}
use borrow.Author.Tests.{eq-eqb, ne_eqb, lt-ltb, le-ltb}
use lib.ListN.{get_or}
use lib.Pow.{pow-lt}
use lib.Seq.{get_or-take}
use Rattle.std.specs.Prelude.{Ok}
use Rattle.record_parts.specs.declared.PartList.{PartList}
use Rattle.record_parts.specs.PartLists.{numbers_of}
use Rattle.numbers.proofs.Counts.{up_to_16_given}
use Rattle.record_parts.specs.Changes.{changed, single, take_out_refusal, list_without, without_part, taken_out}
use Rattle.record_parts.proofs.Changing.{change_broken, change_refused, change_made, Usable, usable}
use Rattle.record_parts.proofs.PartList.take_out.Goals as goal
use Rattle.record_parts.proofs.PartList.take_out.Goals.{After-power_of_two-group, Else-count-eq1}

pub returns-in-Err : goal.returns-in-Err
unfolding taken_out
returns-in-Err c =
    let a = c.args in
    c.unchanged.ensures
    ∙ sym (change_broken a.self (take_out_refusal a.self a.position) (without_part a.self a.position) _
    (sym c.judged-verdict.ensures ∙ c.in-Err.is))

pub returns-then-position-eq0 : goal.returns-then-position-eq0
unfolding taken_out
returns-then-position-eq0 c =
    let a = c.args in
    c.unchanged-then-position-eq0.ensures
    ∙ sym (change_refused a.self (take_out_refusal a.self a.position) (without_part a.self a.position) _
    (sym c.judged-verdict.ensures ∙ c.in_default.is)
    (simp (eq-eqb _ _ c.if-position-eq0.true)))

pub returns-then-count-position : goal.returns-then-count-position
unfolding taken_out
returns-then-count-position c =
    let a = c.args in
    c.unchanged-then-count-position.ensures
    ∙ sym (change_refused a.self (take_out_refusal a.self a.position) (without_part a.self a.position) _
    (sym c.judged-verdict.ensures ∙ c.in_default.is)
    (simp (ne_eqb _ _ c.if-position-eq0.false, lt-ltb _ _ c.if-count-position.true)))

pub returns-then-count-eq1 : goal.returns-then-count-eq1
unfolding taken_out
returns-then-count-eq1 c =
    let a = c.args in
    c.unchanged-then-count-eq1.ensures
    ∙ sym (change_refused a.self (take_out_refusal a.self a.position) (without_part a.self a.position) _
    (sym c.judged-verdict.ensures ∙ c.in_default.is)
    (simp (ne_eqb _ _ c.if-position-eq0.false, le-ltb _ _ c.if-count-position.false, eq-eqb _ _ c.if-count-eq1.true)))

-- where the list is changed it keeps the rules
abbrev self : Else-count-eq1 → PartList
self c = c.args.self

abbrev position : Else-count-eq1 → ℕ
position c = c.args.position

whole : (c : Else-count-eq1) → Usable (self c)
whole c =
    usable (self c) _ c.well_formed.0 (sym c.judged-verdict.ensures ∙ c.in_default.is)

-- and the position is one of its own
within : (c : Else-count-eq1) → position c - 1 < (self c).count
within c = omega (arith, c.if-position-eq0.false, c.if-count-position.false)

pub offset_bounds-numbers-position : goal.offset_bounds-numbers-position
offset_bounds-numbers-position c =
    let here = (goal.at.offset_bounds-numbers-position c).Else-count-eq1 in
    omega (arith, within here, (whole here).rules.few)

pub bounds-numbers-position : goal.bounds-numbers-position
bounds-numbers-position c =
    let here = (goal.at.bounds-numbers-position c).Else-count-eq1 in
    omega (arith, within here, (whole here).rules.few, (whole here).all)

-- the group of the part at the position
group_given : (c : After-power_of_two-group) → c.power_of_two-group.result ≡ single c.args.position
group_given c =
    let position = c.args.position in
    let rules = (usable c.args.self _ c.well_formed.0 (sym c.judged-verdict.ensures ∙ c.in_default.is)).rules in
    c.power_of_two-group.ensures ∙ up_to_16_given (position - 1) (single position) (omega (arith, c.if-position-eq0.false, c.if-count-position.false, rules.few))

pub without-requires : goal.without-requires
without-requires c =
    let here = (goal.at.without-requires c).Else-count-eq1 in
    record {
      count_le_most_parts = (whole here).rules.few;
      group_bound = subst (λ (g : ℕ). g < 2 ^ (self here).count) (sym (group_given (goal.at.without-requires c).After-power_of_two-group)) (pow-lt (within here));
    }

pub returns : goal.returns
unfolding taken_out
returns c =
    let here = (goal.at.returns c).Else-count-eq1 in
    let list = self here in
    let number : get_or list.numbers (position here - 1) 0 ≡ get_or (numbers_of list) (position here - 1) 0 =
    sym (get_or-take list.count list.numbers (position here - 1) 0 (within here)) in
    ap₂ (λ (new : PartList) (taken : ℕ). changed new (Ok taken)) (c.without.ensures ∙ ap (λ (g : ℕ). list_without g list) (group_given (goal.at.returns c).After-power_of_two-group)) number
    ∙ sym (change_made list (take_out_refusal list (position here)) (without_part list (position here)) (sym c.judged-verdict.ensures ∙ c.in_default.is)
    (simp (ne_eqb _ _ c.if-position-eq0.false, le-ltb _ _ c.if-count-position.false, ne_eqb _ _ c.if-count-eq1.false)))
