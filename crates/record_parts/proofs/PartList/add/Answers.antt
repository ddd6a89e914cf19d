-- `record_parts::PartList::add` meets its contract: at each `return` the tests that led there say which check refuses, if any. A list that keeps
-- the rules and has fewer than 16 parts has a spare cell, and its mark, not the top number, can rise.
-- Assumes nothing.
use mathlib.Core.Path.{◌≡◌, sym, ap, ap₂, ◌∙◌}
use mathlib.Core.List.{List, [], ◌∷◌, ◌++◌}
use Prim.Native.Nat.{ℕ, ◌+◌, ◌<◌}
use native.Mathlib.Omega.{arith}
use borrow.Author.Tests.{eq-eqb, ne_eqb}
use lib.ListN.{length, set, length-append}
use Rattle.std.specs.Prelude.{Ok}
use Rattle.record_parts.specs.declared.PartList.{PartList}
use Rattle.answer.proofs.FixedCells.{cells_more}
use Rattle.record_numbers.specs.Numbering.{most_parts, cells_of}
use Rattle.record_parts.specs.PartLists.{numbers_of}
use Rattle.record_parts.specs.Changes.{changed, add_refusal, with_part, part_added}
use Rattle.record_parts.proofs.LeftOut.{others_all}
use Rattle.record_parts.proofs.InCells.{cells_few}
use Rattle.record_parts.proofs.Changing.{change_broken, change_refused, change_made, Usable, usable}
use Rattle.record_parts.proofs.PartList.add.Goals as goal
use Rattle.record_parts.proofs.PartList.add.Goals.{Else-mark-eq-TOP_NUMBER}

pub returns-in-Err : goal.returns-in-Err
unfolding part_added
returns-in-Err c =
    let list = c.args.self in
    c.unchanged.ensures
    ∙ sym (change_broken list (add_refusal list) (with_part list) _ (sym c.judged-verdict.ensures ∙ c.in-Err.is))

pub returns-then-count-eq-MOST_PARTS : goal.returns-then-count-eq-MOST_PARTS
unfolding part_added
returns-then-count-eq-MOST_PARTS c =
    let list = c.args.self in
    c.unchanged-then-count-eq-MOST_PARTS.ensures
    ∙ sym (change_refused list (add_refusal list) (with_part list) _ (sym c.judged-verdict.ensures ∙ c.in_default.is)
    (simp (eq-eqb _ _ c.if-count-eq-MOST_PARTS.true)))

pub returns-then-mark-eq-TOP_NUMBER : goal.returns-then-mark-eq-TOP_NUMBER
unfolding part_added
returns-then-mark-eq-TOP_NUMBER c =
    let list = c.args.self in
    c.unchanged-then-mark-eq-TOP_NUMBER.ensures
    ∙ sym (change_refused list (add_refusal list) (with_part list) _ (sym c.judged-verdict.ensures ∙ c.in_default.is)
    (simp (ne_eqb _ _ c.if-count-eq-MOST_PARTS.false, eq-eqb _ _ c.if-mark-eq-TOP_NUMBER.true)))

-- where the list is changed it keeps the rules
abbrev self : Else-mark-eq-TOP_NUMBER → PartList
self c = c.args.self

whole : (c : Else-mark-eq-TOP_NUMBER) → Usable (self c)
whole c =
    usable (self c) _ c.well_formed.0 (sym c.judged-verdict.ensures ∙ c.in_default.is)

-- and has a spare cell
spare : (c : Else-mark-eq-TOP_NUMBER) → (self c).count < most_parts
spare c = omega (arith, (whole c).rules.few, c.if-count-eq-MOST_PARTS.false)

pub next_number-issued-requires : goal.next_number-issued-requires
next_number-issued-requires c = (whole (goal.at.next_number-issued-requires c).Else-mark-eq-TOP_NUMBER).rules.top

pub slice_bounds-numbers-end : goal.slice_bounds-numbers-end
slice_bounds-numbers-end c =
    let here = (goal.at.slice_bounds-numbers-end c).Else-mark-eq-TOP_NUMBER in
    omega (arith, spare here, (whole here).all)

pub slice_bounds-cells-end : goal.slice_bounds-cells-end
slice_bounds-cells-end c = omega (arith, (whole (goal.at.slice_bounds-cells-end c).Else-mark-eq-TOP_NUMBER).counted)

pub offset_bounds-cells-count : goal.offset_bounds-cells-count
offset_bounds-cells-count c = omega (arith, spare (goal.at.offset_bounds-cells-count c).Else-mark-eq-TOP_NUMBER)

pub bounds-cells-count : goal.bounds-cells-count
bounds-cells-count c = omega (arith, spare (goal.at.bounds-cells-count c).Else-mark-eq-TOP_NUMBER)

pub overflow_add-result : goal.overflow_add-result
overflow_add-result c = omega (arith, spare (goal.at.overflow_add-result c).Else-mark-eq-TOP_NUMBER)

pub returns : goal.returns
unfolding part_added
returns c =
    let here = (goal.at.returns c).Else-mark-eq-TOP_NUMBER in
    let list = self here in
    let issued = list.mark + 1 in
    let counted = (whole here).counted in
    let counts : list.count + 1 ≡ length (numbers_of list ++ (issued ∷ [])) =
    omega (arith, length-append (numbers_of list) (issued ∷ [])) in
    let first : c.cells-cells.result ≡ cells_of (numbers_of list) =
    c.cells-cells.ensures ∙ cells_few (numbers_of list) 0 (omega (arith, spare here)) ∙ ap cells_of (others_all (numbers_of list)) in
    let stored : set c.cells-cells.result list.count issued ≡ cells_of (numbers_of list ++ (issued ∷ [])) =
    ap (λ (cells : List ℕ). set cells list.count issued) first ∙ cells_more most_parts 0 (numbers_of list) list.count issued counted (spare here) in
    ap (λ (number : ℕ). changed (record { count = list.count + 1; mark = number; numbers = set c.cells-cells.result list.count number }) (Ok number))
    c.next_number-issued.ensures
    ∙ ap₂ (λ (count : ℕ) (cells : List ℕ). changed (record { count = count; mark = issued; numbers = cells }) (Ok issued)) counts stored
    ∙ sym (change_made list (add_refusal list) (with_part list) (sym c.judged-verdict.ensures ∙ c.in_default.is)
    (simp (ne_eqb _ _ c.if-count-eq-MOST_PARTS.false, ne_eqb _ _ c.if-mark-eq-TOP_NUMBER.false)))
