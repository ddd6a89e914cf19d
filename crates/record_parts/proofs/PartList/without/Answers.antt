-- `record_parts::PartList::without` meets its contract: one number fewer is in use for each part of the group, and the cells hold the others.
-- Assumes nothing.
use mathlib.Core.Path.{◌≡◌, sym, ap₂, ◌∙◌, subst}
use mathlib.Core.List.{List}
use Prim.Native.Nat.{ℕ, ◌+◌, ◌-◌, ◌^◌, ◌<◌}
use native.Mathlib.Omega.{arith}
use lib.ListN.{length}
use Rattle.theory_sets.specs.Masks.{size}
use Rattle.record_numbers.specs.Numbering.{most_parts, cells_of, others}
use Rattle.record_parts.specs.declared.PartList.{PartList}
use Rattle.record_parts.specs.PartLists.{numbers_of}
use Rattle.record_parts.proofs.LeftOut.{others_counted}
use Rattle.record_parts.proofs.InCells.{cells_all, cells_few, numbers_counted}
use Rattle.record_parts.proofs.PartList.without.Goals as goal
use Rattle.record_parts.proofs.PartList.without.Goals.{Start}

-- `record_parts::PartList::without` meets its contract: one number fewer is in use for each part of the group, and the cells hold the others.
-- Assumes nothing.
module _ (start : Start) where
  abbrev list : PartList
  list = start.args.self

  abbrev group : ℕ
  group = start.args.group

  all : length list.numbers ≡ most_parts
  all = cells_all list _ start.well_formed.0

  in_use : length (numbers_of list) ≡ list.count
  in_use = numbers_counted list all start.requires.count_le_most_parts

  counted : length (others (numbers_of list) group) + size group ≡ list.count
  counted = others_counted (numbers_of list) group (subst (λ (n : ℕ). group < 2 ^ n) (sym in_use) start.requires.group_bound) ∙ in_use

pub slice_bounds-numbers-end : goal.slice_bounds-numbers-end
slice_bounds-numbers-end c = omega (arith, all (goal.at.slice_bounds-numbers-end c).Start, c.requires.count_le_most_parts)

pub slice_bounds-cells-end : goal.slice_bounds-cells-end
slice_bounds-cells-end c = sym (in_use (goal.at.slice_bounds-cells-end c).Start)

pub overflow_sub-result : goal.overflow_sub-result
overflow_sub-result c = omega (arith, counted (goal.at.overflow_sub-result c).Start, c.size.ensures)

pub returns : goal.returns
returns c =
    let here = (goal.at.returns c).Start in
    let whole = list here in
    let left = others (numbers_of whole) (group here) in
    let counts : whole.count - c.size.result ≡ length left = omega (arith, counted here, c.size.ensures) in
    let cells : c.cells-cells.result ≡ cells_of left =
    c.cells-cells.ensures ∙ cells_few (numbers_of whole) (group here) (omega (arith, in_use here, c.requires.count_le_most_parts)) in
    ap₂ (λ (count : ℕ) (cells : List ℕ). record { count = count; mark = whole.mark; numbers = cells }) counts cells
