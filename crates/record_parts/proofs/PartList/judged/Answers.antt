-- `record_parts::PartList::judged` meets its contract: a count over 16 is refused at once, and else the numbers in use are judged.
-- Assumes nothing.
use mathlib.Core.Path.{◌≡◌, sym, ap, ◌∙◌}
use Prim.Native.Nat.{ℕ}
use native.Mathlib.Omega.{arith}
use lib.ListN.{length}
use Rattle.std.specs.Prelude.{Err}
use Rattle.answer.proofs.Checks.{parts_over}
use Rattle.record_numbers.specs.Numbering.{part_list_refusal}
use Rattle.record_parts.specs.PartLists.{numbers_of}
use Rattle.record_parts.proofs.InCells.{cells_all, numbers_counted}
use Rattle.record_parts.proofs.PartList.judged.Goals as goal
use Rattle.record_parts.proofs.PartList.judged.Goals.{Else-count-gt-MOST_PARTS}

pub returns-then-count-gt-MOST_PARTS : goal.returns-then-count-gt-MOST_PARTS
unfolding part_list_refusal
returns-then-count-gt-MOST_PARTS c =
    let list = c.args.self in
    (ap Err c.at.ensures) ∙ sym (parts_over 0 list.count _ (omega arith) c.if-count-gt-MOST_PARTS.true)

counted : (c : Else-count-gt-MOST_PARTS) → length (numbers_of c.args.self) ≡ c.args.self.count
counted c =
    let list = c.args.self in
    numbers_counted list (cells_all list _ c.well_formed.0) c.if-count-gt-MOST_PARTS.false

pub slice_bounds-numbers-end : goal.slice_bounds-numbers-end
slice_bounds-numbers-end c = omega (arith, cells_all c.args.self _ c.well_formed.0)

pub slice_bounds-judge-end : goal.slice_bounds-judge-end
slice_bounds-judge-end c = omega (arith, counted (goal.at.slice_bounds-judge-end c).Else-count-gt-MOST_PARTS)

pub returns : goal.returns
returns c =
    let list = c.args.self in
    c.judge.ensures ∙ ap (λ (n : ℕ). part_list_refusal n list.mark (numbers_of list)) (counted (goal.at.returns c).Else-count-gt-MOST_PARTS)
