-- `record_changes::file_group` meets its contract: the numbers at hand are those of the list and those that were retired.
-- Assumes nothing.
use mathlib.Core.Path.{sym, ap, ◌∙◌}
use mathlib.Core.List.{List}
use Prim.Native.Nat.{ℕ}
use native.Mathlib.Omega.{arith}
use lib.Seq.{length-take-le}
use Rattle.record_numbers.specs.Numbering.{named}
use Rattle.record_parts.specs.PartLists.{numbers_of}
use Rattle.record_parts.proofs.WellFormed.{well_formed_counted, cells_enough}
use Rattle.record_retired.specs.Retired.{filed_all, retired_of}
use Rattle.record_retired.proofs.Kept.{kept_few}
use Rattle.record_changes.specs.Inside.{retired_numbers}
use Rattle.record_changes.proofs.file_group.Goals as goal

pub slice_bounds-earlier-end : goal.slice_bounds-earlier-end
slice_bounds-earlier-end c =
    c.requires.count_in_bounds

pub slice_bounds-filed_group-end : goal.slice_bounds-filed_group-end
slice_bounds-filed_group-end c =
    sym (length-take-le c.args.retired.count c.args.retired.numbers c.requires.count_in_bounds)

pub slice_bounds-numbers-end : goal.slice_bounds-numbers-end
slice_bounds-numbers-end c =
    cells_enough c.args.list c.requires.well_formed

pub slice_bounds-filed_group-end-2 : goal.slice_bounds-filed_group-end-2
slice_bounds-filed_group-end-2 c =
    sym (well_formed_counted c.args.list c.requires.well_formed)

pub returns : goal.returns
returns c =
    let a = c.args in
    let few = length-take-le a.retired.count a.retired.numbers c.requires.count_in_bounds in
    c.filed_group.ensures
    ∙ ap (λ (l : List ℕ). retired_of (filed_all (named (numbers_of a.list) a.group) l)) (kept_few (retired_numbers a.retired) (omega (arith, few, c.requires.count_le_most_retired)))
