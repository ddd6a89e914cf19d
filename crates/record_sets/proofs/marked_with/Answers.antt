-- `record_sets::marked_with` meets its contract: the set's bit is put beside those of the list.
-- Assumes nothing.
use mathlib.Core.Path.{ap, ◌∙◌}
use mathlib.Core.List.{List}
use Prim.Native.Nat.{ℕ, ◌*◌, ◌/◌, ◌%◌, ◌^◌}
use native.Mathlib.Omega.{arith}
use lib.ListN.{get_or, set}
use Rattle.theory_sets.specs.Masks.{join}
use Rattle.record.proofs.Marking.{marked_one}
use Rattle.record_sets.proofs.marked_with.Goals as goal

pub returns : goal.returns
returns c =
    let a = c.args in
    let value : ℕ = a.set in
    rw c.from-value.ensures
    (ap (λ (ws : List ℕ). set ws (value / 64) (join (get_or ws (value / 64) 0) (1 * 2 ^ (value % 64) % 2 ^ 64))) c.marked-marks.ensures
    ∙ marked_one a.list.now value (omega arith))
