-- `figures::importance` meets its contract: a refused table leaves the cells alone, and else what is made by the table's words is handed out.
-- Assumes nothing.
use mathlib.Core.Path.{sym, ap, ◌∙◌}
use mathlib.Core.List.{List}
use Prim.Native.Nat.{ℕ}
use lib.Seq.{length-take-le}
use Rattle.std.specs.Prelude.{Ok}
use Rattle.answer.specs.Outcome.{delivered, Verdict}
use Rattle.theory_sets.specs.Tables.{in_table}
use Rattle.structure.proofs.Acceptance.{accepted_table}
use Rattle.theory_figures.specs.Figures.{importances}
use Rattle.figures.proofs.Machines.{table_rows, table_importances}
use Rattle.figures.proofs.Rooms.{made_room, made_front}
use Rattle.figures.proofs.importance.Goals as goal

pub part_importances-made-requires : goal.part_importances-made-requires
part_importances-made-requires c =
    let a = c.args in
    table_rows a.n a.table.now (accepted_table a.n a.table.now (sym c.table_verdict.ensures ∙ c.in_ok-table_verdict.was)) c.rows_of-rows.result c.rows_of-rows.ensures

pub slice_bounds-made-end : goal.slice_bounds-made-end
slice_bounds-made-end c = made_room _ _ _ _ c.part_importances-made.ensures

pub slice_bounds-hand_out-end : goal.slice_bounds-hand_out-end
slice_bounds-hand_out-end c = sym (length-take-le _ _ (made_room _ _ _ _ c.part_importances-made.ensures))

pub returns : goal.returns
returns c =
    let a = c.args in
    let cells = a.cells.now in
    let result = importances a.n (in_table a.table.now) in
    c.hand_out.ensures
    ∙ ap (λ (xs : List ℕ). delivered (Ok tt) xs cells)
    (made_front a.n _ _ _ c.part_importances-made.ensures
    ∙ table_importances a.n a.table.now (accepted_table a.n a.table.now (sym c.table_verdict.ensures ∙ c.in_ok-table_verdict.was)) c.rows_of-rows.result c.rows_of-rows.ensures)
    ∙ ap (λ (v : Verdict). delivered v result cells) (sym (sym c.table_verdict.ensures ∙ c.in_ok-table_verdict.was))
