-- `record::store_table` meets its contract: a refused record leaves the buffer alone, and else the table of its words is handed out.
-- Assumes nothing.
use mathlib.Core.Path.{sym, ap, ◌∙◌}
use Rattle.answer.specs.Outcome.{delivered, Verdict}
use Rattle.record.specs.Contents.{table_of_words}
use Rattle.record.proofs.store_table.Goals as goal

pub returns-in-Err : goal.returns-in-Err
returns-in-Err c =
    let a = c.args in
    ap (λ (v : Verdict). delivered v (table_of_words a.read.contents.list.count a.read.words) a.table.now) (sym c.in-Err.is)

pub returns-in-Ok : goal.returns-in-Ok
returns-in-Ok c =
    let a = c.args in
    c.hand_out_table.ensures
    ∙ ap (λ (v : Verdict). delivered v (table_of_words a.read.contents.list.count a.read.words) a.table.now) (sym c.in-Ok.is)
