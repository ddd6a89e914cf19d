-- `report_text::put_table` meets its contract: the figures of an accepted table fit the local arrays, and their text is put.
-- Assumes nothing.
use mathlib.Core.Path.{sym, ap, ◌∙◌, subst}
use mathlib.Core.List.{List}
use Prim.Native.Nat.{ℕ, ◌≤◌}
use lib.ListN.{length}
use Rattle.std.specs.Result.{IsOk}
use Rattle.std.proofs.Common.{rules}
use Rattle.answer.specs.Outcome.{Outcome, Verdict}
use Rattle.answer.specs.Placed.{placed}
use Rattle.theory_sets.specs.Tables.{in_table}
use Rattle.structure.proofs.Acceptance.{accepted_table}
use Rattle.figures.specs.All.{Buffers}
use Rattle.report_text.proofs.Figures.{all_figures_lem, figures_text}
use Rattle.report_text.proofs.put_table.Goals as goal

pub unwrap-requires : goal.unwrap-requires
unwrap-requires c =
    let all = c.figures.ensures ∙ all_figures_lem c.args.list.count c.args.table.now c.requires in
    subst IsOk (sym (ap (λ (o : Outcome Verdict Buffers). o.answer) all)) (search rules)

pub returns : goal.returns
returns c =
    let a = c.args in
    let n = a.list.count in
    let table = a.table.now in
    let accepted = c.requires in
    let all = c.figures.ensures ∙ all_figures_lem n table accepted in
    let same = figures_text a.list a.sets (in_table table) (accepted_table n table accepted).few _ _ _ _ _ _
    (ap (λ (o : Outcome Verdict Buffers). o.buffer.signature) all) (ap (λ (o : Outcome Verdict Buffers). o.buffer.domination) all) (ap (λ (o : Outcome Verdict Buffers). o.buffer.importance) all) in record { text_after = c.put_figures.ensures.text_after ∙ ap (placed a.text.now 0) same; table_len_bound = subst (λ (text : List ℕ). length text ≤ 4096) same c.put_figures.ensures.importance_len_bound }
