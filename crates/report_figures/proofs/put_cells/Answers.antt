-- `report_figures::put_cells` meets its contract: so many lines are put, and each is put from its parts.
-- Assumes nothing.
use mathlib.Core.Path.{◌≡◌, sym, ap, ◌∙◌, subst}
use mathlib.Core.List.{◌++◌}
use Prim.Native.Nat.{ℕ, ◌+◌, ◌-◌}
use native.Mathlib.Omega.{arith}
use lib.IntN.{ℤ, pos}
use lib.ListN.{get_or}
use mir.Syntax.{w64}
use mir.Val.{SFits, to_z, of_z}
use mir.Facts.{to_z-of_z}
use Rattle.std.proofs.Common.{rules}
use Rattle.std.proofs.lemmas.Option.{gets}
use Rattle.text.specs.Texts.{signed}
use Rattle.text.proofs.Decimals.{signed_few}
use Rattle.report_lines.specs.Lines.{rest_of_line}
use Rattle.report_figures.specs.FiguresText.{cell_line}
use Rattle.report_figures.proofs.Blocks.{before_first, before_next, before_end}
use Rattle.report_figures.proofs.put_cells.Goals as goal

pub loop-i-init : goal.loop-i-init
loop-i-init o c = before_first c.args.text.now c.args.at (cell_line c.args.word.now c.args.cells.now) (omega arith)

pub loop-i-preserved : goal.loop-i-preserved
unfolding cell_line
loop-i-preserved o c =
    let a = c.args in
    let i = c.loop-i.i in
    let cell = c.unwrap_or-figure in
    let back : i + 1 - 1 ≡ i = omega arith in
    let value : cell.result ≡ get_or a.cells.now i (pos 0) = search (rules, gets) in
    let fits : SFits w64 cell.result = record { sfits = cell.type_inv } in
    let z : ℤ = to_z w64 (of_z w64 cell.result) in
    let held : z ≡ cell.result = to_z-of_z fits in
    before_next a.text.now a.at (cell_line a.word.now a.cells.now) a.count (omega arith) (i + 1) (omega arith) (omega arith) c.loop-i.text c.loop-i.next c.loop-i.invariant
    a.word.now (i + 1) (signed z) _ _ _ _ (omega arith) (omega arith) (signed_few z (subst (λ (y : ℤ). SFits w64 y) (sym held) fits))
    (ap (λ (y : ℤ). a.word.now ++ rest_of_line (i + 1) (signed y)) (ap (λ (j : ℕ). get_or a.cells.now j (pos 0)) back ∙ sym value ∙ sym held)) c.put-worded.ensures c.put_figure-next.ensures

pub returns : goal.returns
returns o c =
    let a = c.args in
    let all = before_end a.text.now a.at (cell_line a.word.now a.cells.now) a.count (c.loop-i.i + 1) c.loop-i.text c.loop-i.next (omega arith) (omega arith) (omega arith) c.loop-i.invariant in
    record { text_after = all.wrote; count_len_bound = all.short }
