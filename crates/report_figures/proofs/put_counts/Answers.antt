-- `report_figures::put_counts` meets its contract: so many lines are put, and each is put from its parts.
-- Assumes nothing.
use mathlib.Core.Path.{◌≡◌, sym, ap, ap₂, ◌∙◌}
use mathlib.Core.List.{◌++◌}
use Prim.Native.Nat.{ℕ, ◌+◌, ◌-◌, ◌<◌}
use native.Mathlib.Omega.{arith}
use lib.ListN.{get_or, take}
use lib.Seq.{get_or-take}
use Rattle.std.proofs.Common.{rules}
use Rattle.std.proofs.lemmas.Option.{gets}
use Rattle.text.specs.Texts.{ascii, decimal}
use Rattle.text.proofs.Decimals.{decimal_few}
use Rattle.report_lines.specs.Lines.{rest_of_line}
use Rattle.report_figures.specs.FiguresText.{count_line}
use Rattle.report_figures.proofs.Blocks.{before_first, before_next, before_end}
use Rattle.report_figures.proofs.put_counts.Goals as goal

pub loop-i-init : goal.loop-i-init
loop-i-init c = before_first c.args.text.now c.args.at (count_line c.args.list c.args.counts.now) (omega arith)

pub loop-i-preserved : goal.loop-i-preserved
unfolding count_line
loop-i-preserved c =
    let a = c.args in
    let i = c.loop-i.i in
    let count = c.unwrap_or-count in
    let back : i + 1 - 1 ≡ i = omega arith in
    let inside : i < a.list.count = search rules in
    let value : count.result ≡ get_or a.counts.now i 0 = search (rules, gets) in
    let number : get_or (take a.list.count a.list.numbers) i 0 ≡ get_or a.list.numbers i 0 = get_or-take a.list.count a.list.numbers i 0 inside in
    before_next a.text.now a.at (count_line a.list a.counts.now) a.list.count (omega arith) (i + 1) (omega arith) (omega arith) c.loop-i.text c.loop-i.next c.loop-i.invariant
    (ascii "part") _ (decimal count.result) _ _ _ _ (omega arith) (search rules) (omega (arith, decimal_few count.result (omega (arith, count.type_inv))))
    (ap₂ (λ (x y : ℕ). ascii "part" ++ rest_of_line x (decimal y)) (ap (λ (j : ℕ). get_or a.list.numbers j 0) back ∙ sym number) (ap (λ (j : ℕ). get_or a.counts.now j 0) back ∙ sym value)) c.put-worded.ensures c.put_count-next.ensures

pub returns : goal.returns
returns c =
    let a = c.args in
    let all = before_end a.text.now a.at (count_line a.list a.counts.now) a.list.count (c.loop-i.i + 1) c.loop-i.text c.loop-i.next (omega arith) (search rules) (search rules) c.loop-i.invariant in
    record { text_after = all.wrote; count_len_bound = all.short }
