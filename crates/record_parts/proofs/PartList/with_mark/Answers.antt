-- `record_parts::PartList::with_mark` meets its contract: where the numbers are refused, so is the list, and a list of no parts is handed back;
-- where they keep the rules, there are few enough of them for the cells.
-- Assumes nothing.
use mathlib.Core.Path.{sym, ap, ◌∙◌}
use mathlib.Core.List.{List}
use Prim.Native.Nat.{ℕ}
use lib.ListN.{length}
use Rattle.std.specs.Prelude.{Ok}
use Rattle.answer.specs.Outcome.{Verdict}
use Rattle.record_numbers.specs.Numbering.{cells_of}
use Rattle.record_parts.specs.PartLists.{list_of, listing, made}
use Rattle.record_parts.proofs.LeftOut.{others_all}
use Rattle.record_parts.proofs.InCells.{cells_few}
use Rattle.record_numbers.proofs.Rules.{accepted_rules}
use Rattle.record_parts.proofs.PartList.with_mark.Goals as goal

pub returns-in-Err : goal.returns-in-Err
unfolding made
returns-in-Err c =
    let a = c.args in
    sym (ap (λ (v : Verdict). listing v (list_of a.mark a.numbers.now)) (sym c.judge-verdict.ensures ∙ c.in-Err.is))

pub returns-in-Ok : goal.returns-in-Ok
unfolding made
returns-in-Ok c =
    let a = c.args in
    let n = a.numbers.now in
    let accepted = sym c.judge-verdict.ensures ∙ c.in-Ok.is in
    ap (λ (cells : List ℕ). record { list = record { count = length n; mark = a.mark; numbers = cells }; verdict = (Ok tt) })
    (c.cells-cells.ensures ∙ cells_few n 0 (accepted_rules (length n) a.mark n accepted).few ∙ ap cells_of (others_all n))
    ∙ sym (ap (λ (v : Verdict). listing v (list_of a.mark n)) accepted)
