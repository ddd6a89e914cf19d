-- `record_tail::read_tail` meets its contract: the retired numbers, and then the path counts behind them.
-- Assumes nothing.
use mathlib.Core.Path.{sym, ap, ◌∙◌}
use Rattle.std.proofs.Common.{Ok, Err}
use Rattle.std.proofs.lemmas.Result.{err_from_is_err_and}
use Rattle.record_tail.specs.Tails.{retired_at, tail_of}
use Rattle.record_tail.proofs.Answers.{TailGiven, tail_given, tail_refused, counts_given, counts_refused, tail_no_retired, tail_no_counts, tail_whole}
use Rattle.record_tail.proofs.read_tail.Goals as goal

pub returns-in_err-retired : goal.returns-in_err-retired
returns-in_err-retired c =
    let a = c.args in
    let p = err_from_is_err_and c.from_residual.result c.from_residual.ensures.1 in
    rw (p.1, p.2) (sym (ap tail_of (tail_no_retired a.bytes.now a.mark a.numbers.now a.start a.counts.now _ (tail_refused _ _ (sym c.in_err-retired.was ∙ c.read_retired.ensures)))))

pub returns-in_err-next : goal.returns-in_err-next
returns-in_err-next c =
    let a = c.args in
    let first = tail_given _ _ (sym c.in_ok-retired.was ∙ c.read_retired.ensures) in
    let p = err_from_is_err_and c.from_residual-in_err-next.result c.from_residual-in_err-next.ensures.1 in
    rw (p.1, p.2) (sym (ap tail_of (tail_no_counts a.bytes.now a.mark a.numbers.now a.start a.counts.now first.retired _ first.given _
    (counts_refused _ _ (sym c.in_err-next.was ∙ c.read_counts.ensures)))))

pub returns : goal.returns
returns c =
    let a = c.args in
    let first = tail_given _ _ (sym c.in_ok-retired.was ∙ c.read_retired.ensures) in
    let counts = counts_given _ _ (sym c.in_ok-next.was ∙ c.read_counts.ensures) in
    tail_whole a.bytes.now a.mark a.numbers.now a.start a.counts.now first.retired _ first.given _ counts.0 _ first.cells counts.1
