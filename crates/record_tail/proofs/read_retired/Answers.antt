-- `record_tail::read_retired` meets its contract: a count, and that many retired numbers.
-- Assumes nothing.
use mathlib.Core.Path.{sym, ap, ◌∙◌}
use Rattle.std.proofs.Common.{Ok, Err}
use Rattle.std.proofs.lemmas.Result.{err_from_is_err_and}
use Rattle.codec.proofs.Found.{answer_number, answer_refused}
use Rattle.record_tail.specs.Tails.{tail_of}
use Rattle.record_tail.proofs.Answers.{retired_few, retired_no_count, retired_numbers_lem}
use Rattle.record_tail.proofs.read_retired.Goals as goal

pub read_retired_numbers-requires : goal.read_retired_numbers-requires
read_retired_numbers-requires c =
    retired_few c.args.bytes.now c.args.start _ _ (answer_number _ _ _ (sym c.in_ok-count.was ∙ c.read_retired_count.ensures))

pub returns-in_err-count : goal.returns-in_err-count
returns-in_err-count c =
    let a = c.args in
    let p = err_from_is_err_and c.from_residual.result c.from_residual.ensures.1 in
    rw (p.1, p.2) (sym (ap tail_of (retired_no_count a.bytes.now a.mark a.numbers.now a.start _ (answer_refused _ _ (sym c.in_err-count.was ∙ c.read_retired_count.ensures)))))

pub returns : goal.returns
returns c =
    let a = c.args in
    c.read_retired_numbers.ensures
    ∙ sym (ap tail_of (retired_numbers_lem a.bytes.now a.mark a.numbers.now a.start _ _ (answer_number _ _ _ (sym c.in_ok-count.was ∙ c.read_retired_count.ensures))))
