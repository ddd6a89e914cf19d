-- `report_lines::put_number` meets its contract: the number is put where the word ends.
-- Assumes nothing.
use Rattle.report_lines.proofs.Lines.{number_put}
use Rattle.report_lines.proofs.put_number.Goals as goal

pub returns : goal.returns
returns c =
    let w2 = c.before.before in
    let w1 = w2.before.before.before.before in
    let start = w1.before.before.before.before in
    let a = start.args in
    number_put a.word.now a.number start.ranges.number a.line.now a.at start.requires _ _ _ _ w1.put-worded.ensures w2.put_decimal.ensures
