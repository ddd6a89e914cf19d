-- `record_editions::record_end` meets its contract: the position that the contents tell.
-- Assumes nothing.
use Rattle.record_editions.proofs.Whole.{end_refused, end_given_lem}
use Rattle.record_editions.proofs.record_end.Goals as goal

pub returns-in-Err : goal.returns-in-Err
returns-in-Err c =
    let a = c.args in
    end_refused a.bytes.now a.start c.read_record-contents.result c.read_record-contents.ensures _ c.in-Err.is

pub returns : goal.returns
returns c =
    let a = c.args in
    end_given_lem a.bytes.now a.start c.read_record-contents.result c.read_record-contents.ensures c.in_default.is
