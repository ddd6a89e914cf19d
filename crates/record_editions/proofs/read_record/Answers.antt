-- `record_editions::read_record` meets its contract: the contents are those beside the words.
-- Assumes nothing.
use Rattle.record_editions.proofs.Answers.{contents_at_lem}
use Rattle.record_editions.proofs.read_record.Goals as goal

pub returns : goal.returns
returns c =
    let a = c.args in
    contents_at_lem a.bytes.now a.start c.read_stored-read.result c.read_stored-read.ensures
