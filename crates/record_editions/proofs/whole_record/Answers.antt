-- `record_editions::whole_record` meets its contract: the contents are those beside the words.
-- Assumes nothing.
use Rattle.record_editions.proofs.Answers.{contents_whole}
use Rattle.record_editions.proofs.whole_record.Goals as goal

pub returns : goal.returns
returns c =
    contents_whole c.args.bytes.now c.whole_with_words-read.result c.whole_with_words-read.ensures
