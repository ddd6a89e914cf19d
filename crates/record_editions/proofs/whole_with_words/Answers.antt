-- `record_editions::whole_with_words` meets its contract: the body of all that is read.
-- Assumes nothing.
use Rattle.record_editions.proofs.Answers.{words_whole}
use Rattle.record_editions.proofs.whole_with_words.Goals as goal

pub returns : goal.returns
returns c =
    words_whole c.args.bytes.now c.whole_stored-read.result c.whole_stored-read.ensures
