-- `record_editions::first_cursor` meets its contract: the cursor is made of the contents of the whole record.
-- Assumes nothing.
use mathlib.Core.Path.{ap}
use Rattle.record.specs.declared.Contents.{Contents}
use Rattle.record.specs.Contents.{cursor}
use Rattle.record_editions.proofs.first_cursor.Goals as goal

pub returns : goal.returns
returns c = ap (λ (contents : Contents). cursor contents.begin contents.sets) c.whole_record-contents.ensures
