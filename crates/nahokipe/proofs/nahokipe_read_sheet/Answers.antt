-- `nahokipe::nahokipe_read_sheet` meets its contract: it hands out what the function behind it receives and leaves its buffer.
-- Assumes nothing.
use Rattle.nahokipe.specs.Answers.{of_entries_read}
use Rattle.nahokipe.proofs.Handing.{handed_on}
use Rattle.nahokipe.proofs.nahokipe_read_sheet.Goals as goal

pub returns : goal.returns
returns c = handed_on of_entries_read c.read_sheet.ensures c.of_entries_read.ensures
