-- `nahokipe::nahokipe_save_sheet_as` meets its contract: it hands out the answer of the function behind it and leaves its buffer.
-- Assumes nothing.
use Rattle.nahokipe.specs.Answers.{of_number}
use Rattle.nahokipe.proofs.Handing.{handed_on}
use Rattle.nahokipe.proofs.nahokipe_save_sheet_as.Goals as goal

pub returns : goal.returns
returns c = handed_on of_number c.save_sheet_as_numbered.ensures c.of_number.ensures
