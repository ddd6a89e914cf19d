-- `nahokipe::nahokipe_first_record` meets its contract: it hands out the answer of the function behind it and leaves its buffer.
-- Assumes nothing.
use Rattle.nahokipe.specs.Answers.{of_number}
use Rattle.nahokipe.proofs.Handing.{handed_on}
use Rattle.nahokipe.proofs.nahokipe_first_record.Goals as goal

pub returns : goal.returns
returns c = handed_on of_number c.first_record.ensures c.of_number.ensures
