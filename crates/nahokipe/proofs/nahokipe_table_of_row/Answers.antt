-- `nahokipe::nahokipe_table_of_row` meets its contract: it hands out the answer of the function behind it and leaves its buffer.
-- Assumes nothing.
use Rattle.nahokipe.specs.Answers.{of_number}
use Rattle.nahokipe.proofs.Handing.{handed_on}
use Rattle.nahokipe.proofs.nahokipe_table_of_row.Goals as goal

pub returns : goal.returns
returns c = handed_on of_number c.table_of_pattern.ensures c.of_number.ensures
