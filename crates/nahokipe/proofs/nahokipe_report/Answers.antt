-- `nahokipe::nahokipe_report` meets its contract: it hands out the answer of the function behind it and leaves its two buffers.
-- Assumes nothing.
use Rattle.nahokipe.specs.Answers.{of_number}
use Rattle.nahokipe.proofs.Handing.{handed_on}
use Rattle.nahokipe.proofs.nahokipe_report.Goals as goal

pub returns : goal.returns
returns c = handed_on of_number c.report.ensures.text_after c.of_number.ensures
