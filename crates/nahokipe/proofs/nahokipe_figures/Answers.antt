-- `nahokipe::nahokipe_figures` meets its contract: it hands out the verdict of the function behind it and leaves its four buffers.
-- Assumes nothing.
use Rattle.nahokipe.specs.Answers.{of_verdict}
use Rattle.nahokipe.proofs.Handing.{handed_on}
use Rattle.nahokipe.proofs.nahokipe_figures.Goals as goal

pub returns : goal.returns
returns c = handed_on of_verdict c.figures.ensures c.of_verdict.ensures
