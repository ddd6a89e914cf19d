-- `nahokipe::nahokipe_next_set` meets its contract: it hands out the step of the cursor.
-- Assumes nothing.
use mathlib.Core.Path.{ap, ◌∙◌}
use Rattle.nahokipe.specs.Answers.{of_step}
use Rattle.nahokipe.proofs.nahokipe_next_set.Goals as goal

pub returns : goal.returns
returns c = c.of_step.ensures ∙ ap of_step c.step.ensures
