-- `nahokipe::nahokipe_vector_verdict` meets its contract: it hands out the verdict of the function behind it.
-- Assumes nothing.
use mathlib.Core.Path.{ap, ◌∙◌}
use Rattle.nahokipe.specs.Answers.{of_verdict}
use Rattle.nahokipe.proofs.nahokipe_vector_verdict.Goals as goal

pub returns : goal.returns
returns c = c.of_verdict.ensures ∙ ap of_verdict c.judge_numbered.ensures
