-- `nahokipe::nahokipe_position_of` meets its contract: it hands out the number that the function behind it gives.
-- Assumes nothing.
use mathlib.Core.Path.{ap, ◌∙◌}
use Rattle.nahokipe.specs.Answers.{of_number}
use Rattle.nahokipe.proofs.nahokipe_position_of.Goals as goal

pub returns : goal.returns
returns c = c.of_number.ensures ∙ ap of_number c.position_of.ensures
