-- `nahokipe::nahokipe_record_at` meets its contract: it hands out what the function behind it reads.
-- Assumes nothing.
use mathlib.Core.Path.{ap, ◌∙◌}
use Rattle.nahokipe.specs.Answers.{of_contents}
use Rattle.nahokipe.proofs.nahokipe_record_at.Goals as goal

pub returns : goal.returns
returns c = c.of_contents.ensures ∙ ap of_contents c.read_record.ensures
