-- `nahokipe::nahokipe_whole_record` meets its contract: it hands out what the function behind it reads.
-- Assumes nothing.
use mathlib.Core.Path.{ap, ◌∙◌}
use Rattle.nahokipe.specs.Answers.{of_contents}
use Rattle.nahokipe.proofs.nahokipe_whole_record.Goals as goal

pub returns : goal.returns
returns c = c.of_contents.ensures ∙ ap of_contents c.whole_record.ensures
