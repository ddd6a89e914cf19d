-- `numbers::factorial` meets its contract: the constant table is computed to be the factorials of 0 to 16, and behind it both sides are 0.
use Rattle.std.proofs.Common.{◌∙◌}
use Rattle.numbers.specs.Counts.{factorial}
use Rattle.numbers.specs.Tables.{tabulate}
use Rattle.numbers.proofs.Tables.{tabulate_or}
use Rattle.numbers.proofs.factorial.Goals as goal

pub returns : goal.returns
unfolding factorial tabulate
returns c = c.cell.ensures ∙ tabulate_or 16 factorial c.args.n
