-- `figures::figures_verdict` meets its contract: the table is checked first, and then the lengths of the buffers.
-- Assumes nothing.
use mathlib.Core.Path.{sym, ◌∙◌}
use Rattle.structure.proofs.Acceptance.{accepted_table}
use Rattle.figures.proofs.figures_verdict.Goals as goal

pub room_verdict-requires : goal.room_verdict-requires
room_verdict-requires c = (accepted_table c.args.n c.args.table.now (sym c.table_verdict.ensures ∙ c.in_ok-table_verdict.was)).few
