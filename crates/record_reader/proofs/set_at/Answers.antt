-- `record_reader::set_at` meets its contract: a cursor with a set left finds the set at its place.
-- Assumes nothing.
use mathlib.Core.Path.{sym, ap, ◌∙◌}
use Rattle.record_reader.proofs.Walking.{found_by, cursor_found}
use Rattle.record_reader.proofs.set_at.Goals as goal

pub returns-in_err-step : goal.returns-in_err-step
returns-in_err-step c = rw c.from_residual.ensures (ap found_by (sym c.in_err-step.was ∙ c.step.ensures) ∙ cursor_found _ _ 0)

pub returns : goal.returns
returns c = ap found_by (sym c.in_ok-step.was ∙ c.step.ensures) ∙ cursor_found _ _ 0
