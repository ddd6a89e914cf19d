-- `record_by_number::take_out_part` meets its contract: the part is looked up, and then taken out where it stands.
-- Assumes nothing.
use mathlib.Core.Path.{◌≡◌, sym, ◌∙◌}
use Rattle.std.specs.Prelude.{Ok}
use Rattle.record_lines.specs.Changes.{take_out}
use Rattle.record_by_number.specs.Parts.{part_position}
use Rattle.record_by_number.proofs.Looking.{there_refused, there_changed}
use Rattle.std.proofs.lemmas.Result.{err_from_is_err_and}
use Rattle.record_by_number.proofs.take_out_part.Goals as goal

pub returns-in_err-position : goal.returns-in_err-position
returns-in_err-position c =
    let a = c.args in
    let p = err_from_is_err_and c.from_residual.result c.from_residual.ensures.1 in
    rw (p.1, p.2) (there_refused take_out a.bytes.now a.buffer.now (part_position a.bytes.now a.number) _ (sym c.position_of.ensures ∙ c.in_err-position.was))

pub returns : goal.returns
returns c =
    -- the part was found
    let found : part_position c.args.bytes.now c.args.number ≡ Ok c.in_ok-position.position =
    sym c.position_of.ensures ∙ c.in_ok-position.was in
    let a = c.args in
    c.take_out.ensures ∙ there_changed take_out a.bytes.now a.buffer.now (part_position a.bytes.now a.number) _ found
