-- `record_by_number::take_out_parts` meets its contract: the parts are looked up, and then taken out where they stand.
-- Assumes nothing.
use mathlib.Core.Path.{◌≡◌, sym, ◌∙◌}
use Rattle.std.specs.Prelude.{Ok}
use Rattle.record_lines.specs.Changes.{take_out_group}
use Rattle.record_by_number.specs.Parts.{parts_mask}
use Rattle.record_by_number.proofs.Looking.{there_refused, there_changed}
use Rattle.std.proofs.lemmas.Result.{err_from_is_err_and}
use Rattle.record_by_number.proofs.take_out_parts.Goals as goal

pub returns-in_err-group : goal.returns-in_err-group
returns-in_err-group c =
    let a = c.args in
    let p = err_from_is_err_and c.from_residual.result c.from_residual.ensures.1 in
    rw (p.1, p.2) (there_refused take_out_group a.bytes.now a.buffer.now (parts_mask a.bytes.now a.wanted.now) _ (sym c.mask_in.ensures ∙ c.in_err-group.was))

pub returns : goal.returns
returns c =
    -- the parts were found
    let found : parts_mask c.args.bytes.now c.args.wanted.now ≡ Ok c.in_ok-group.group =
    sym c.mask_in.ensures ∙ c.in_ok-group.was in
    let a = c.args in
    c.take_out_group.ensures ∙ there_changed take_out_group a.bytes.now a.buffer.now (parts_mask a.bytes.now a.wanted.now) _ found
