-- `record_by_number::add_set_of_parts` meets its contract: the parts are looked up, and their mask is a set.
-- Assumes nothing.
use mathlib.Core.Path.{◌≡◌, sym, ◌∙◌}
use native.Mathlib.Omega.{arith}
use Rattle.std.specs.Prelude.{Ok}
use Rattle.record_lines.specs.Changes.{add_set}
use Rattle.record_by_number.specs.Parts.{parts_mask}
use Rattle.record_by_number.proofs.Looking.{there_refused, there_changed, mask_is_set}
use Rattle.std.proofs.lemmas.Result.{err_from_is_err_and}
use Rattle.record_by_number.proofs.add_set_of_parts.Goals as goal

pub overflow_cast-mask : goal.overflow_cast-mask
overflow_cast-mask c =
    -- the parts were found
    let found : parts_mask c.args.bytes.now c.args.wanted.now ≡ Ok c.in_ok-mask.mask =
    sym c.mask_in.ensures ∙ c.in_ok-mask.was in
    omega (arith, mask_is_set _ _ _ found)

pub returns-in_err-mask : goal.returns-in_err-mask
returns-in_err-mask c =
    let a = c.args in
    let p = err_from_is_err_and c.from_residual.result c.from_residual.ensures.1 in
    rw (p.1, p.2) (there_refused add_set a.bytes.now a.buffer.now (parts_mask a.bytes.now a.wanted.now) _ (sym c.mask_in.ensures ∙ c.in_err-mask.was))

pub returns : goal.returns
returns c =
    -- the parts were found
    let found : parts_mask c.args.bytes.now c.args.wanted.now ≡ Ok c.in_ok-mask.mask =
    sym c.mask_in.ensures ∙ c.in_ok-mask.was in
    let a = c.args in
    c.add_set.ensures ∙ there_changed add_set a.bytes.now a.buffer.now (parts_mask a.bytes.now a.wanted.now) _ found
