-- `record_head::read_heading` meets its contract: the part list, and then the count of sets behind it.
-- Assumes nothing.
use mathlib.Core.Path.{◌≡◌, sym, ap, ◌∙◌}
use Rattle.std.proofs.Common.{rules, Err}
use Rattle.std.proofs.lemmas.Result.{err_from_is_err_and}
use Rattle.codec.proofs.Found.{handed_on, gone_on}
use Rattle.record_head.specs.Headings.{head_at, heading_of}
use Rattle.record_head.proofs.read_heading.Goals as goal

pub returns-in_err-parts : goal.returns-in_err-parts
unfolding head_at
returns-in_err-parts c =
    let p = err_from_is_err_and c.from_residual.result c.from_residual.ensures.1 in
    rw (p.1, p.2) (handed_on _ _ heading_of _ (sym c.in_err-parts.was ∙ c.read_parts.ensures))

pub returns-in_err-count : goal.returns-in_err-count
unfolding head_at
returns-in_err-count c =
    let p = err_from_is_err_and c.from_residual-in_err-count.result c.from_residual-in_err-count.ensures.1 in
    rw (p.1, p.2)
    (handed_on _ _ heading_of _ (sym c.in_err-count.was ∙ c.read_set_count.ensures)
    ∙ gone_on _ _ heading_of _ (sym c.in_ok-parts.was ∙ c.read_parts.ensures))

pub returns : goal.returns
unfolding head_at
returns c =
    gone_on _ _ heading_of _ (sym c.in_ok-count.was ∙ c.read_set_count.ensures)
    ∙ gone_on _ _ heading_of _ (sym c.in_ok-parts.was ∙ c.read_parts.ensures)
