-- `drawing_reading::read_drawing` meets its contract: the checks of the first line in their order, and then the set lines.
-- Assumes nothing.
use mathlib.Core.Path.{◌≡◌, sym, ◌∙◌}
use Rattle.std.specs.Prelude.{None}
use Rattle.drawing_reading.specs.Inside.{parts_at, numeral}
use Rattle.drawing_reading.proofs.Texts.{text_malformed, text_no_parts, text_many_parts, text_no_sets, text_sets}
use Rattle.drawing_reading.proofs.read_drawing.Goals as goal

pub returns-in_default : goal.returns-in_default
returns-in_default c =
    c.refused.ensures ∙ text_malformed c.args.text.now (sym c.in_default.is ∙ c.read_parts_line.ensures)

pub returns-then-n-eq0 : goal.returns-then-n-eq0
returns-then-n-eq0 c =
    c.refused-then-n-eq0.ensures ∙ text_no_parts c.args.text.now _ _ (sym c.in-Some.is ∙ c.read_parts_line.ensures) c.if-n-eq0.true

pub returns-then-n-gt16 : goal.returns-then-n-gt16
returns-then-n-gt16 c =
    c.refused-then-n-gt16.ensures ∙ text_many_parts c.args.text.now _ _ (sym c.in-Some.is ∙ c.read_parts_line.ensures) c.if-n-gt16.true

pub returns-then-text-next : goal.returns-then-text-next
returns-then-text-next c =
    c.refused-then-text-next.ensures
    ∙ text_no_sets c.args.text.now _ _ (sym c.in-Some.is ∙ c.read_parts_line.ensures) c.if-n-eq0.false c.if-n-gt16.false c.if-text-next.true

pub returns : goal.returns
returns c =
    c.read_set_lines.ensures
    ∙ text_sets c.args.text.now _ _ (sym c.in-Some.is ∙ c.read_parts_line.ensures) c.if-n-eq0.false c.if-n-gt16.false c.if-text-next.false
