-- `drawing_reading::Gathered::line` meets its contract: the tests are those of the definition, in its order.
-- Assumes nothing.
use mathlib.Core.Path.{sym, ap, ap₂}
use mathlib.Core.Bool.{Bool}
use Rattle.answer.specs.declared.Reason.TheVariants.{UnknownPosition, RepeatedPosition}
use Rattle.drawing_reading.specs.Inside.{refuse_line, line_read}
use Rattle.drawing_reading.proofs.Gathered.line.Goals as goal

pub returns-then-self : goal.returns-then-self
returns-then-self c =
    let g = c.args.self in
    let next = c.args.next in
    ap (λ (t : Bool). refuse_line t UnknownPosition (refuse_line g.repeated RepeatedPosition (line_read g.set next))) (sym c.if-self.true)

pub returns-then-self-2 : goal.returns-then-self-2
returns-then-self-2 c =
    let g = c.args.self in
    let next = c.args.next in
    ap₂ (λ (s t : Bool). refuse_line s UnknownPosition (refuse_line t RepeatedPosition (line_read g.set next))) (sym c.if-self.false) (sym c.if-self-2.true)

pub returns : goal.returns
returns c =
    let g = c.args.self in
    let next = c.args.next in
    ap₂ (λ (s t : Bool). refuse_line s UnknownPosition (refuse_line t RepeatedPosition (line_read g.set next))) (sym c.if-self.false) (sym c.if-self-2.false)
