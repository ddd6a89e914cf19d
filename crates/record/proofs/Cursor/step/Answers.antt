-- `record::Cursor::step` meets its contract: where a set is left, the number at the cursor is the step.
-- Assumes nothing.
use Rattle.record.proofs.Walks.{step_none, step_ended, step_set}
use Rattle.record.proofs.Cursor.step.Goals as goal

-- `record::Cursor::step` meets its contract: where a set is left, the number at the cursor is the step.
-- Assumes nothing.
pub returns-then-left-eq0 : goal.returns-then-left-eq0
returns-then-left-eq0 c =
    let a = c.args in
    step_none a.bytes.now a.self.next a.self.left c.if-left-eq0.true

pub returns-in-Err : goal.returns-in-Err
returns-in-Err c =
    let a = c.args in
    step_ended a.bytes.now a.self.next a.self.left c.if-left-eq0.false c.read_number-number.ensures _ c.in-Err.is

pub returns-in-Ok : goal.returns-in-Ok
returns-in-Ok c =
    let a = c.args in
    step_set a.bytes.now a.self.next a.self.left c.if-left-eq0.false c.read_number-number.ensures _ _ c.in-Ok.is
