-- `codec::write_number` meets its contract: the two tests say whether the number's bytes fit, and storing them one by one places them.
-- Assumes nothing.
use native.Mathlib.Omega.{arith}
use mathlib.Core.Path.{sym, ap₂, ◌∙◌}
use Rattle.answer.specs.Outcome.{outcome}
use Rattle.codec.specs.ByteForm.{bytes_of}
use Rattle.answer.proofs.Placing.{placed_short, stored_placed}
use Rattle.codec.proofs.write_number.Goals as goal

-- `codec::write_number` meets its contract: the two tests say whether the number's bytes fit, and storing them one by one places them.
-- Assumes nothing.
pub returns-then-buffer-at : goal.returns-then-buffer-at
returns-then-buffer-at c =
    let a = c.args in
    sym (placed_short a.buffer.now a.at (bytes_of a.value) (omega arith))

pub returns-then-buffer-at-2 : goal.returns-then-buffer-at-2
returns-then-buffer-at-2 c =
    let a = c.args in
    sym (placed_short a.buffer.now a.at (bytes_of a.value) (omega arith))

pub returns : goal.returns
returns c =
    let a = c.args in
    let e = c.write_groups.ensures in
    ap₂ outcome e.value e.buffer_after
    ∙ stored_placed a.buffer.now a.at (bytes_of a.value) (omega arith)
