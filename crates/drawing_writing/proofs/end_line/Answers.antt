-- `drawing_writing::end_line` meets its contract: the one byte is stored at the position.
-- Assumes nothing.
use mathlib.Core.List.{[], ◌∷◌}
use native.Mathlib.Omega.{arith}
use Rattle.answer.proofs.Placing.{stored_placed}
use Rattle.drawing_text.specs.Lines.{line_feed}
use Rattle.drawing_writing.proofs.end_line.Goals as goal

pub returns : goal.returns
returns c =
    let a = c.args in stored_placed a.text.now a.at (line_feed ∷ []) (omega arith)
