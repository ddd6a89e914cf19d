-- `drawing_writing::put_set_lines` meets its contract: each line is placed behind those before it.
-- Assumes nothing.
use mathlib.Core.Path.{◌≡◌}
use lib.ListN.{take}
use Rattle.answer.specs.Outcome.{outcome}
use Rattle.answer.specs.Placed.{placed}
use Rattle.drawing_text.specs.Writing.{lines_of_sets}
use Rattle.drawing_writing.proofs.put_set_lines.Given as goal

abbrev pub invariant-loop-set : goal.invariant-loop-set
invariant-loop-set l = outcome l.next l.text ≡ placed l.initial.text l.at (lines_of_sets (take l.set-index l.sets))
