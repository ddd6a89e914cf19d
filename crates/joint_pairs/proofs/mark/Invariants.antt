-- `joint_pairs::mark` meets its contract: each cell is filled with its set's mark.
-- Assumes nothing.
use mathlib.Core.Path.{◌≡◌}
use Rattle.numbers.proofs.Tables.{filled}
use Rattle.structure_words.specs.Words.{in_words}
use Rattle.joint_pairs.specs.Inside.{mark_of}
use Rattle.joint_pairs.proofs.mark.Given as goal

abbrev pub invariant-loop-a : goal.invariant-loop-a
invariant-loop-a l = l.cells ≡ filled (mark_of (in_words l.words) l.lanes) l.initial.cells l.a
