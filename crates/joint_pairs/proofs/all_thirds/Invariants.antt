-- `joint_pairs::all_thirds` meets its contract: row after row gets the counts for its three outer sizes.
-- Assumes nothing.
use mathlib.Core.Path.{◌≡◌}
use Prim.Native.Nat.{◌^◌}
use lib.ListN.{length}
use Rattle.numbers.proofs.Tables.{filled}
use Rattle.structure_words.specs.Words.{in_words}
use Rattle.joint_pairs.specs.Inside.{packed_row}
use Rattle.joint_pairs.proofs.all_thirds.Given as goal

abbrev pub invariant-loop-third : goal.invariant-loop-third
invariant-loop-third l = (length l.cells ≡ 2 ^ l.n) × (l.row-items ≡ filled (packed_row l.n (in_words l.outer) (in_words l.inner)) l.initial.row-items l.third)
