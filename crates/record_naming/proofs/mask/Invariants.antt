-- `record_naming::mask` meets its contract. The loop's invariant: the mask so far and that of the positions left, moved up, make the whole.
-- Assumes nothing.
use mathlib.Core.Path.{◌≡◌}
use Prim.Native.Nat.{◌+◌, ◌*◌, ◌^◌}
use lib.ListN.{drop}
use Rattle.record_naming.specs.Naming.{mask_of}
use Rattle.record_naming.proofs.mask.Given as goal

abbrev pub invariant-loop-at : goal.invariant-loop-at
invariant-loop-at l = l.mask + 2 ^ l.at * mask_of (drop l.at l.numbers) l.wanted ≡ mask_of l.numbers l.wanted
