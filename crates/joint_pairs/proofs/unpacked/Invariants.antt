-- `joint_pairs::unpacked` meets its contract: each count is taken out of its lane.
-- Assumes nothing.
use mathlib.Core.Path.{◌≡◌}
use mathlib.Core.List.{List, []}
use Prim.Native.Nat.{ℕ, ◌*◌, ◌/◌, ◌%◌, ◌^◌}
use lib.ListN.{get_or}
use Rattle.numbers.proofs.Tables.{filled}
use Rattle.joint_pairs.proofs.unpacked.Given as goal

-- what stands in a lane
abbrev pub in_lane : List (List ℕ) → ℕ → ℕ
in_lane rows c = get_or (get_or rows (c / 51) []) (c % 17) 0 / 2 ^ (21 * (c / 17 % 3)) % 2 ^ 21

abbrev pub invariant-loop-c : goal.invariant-loop-c
invariant-loop-c l = l.pair-items ≡ filled (in_lane l.rows) l.initial.pair-items l.c
