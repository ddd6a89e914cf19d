-- 02, §3, on examples, computed: the cut sets of the bridge, and the dual of the machine of two parts either of which suffices.
-- Assumes nothing.
use mathlib.Core.Path.{◌≡◌, refl}
use mathlib.Core.List.{List, [], ◌∷◌, map}
use Prim.Native.Nat.{ℕ}
use Rattle.numbers.specs.Tables.{tabulate}
use Rattle.theory_sums.specs.Sums.{sum, some}
use Rattle.theory_sets.specs.Masks.{has, holds, any, those}
use Rattle.theory_sets.specs.Structures.{listed, minimal}
use Rattle.theory_sets.specs.Tables.{packed, in_table, table_of}
use Rattle.theory_orders.specs.Orders.{inserted, orders, mask}
use Rattle.theory_orders.specs.Counting.{entries, stops, in_group, stops_as_kth, count}
use Rattle.theory_cuts.specs.Cuts.{cut, minimal_cuts, by_cuts, dual, dual_table}

-- the bridge, {1,4}, {2,5}, {1,3,5} and {2,3,4}
bridge : List ℕ
bridge = 9 ∷ 18 ∷ 21 ∷ 14 ∷ []

-- its minimal cut sets: {1,2}, {2,3,4}, {1,3,5}, {4,5}
bridge_cuts : minimal_cuts 5 (listed bridge) ≡ 3 ∷ 14 ∷ 21 ∷ 24 ∷ []
unfolding bridge cut listed holds minimal any those
bridge_cuts = refl

-- as a list of cut sets they give the bridge
bridge_of_cuts : table_of 5 (by_cuts 5 (3 ∷ 14 ∷ 21 ∷ 24 ∷ [])) ≡ table_of 5 (listed bridge)
unfolding bridge by_cuts listed holds table_of packed tabulate
bridge_of_cuts = refl

-- n = 2 with {1} and {2}, 0E: the dual is 08, the machine that needs both parts
either_dual : dual_table 2 (14 ∷ []) ≡ 8 ∷ []
unfolding dual in_table table_of packed has tabulate
either_dual = refl

-- its signature is 0, 2, and the dual's is 2, 0
either_orders : map (count 2 (in_table (14 ∷ [])) 3) (1 ∷ 2 ∷ []) ≡ 0 ∷ 2 ∷ []
unfolding in_table has orders inserted mask sum some entries stops in_group stops_as_kth count
either_orders = refl

both_orders : map (count 2 (in_table (8 ∷ [])) 3) (1 ∷ 2 ∷ []) ≡ 2 ∷ 0 ∷ []
unfolding in_table has orders inserted mask sum some entries stops in_group stops_as_kth count
both_orders = refl
