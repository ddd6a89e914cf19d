-- 02, §6, on examples, computed: row and ring of four parts with two failed neighbours, and at least two of three. Assumes nothing.
use mathlib.Core.Path.{◌≡◌, refl}
use mathlib.Core.Bool.{true, false}
use mathlib.Core.List.{[], ◌∷◌, map}
use lib.Count.{ones, ones_in}
use Rattle.numbers.specs.Tables.{tabulate}
use Rattle.theory_sums.specs.Sums.{sum, some}
use Rattle.theory_sets.specs.Masks.{has, holds, any, those}
use Rattle.theory_sets.specs.Structures.{minimal}
use Rattle.theory_sets.specs.Tables.{packed, table_of}
use Rattle.theory_orders.specs.Orders.{inserted, orders, mask}
use Rattle.theory_orders.specs.Counting.{entries, stops, in_group, stops_as_kth, count}
use Rattle.theory_cuts.specs.Cuts.{cut, minimal_cuts}
use Rattle.theory_patterns.specs.Patterns.{at_least, all_failed, row, ring, at_least_family, row_family, ring_family}

-- four parts in a row are stopped by 1 and 2, by 2 and 3, or by 3 and 4; in a ring by 4 and 1 too
row_cuts : minimal_cuts 4 (row 4 2) ≡ 3 ∷ 6 ∷ 12 ∷ []
unfolding row all_failed cut minimal holds has any those
row_cuts = refl

ring_cuts : minimal_cuts 4 (ring 4 2) ≡ 3 ∷ 6 ∷ 9 ∷ 12 ∷ []
unfolding ring all_failed cut minimal holds has any those
ring_cuts = refl

-- three failed neighbours hold two: the row does not run on part 4 alone
three_failed : row 4 2 8 ≡ false
unfolding row all_failed has any
three_failed = refl

-- the ends of the row are no neighbours, those of the ring are: on parts 2 and 3 the row runs and the ring does not
row_ends : row 4 2 6 ≡ true
unfolding row all_failed has any
row_ends = refl

ring_ends : ring 4 2 6 ≡ false
unfolding ring all_failed has any
ring_ends = refl

-- a ring with k = n: all failed
ring_whole : table_of 4 (ring 4 4) ≡ 254 ∷ 255 ∷ []
unfolding ring all_failed has any table_of packed tabulate
ring_whole = refl

-- the families as sets
row_sets : row_family 4 2 ≡ 3 ∷ 6 ∷ 12 ∷ []
unfolding any packed tabulate
row_sets = refl

ring_sets : ring_family 4 2 ≡ 3 ∷ 6 ∷ 12 ∷ 9 ∷ []
unfolding any packed tabulate
ring_sets = refl

two_of_three_sets : at_least_family 3 2 ≡ 3 ∷ 5 ∷ 6 ∷ []
unfolding ones ones_in those
two_of_three_sets = refl

-- at least two of three: E8, and all six orders stand at N(2)
two_of_three : table_of 3 (at_least 2) ≡ 232 ∷ []
unfolding at_least ones ones_in table_of packed tabulate
two_of_three = refl

two_of_three_orders : map (count 3 (at_least 2) 7) (1 ∷ 2 ∷ 3 ∷ []) ≡ 0 ∷ 6 ∷ 0 ∷ []
unfolding at_least ones ones_in has orders inserted mask sum some entries stops in_group stops_as_kth count
two_of_three_orders = refl
