-- Document 004's example 2.10, computed: of four parts the first machine runs on {1,2}, and the second on {2,4} and on {3,4}. 004 prints the square
-- out of 12, and here it is out of 4! = 24. Assumes nothing.
use mathlib.Core.Path.{◌≡◌, refl}
use mathlib.Core.Bool.{Bool}
use mathlib.Core.List.{[], ◌∷◌, flat_map}
use Prim.Native.Nat.{ℕ, suc, ◌/◌, ◌%◌}
use lib.Count.{ones, ones_in}
use lib.IntN.{pos}
use Rattle.numbers.specs.Counts.{factorial}
use Rattle.numbers.specs.Tables.{tabulate}
use Rattle.theory_sums.specs.Sums.{sum, some, sum_below}
use Rattle.theory_sets.specs.Masks.{has, holds}
use Rattle.theory_sets.specs.Structures.{listed}
use Rattle.theory_orders.specs.Orders.{inserted, orders, mask}
use Rattle.theory_orders.specs.Counting.{entries, stops, in_group, stops_as_kth}
use Rattle.theory_joint.specs.Joint.{stopped_by, joint_count, joint_square}
use Rattle.theory_joint.specs.Formula.{quality, joint_tail, joint_signature}

abbrev first : ℕ → Bool
first = listed (3 ∷ [])

abbrev second : ℕ → Bool
second = listed (10 ∷ 12 ∷ [])

-- by counting the 24 orders
square_of_example : joint_square 4 first second ≡ 0 ∷ 6 ∷ 6 ∷ 0 ∷ 4 ∷ 2 ∷ 2 ∷ 0 ∷ 2 ∷ 2 ∷ 0 ∷ 0 ∷ 0 ∷ 0 ∷ 0 ∷ 0 ∷ []
unfolding joint_square joint_count stopped_by some entries stops_as_kth stops in_group has orders inserted mask sum flat_map listed holds tabulate
square_of_example = refl

-- by 004's formula
formula_of_example : tabulate 16 (λ cell. joint_signature 4 first second (suc (cell / 4)) (suc (cell % 4)))
    ≡ pos 0 ∷ pos 6 ∷ pos 6 ∷ pos 0 ∷ pos 4 ∷ pos 2 ∷ pos 2 ∷ pos 0 ∷ pos 2 ∷ pos 2 ∷ pos 0 ∷ pos 0 ∷ pos 0 ∷ pos 0 ∷ pos 0 ∷ pos 0 ∷ []
unfolding joint_signature joint_tail quality factorial sum_below has listed holds tabulate ones ones_in
formula_of_example = refl
