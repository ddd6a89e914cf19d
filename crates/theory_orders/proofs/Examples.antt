-- 01's words on the orders of two parts ("Counting"), computed; its † examples, the counts among them, are in the list of `examples_proved`.
-- Assumes nothing.
use mathlib.Core.Path.{◌≡◌, refl}
use mathlib.Core.Bool.{Bool, true, false}
use mathlib.Core.List.{List, [], ◌∷◌, map}
use Prim.Native.Nat.{ℕ}
use Rattle.theory_sums.specs.Sums.{sum}
use Rattle.theory_sets.specs.Masks.{holds}
use Rattle.theory_sets.specs.Structures.{listed}
use Rattle.theory_orders.specs.Orders.{inserted, orders, mask}
use Rattle.theory_orders.specs.Counting.{entries, stops}

-- at each entry of an order: its position, and whether it takes the system from working to stopped
stops_at : (ℕ → Bool) → List ℕ → List (ℕ × Bool)
unfolding entries stops mask sum
stops_at works order = map {B = ℕ × Bool} (λ entry. (entry.position, stops works entry)) (entries order)

-- n = 2 with {1}: order 1, 2 stops at its first entry and order 2, 1 at its second; both times it is position 1
one_then_two : stops_at (listed (1 ∷ [])) (1 ∷ 2 ∷ []) ≡ (1, true) ∷ (2, false) ∷ []
unfolding stops_at listed holds
one_then_two = refl

two_then_one : stops_at (listed (1 ∷ [])) (2 ∷ 1 ∷ []) ≡ (2, false) ∷ (1, true) ∷ []
unfolding stops_at listed holds
two_then_one = refl

orders_of_two : orders 2 ≡ (2 ∷ 1 ∷ []) ∷ (1 ∷ 2 ∷ []) ∷ []
unfolding orders inserted
orders_of_two = refl
