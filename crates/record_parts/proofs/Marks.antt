-- Laws of the highest of some numbers, which is the mark of a first list.
-- Assumes nothing.
use mathlib.Core.List.{List, [], ◌∷◌}
use Prim.Native.Nat.{ℕ, ◌≤◌, max}
use native.Mathlib.Nat.{le_refl, le-max_left, le-max_right, max-le}
use native.Mathlib.Omega.{arith}
use Rattle.record_numbers.specs.Numbering.{RisingWithin, highest}
use Rattle.record_parts.proofs.Numbers.{rising_wider}

-- numbers that rise do so up to their highest
pub rising_highest : (low high : ℕ) (numbers : List ℕ) → RisingWithin low high numbers → RisingWithin low (highest numbers) numbers
rising_highest low high [] r = tt
rising_highest low high (n ∷ ns) r =
    (r.0, le-max_left n (highest ns), rising_wider n (highest ns) n (max n (highest ns)) ns (le_refl n) (le-max_right n (highest ns)) (rising_highest n high ns r.2))

-- which is not above their bound
pub highest_below : (low high : ℕ) (numbers : List ℕ) → RisingWithin low high numbers → highest numbers ≤ high
highest_below low high [] r = omega arith
highest_below low high (n ∷ ns) r = max-le r.1 (highest_below n high ns r.2)
