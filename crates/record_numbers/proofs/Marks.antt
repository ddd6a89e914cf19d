-- The highest of some numbers is the best that a walk over them picks.
-- Assumes nothing.
use mathlib.Core.Path.{◌≡◌, sym, ◌∙◌}
use mathlib.Core.List.{List, [], ◌∷◌}
use Prim.Native.Nat.{ℕ, max}
use native.Mathlib.Nat.{le_trans, le_antisymm, le-max_left, le-max_right, max-le, max-zero}
use Rattle.std.specs.Prelude.{Option, unwrap_or}
use Rattle.std.specs.List.{fold, reduce}
use Rattle.record_numbers.specs.Numbering.{highest}

max_assoc : (a b c : ℕ) → max a (max b c) ≡ max (max a b) c
max_assoc a b c =
    le_antisymm
    (max-le (le_trans (le-max_left a b) (le-max_left _ c)) (max-le (le_trans (le-max_right a b) (le-max_left _ c)) (le-max_right _ c)))
    (max-le (max-le (le-max_left a _) (le_trans (le-max_left b c) (le-max_right a _))) (le_trans (le-max_right b c) (le-max_right a _)))

-- the best so far is the highest of those passed
highest_on : (most : ℕ) (numbers : List ℕ) → fold max most numbers ≡ max most (highest numbers)
highest_on most [] = sym (max-zero most)
highest_on most (n ∷ ns) = highest_on (max most n) ns ∙ sym (max_assoc most n (highest ns))

pub highest_picked : (best : Option ℕ) (numbers : List ℕ) → best ≡ reduce max numbers → unwrap_or best 0 ≡ highest numbers
highest_picked best [] e = rw e
highest_picked best (n ∷ ns) e = rw e (highest_on n ns)
