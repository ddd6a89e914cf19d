-- The definitions on a few numbers, on the parts of a group and on full lists of 64: they compute.
-- Assumes nothing.
use mathlib.Core.Path.{◌≡◌, refl}
use mathlib.Core.List.{List, [], ◌∷◌, ◌++◌}
use Prim.Native.Nat.{ℕ, zero, suc}
use lib.ListN.{length}
use Rattle.theory_sets.specs.Masks.{has}
use Rattle.record_numbers.specs.Numbering.{named}
use Rattle.record_retired.specs.Retired.{inserted, kept, filed, filed_all, retired_of}

-- in front of the first that is above it
between : inserted 5 (2 ∷ 7 ∷ []) ≡ 2 ∷ 5 ∷ 7 ∷ []
unfolding inserted
between = refl

in_front_lem : inserted 1 (2 ∷ 7 ∷ []) ≡ 1 ∷ 2 ∷ 7 ∷ []
unfolding inserted
in_front_lem = refl

behind : inserted 9 (2 ∷ 7 ∷ []) ≡ 2 ∷ 7 ∷ 9 ∷ []
unfolding inserted
behind = refl

-- the first number that leaves a machine
first_to_leave : filed 3 [] ≡ 3 ∷ []
unfolding inserted kept
first_to_leave = refl

-- the second and the fourth of five parts leave, after one that left before
group_leaves : filed_all (named (2 ∷ 3 ∷ 5 ∷ 8 ∷ 9 ∷ []) 10) (6 ∷ []) ≡ 3 ∷ 6 ∷ 8 ∷ []
unfolding named has inserted kept filed_all
group_leaves = refl

-- the 64 cells: the numbers in front, and how many they are
in_cells_lem : (retired_of (3 ∷ 6 ∷ [])).count ≡ 2
in_cells_lem = refl

cells : length (retired_of (3 ∷ 6 ∷ [])).numbers ≡ 64
cells = refl

-- ---- full lists

-- so many numbers from a first one on
run : ℕ → ℕ → List ℕ
run first zero = []
run first (suc count) = first ∷ run (suc first) count

-- 11 to 42 and 51 to 82
full : List ℕ
full = run 11 32 ++ run 51 32

-- with 63 numbers there is room for one more
sixty_fourth : filed 5 (run 11 63) ≡ 5 ∷ run 11 63
unfolding run inserted kept
sixty_fourth = refl

-- with 64 the one just filed is dropped where it is the lowest,
just_filed_dropped : filed 5 full ≡ full
unfolding run full inserted kept
just_filed_dropped = refl

-- and else the lowest of those that were there
lowest_dropped : filed 45 full ≡ run 12 31 ++ 45 ∷ run 51 32
unfolding run full inserted kept
lowest_dropped = refl

highest_filed : filed 90 full ≡ run 12 31 ++ run 51 32 ++ 90 ∷ []
unfolding run full inserted kept
highest_filed = refl

-- three leave: 5, 11 and 12 are dropped, whatever the order
three_leave : filed_all (90 ∷ 5 ∷ 45 ∷ []) full ≡ run 13 30 ++ 45 ∷ run 51 32 ++ 90 ∷ []
unfolding run full inserted kept filed_all
three_leave = refl

other_order : filed_all (45 ∷ 90 ∷ 5 ∷ []) full ≡ filed_all (90 ∷ 5 ∷ 45 ∷ []) full
unfolding run full inserted kept filed_all
other_order = refl

-- of more than 64 the last are kept
more_than_full : kept (run 1 70) ≡ run 7 64
unfolding run kept
more_than_full = refl
