-- The numbers of the first parts, 1 to n, in an array of sixteen.
-- Assumes nothing.
use mathlib.Core.Path.{◌≡◌, refl, ap, ◌∙◌}
use mathlib.Core.List.{List, [], ◌∷◌}
use Prim.Native.Nat.{ℕ, ◌+◌, ◌≤◌}
use lib.ListN.{take}
use Rattle.numbers.specs.Tables.{tabulate}
use Rattle.numbers.proofs.Tables.{take_tabulate}

abbrev pub sixteen : List ℕ
sixteen = 1 ∷ 2 ∷ 3 ∷ 4 ∷ 5 ∷ 6 ∷ 7 ∷ 8 ∷ 9 ∷ 10 ∷ 11 ∷ 12 ∷ 13 ∷ 14 ∷ 15 ∷ 16 ∷ []

-- the first n of 1 to 16
pub first_numbers : (n : ℕ) → n ≤ 16 → take n sixteen ≡ tabulate n (λ i. i + 1)
unfolding tabulate
first_numbers n h = ap (take n) all ∙ take_tabulate n 16 (λ i. i + 1) h
  where
    all : sixteen ≡ tabulate 16 (λ i. i + 1)
    all = refl
