-- A machine of four parts that has no idle part although its d(4) is 0 (003, Remark 4): no part idle is no proof that d(n) is not 0.
use Rattle.std.specs.Prelude.{Bool, List, [], ◌∷◌, ℕ}
use Rattle.theory_sets.specs.Structures.{listed}

-- {1,2}, {2,3}, {3,4}
abbrev pub pairs : List ℕ
pairs = 3 ∷ 6 ∷ 12 ∷ []

abbrev pub by_pairs : ℕ → Bool
by_pairs = listed pairs
