-- Families of sets none of which holds another, and how many sets of 16 parts they have at most.
use Rattle.std.specs.Prelude.{Bool, true, ◌≡◌, ℕ, ◌^◌, ◌<◌}
use Rattle.theory_sets.specs.Masks.{holds}

-- pairwise not nested: a set of the family that holds another is that other
abbrev pub Antichain : ℕ → (ℕ → Bool) → Type 0
Antichain n family = (a b : ℕ) → a < 2 ^ n → b < 2 ^ n → family a ≡ true → family b ≡ true → holds a b ≡ true → a ≡ b

-- the most sets that a list may have (01, "Structures"): all sets of 8 of 16 parts
abbrev pub most_sets : ℕ
most_sets = 12870
