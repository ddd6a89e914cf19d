-- Failure orders (01, "Counting"): the n positions in the order in which the parts fail. The first entry fails first.
use Rattle.std.specs.Prelude.{Bool, true, false, ◌&&◌, ◌≡◌, ℕ, zero, suc, ◌-◌, ◌^◌, eqb, leb}
use mathlib.Core.List.{List, [], ◌∷◌, map, flat_map}
use Rattle.theory_sums.specs.Sums.{indicator, sum, how_many}

-- i is a position of a machine of n parts: it is 1 to n
abbrev pub is_position : ℕ → ℕ → Bool
is_position n i = leb 1 i && leb i n

-- how often a number occurs in a list
abbrev pub times : ℕ → List ℕ → ℕ
times i list = how_many (λ j. eqb i j) list

-- "A failure order is a list of the n positions, each once": each position occurs once, and nothing else occurs.
abbrev pub IsOrder : ℕ → List ℕ → Type 0
IsOrder n list = (i : ℕ) → times i list ≡ indicator (is_position n i)

-- a position put in at each place of a list
unfoldable pub inserted : ℕ → List ℕ → List (List ℕ)
inserted i [] = (i ∷ []) ∷ []
inserted i (j ∷ rest) = (i ∷ j ∷ rest) ∷ map (λ list. j ∷ list) (inserted i rest)

-- the failure orders of n positions: the last position put in at each place of each order of the others
unfoldable pub orders : ℕ → List (List ℕ)
unfolding flat_map
orders zero = [] ∷ []
orders (suc n) = flat_map (inserted (suc n)) (orders n)

-- two lists have the same entries in the same order: by this test it is counted how often a list occurs among the orders
unfoldable pub same : List ℕ → List ℕ → Bool
same [] [] = true
same [] (j ∷ others) = false
same (i ∷ rest) [] = false
same (i ∷ rest) (j ∷ others) = eqb i j && same rest others

-- the set of the positions of a list, as a mask: position i is bit i - 1 (01, "Structures")
unfoldable pub mask : List ℕ → ℕ
mask list = sum (λ i. 2 ^ (i - 1)) list
