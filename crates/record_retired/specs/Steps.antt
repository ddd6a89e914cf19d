-- Where a number is put in, for the functions that put it there.
use Rattle.std.specs.Prelude.{cond, List, [], ◌∷◌, ℕ, suc, ltb}

-- how many numbers stand in front of the first that is above a number
unfoldable pub in_front : ℕ → List ℕ → ℕ
in_front number [] = 0
in_front number (other ∷ others) = cond (ltb number other) 0 (suc (in_front number others))
