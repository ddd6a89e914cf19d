-- A set of parts and a group of parts, both as masks (01, "Structures").
use Rattle.std.specs.Prelude.{Bool, not, cond, ℕ, zero, suc, ◌+◌, ◌*◌, ◌/◌, ◌%◌, eqb}
use Rattle.theory_sets.specs.Masks.{has, meet}

-- a set has some part of the group
unfoldable pub meets : ℕ → ℕ → Bool
meets group set = not (eqb (meet set group) 0)

-- A set of n positions without those of the group, "higher positions move down": bit by bit from the lowest, a position of the group is skipped,
-- and another is kept in front of the rest.
unfoldable pub squeezed : ℕ → ℕ → ℕ → ℕ
squeezed zero group set = 0
squeezed (suc n) group set =
    cond (has group 0) (squeezed n (group / 2) (set / 2)) (set % 2 + 2 * squeezed n (group / 2) (set / 2))
