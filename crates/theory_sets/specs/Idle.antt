-- Idle parts of a structure (02, §9); 003 calls them irrelevant, and a semicoherent structure that has none coherent. A part is told by its bit
-- of a mask, from 0.
use Rattle.std.specs.Prelude.{Bool, not, ℕ, ◌^◌}
use Rattle.std.specs.Bool.{xor}
use Rattle.theory_sets.specs.Masks.{join, any}
use Rattle.theory_sets.specs.Tables.{packed}

-- adding the part to the set changes whether the machine runs
abbrev pub pivotal : (ℕ → Bool) → ℕ → ℕ → Bool
pivotal works part a = xor (works (join a (2 ^ part))) (works a)

-- "A part is idle if adding it to a set never changes whether the machine runs."
unfoldable pub idle : ℕ → (ℕ → Bool) → ℕ → Bool
idle n works part = not (any (pivotal works part) (2 ^ n))

-- the mask of the idle ones of n parts
unfoldable pub idle_parts : ℕ → (ℕ → Bool) → ℕ
idle_parts n works = packed n (idle n works)
