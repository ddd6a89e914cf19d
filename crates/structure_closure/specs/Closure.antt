-- What follows upwards from a set function, and what of it is minimal, worked out part by part.
use Rattle.std.specs.Prelude.{Bool, not, ◌&&◌, ◌||◌, ℕ, zero, suc, ◌-◌, ◌^◌}
use Rattle.theory_sets.specs.Masks.{has, any}

-- the set has the part, and works without it
abbrev pub without : ℕ → (ℕ → Bool) → ℕ → Bool
without part works a = has a part && works (a - 2 ^ part)

-- the set works without some single one of the first n parts that it has
abbrev pub spare : ℕ → (ℕ → Bool) → ℕ → Bool
spare n works a = any (λ part. without part works a) n

-- the path sets carried over the first n parts: a set works if it does without some of these
unfoldable pub spread : ℕ → (ℕ → Bool) → ℕ → Bool
spread zero works a = works a
spread (suc n) works a = spread n works a || without n (spread n works) a

-- a path set that is none without any single one of its first n parts
unfoldable pub irredundant : ℕ → (ℕ → Bool) → ℕ → Bool
irredundant n works a = works a && not (spare n works a)
