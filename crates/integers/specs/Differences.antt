-- The difference of two counts, and the range in which the calculator gives it.
use Rattle.std.specs.Prelude.{cond, ◌&&◌, ℕ, ◌^◌, ltb, ℤ, pos, ◌-ℤ◌}

-- what was added less what was taken, for counts below 2^62, and 0 where one is larger
abbrev pub difference : ℕ → ℕ → ℤ
difference added taken = cond (ltb added (2 ^ 62) && ltb taken (2 ^ 62)) (pos added -ℤ pos taken) (pos 0)
