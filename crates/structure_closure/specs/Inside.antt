-- What the private functions do: a reader of the promises may pass this file over.
use Rattle.std.specs.Prelude.{Bool, cond, not, ℕ, ◌+◌, ◌^◌}
use Rattle.theory_sets.specs.Masks.{has, any}

-- the set works with the part, which it may have already
abbrev pub with : ℕ → (ℕ → Bool) → ℕ → Bool
with part works a = cond (has a part) (works a) (works (a + 2 ^ part))

-- with some single one of the first n parts the set does not work
abbrev pub failing_above : ℕ → (ℕ → Bool) → ℕ → Bool
failing_above n works a = any (λ part. not (with part works a)) n
