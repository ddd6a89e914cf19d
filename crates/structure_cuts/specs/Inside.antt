-- What the private functions do: a reader of the promises may pass this file over.
use Rattle.std.specs.Prelude.{Bool, cond, ◌&&◌, ℕ, zero, suc, ◌+◌, ◌-◌, ◌^◌, ltb}
use Rattle.theory_sets.specs.Masks.{has}
use Rattle.theory_sets.specs.Tables.{packed}
use Rattle.theory_cuts.specs.Cuts.{cut}

-- the cut sets of n parts, and no mask beyond those of n parts
abbrev pub cuts_within : ℕ → (ℕ → Bool) → ℕ → Bool
cuts_within n works a = ltb a (2 ^ n) && cut n works a

-- the index without the part if it has it, and with it if it lacks it
unfoldable pub exchanged_index : ℕ → ℕ → ℕ
exchanged_index part k = cond (has k part) (k - 2 ^ part) (k + 2 ^ part)

-- the index with each of the first parts exchanged in this way
unfoldable pub turned_index : ℕ → ℕ → ℕ
turned_index zero k = k
turned_index (suc parts) k = turned_index parts (exchanged_index parts k)

-- a word with its bits in the opposite order
abbrev pub backwards : ℕ → ℕ
backwards word = packed 64 (λ k. has word (63 - k))
