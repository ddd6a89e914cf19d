-- What a slice of bytes holds.
use Rattle.std.specs.Prelude.{List, ℕ, ◌<◌, get_or}

-- every element is below 256
abbrev pub Bytes : List ℕ → Type 0
Bytes bytes = (i : ℕ) → get_or bytes i 0 < 256
