-- How many cells of a vector are looked at.
use Rattle.std.specs.Prelude.{cond, ℕ, ltb}
use Rattle.vector.specs.InStruct.{most_entries}

-- the cells that are looked at of a vector of that length: none where there are not so many
abbrev pub lent_cells : ℕ → ℕ
lent_cells count = cond (ltb most_entries count) 0 count
