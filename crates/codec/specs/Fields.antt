-- What the field of a number allows (01, "Records on disk", refusal 22, and 02, §7): a top value, and so a number of groups.
use Rattle.std.specs.Prelude.{ℕ, ◌-◌, ◌^◌}
use Rattle.codec.specs.declared.Field.{Field}
use Rattle.codec.specs.declared.Field.TheVariants.{Count, PartNumber, Set, Sheet}

-- the most groups that a number of the field may take
abbrev pub groups : Field → ℕ
groups Count = 5
groups PartNumber = 7
groups Set = 5
groups Sheet = 9

-- the largest number of the field
abbrev pub top : Field → ℕ
top Count = 2 ^ 32 - 1
top PartNumber = 2 ^ 48 - 1
top Set = 2 ^ 32 - 1
top Sheet = 2 ^ 63 - 1
