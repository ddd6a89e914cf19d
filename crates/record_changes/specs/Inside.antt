-- What the private functions write: a reader of the promises may pass this file over.
use Rattle.std.specs.Prelude.{List, ◌∷◌, ◌++◌, ℕ, take}
use Rattle.record.specs.Records.{Design}
use Rattle.record.specs.RecordBytes.{record_bytes}
use Rattle.record_retired.specs.declared.Retired.{Retired}
use Rattle.record_tail.specs.TailBytes.{tail_bytes}

-- the numbers that stand in front of the cells
abbrev pub retired_numbers : Retired → List ℕ
retired_numbers retired = take retired.count retired.numbers

-- a record of edition 2 with these path counts
abbrev pub second_bytes : Design → List ℕ → List ℕ → List ℕ
second_bytes d retired counts = 0 ∷ 2 ∷ (record_bytes d ++ tail_bytes retired counts)
