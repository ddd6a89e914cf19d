-- How a record of either edition is written (01, "Records on disk"; 02, §8), and what is asked of what stands in one.
use Rattle.std.specs.Prelude.{List, ◌∷◌, ◌++◌, ℕ}
use Rattle.record_parts.specs.PartLists.{numbers_of}
use Rattle.record.specs.RecordBytes.{record_bytes, DesignRules}
use Rattle.record_retired.specs.Retired.{RetiredRules}
use Rattle.record_tail.specs.TailBytes.{tail_bytes}
use Rattle.record_editions.specs.Editions.{Stored, first, second, fresh_counts}

-- the fields of edition 1; in edition 2 the numbers 0 and 2 in front of them, and behind them the retired numbers and the path counts
unfoldable pub stored_bytes : Stored → List ℕ
stored_bytes (first d) = record_bytes d
stored_bytes (second d retired) = 0 ∷ 2 ∷ (record_bytes d ++ tail_bytes retired (fresh_counts d))

-- a record as it is stored keeps the rules of its design, and in edition 2 those of retired numbers beside its mark and its part numbers
abbrev pub StoredRules : Stored → Type 0
StoredRules (first d) = DesignRules d
StoredRules (second d retired) = DesignRules d × RetiredRules d.parts.mark (numbers_of d.parts) retired
