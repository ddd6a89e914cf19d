-- What opening a record finds (01, "Records on disk"; 02, §8): its part list, the number of its sets and these sets in front of an array, its
-- edition and its retired numbers, or the refusal.
use Rattle.std.specs.Prelude.{List, [], ◌++◌, ℕ, length, drop, replicate, Ok, Err}
use Rattle.record_parts.specs.PartLists.{list_of}
use Rattle.codec.specs.Reads.{Read, found, refused}
use Rattle.record_retired.specs.Retired.{retired_of}
use Rattle.record_editions.specs.declared.Edition.TheVariants.{First}
use Rattle.record_editions.specs.Editions.{Stored, design_of, retired_in, edition_of}
use Rattle.record_opening.specs.declared.Opened.{Opened}

-- sets in front of an array that has room for as many as a record can have; the cells behind them hold 0
abbrev pub set_cells : List ℕ → List ℕ
set_cells sets = sets ++ drop (length sets) (replicate 12870 0)

-- the record that was read; or the refusal, with a list of no parts and no sets
abbrev pub opened_of : Read Stored → Opened
opened_of (found s next) = record {
  list = (design_of s).parts;
  count = length (design_of s).sets;
  sets = set_cells (design_of s).sets;
  edition = edition_of s;
  retired = retired_of (retired_in s);
  verdict = (Ok tt);
}
opened_of (refused refusal) =
    record { list = list_of 0 []; count = 0; sets = set_cells []; edition = First; retired = retired_of []; verdict = Err refusal }
