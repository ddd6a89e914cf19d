-- The idle parts of a design (02, §9), and what it means that a change leaves the sets as they are.
use Rattle.std.specs.Prelude.{List, ◌≡◌, ℕ, take}
use Rattle.theory_sets.specs.Structures.{listed}
use Rattle.theory_sets.specs.Tables.{in_table, table_of}
use Rattle.theory_sets.specs.Idle.{idle_parts}
use Rattle.codec.specs.Reads.{found}
use Rattle.record_numbers.specs.Numbering.{named}
use Rattle.record_parts.specs.PartLists.{numbers_of}
use Rattle.record.specs.Records.{Design}
use Rattle.record_editions.specs.Editions.{whole_record}
use Rattle.record_lines.specs.Names.{named_sets}

-- the mask of the positions of a design's idle parts: what the call gives of the record's table
abbrev pub idle_mask : Design → ℕ
idle_mask d = idle_parts d.parts.count (in_table (table_of d.parts.count (listed d.sets)))

-- the numbers of these parts
abbrev pub idle_numbers : Design → List ℕ
idle_numbers d = named (numbers_of d.parts) (idle_mask d)

-- in front of a buffer stands a record that has the sets of the design, by part numbers
pub record SetsStay (d : Design) (buffer : List ℕ) (length : ℕ) : Type 0 where
  pub new : Design
  pub read : whole_record (take length buffer) ≡ found new length
  pub sets : named_sets new ≡ named_sets d
