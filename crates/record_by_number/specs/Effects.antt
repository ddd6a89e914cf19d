-- What a change by part numbers does, told by part numbers: which parts leave, and which set comes.
use mathlib.Core.List.{List, ◌∷◌, Memᴰ}
use Rattle.std.specs.Prelude.{◌↔◌, ◌≡◌, ℕ, take}
use Rattle.codec.specs.Reads.{found}
use Rattle.record_parts.specs.PartLists.{numbers_of}
use Rattle.record_parts.specs.Lines.{In}
use Rattle.record.specs.Records.{Design}
use Rattle.record_editions.specs.Editions.{whole_record}
use Rattle.record_lines.specs.Names.{named_sets, LeastNamed}
use Rattle.record_groups.specs.Without.{Without}

-- these are numbers of parts, and in front of a buffer stands the record of the design without them: their numbers are gone, with every set
-- that named one of them, and all else is there
pub record Leave (gone : List ℕ) (d : Design) (buffer : List ℕ) (length : ℕ) : Type 0 where
  pub in_use : (number : ℕ) → In number gone → In number (numbers_of d.parts)
  pub new : Design
  pub read : whole_record (take length buffer) ≡ found new length
  pub without : Without gone d new

-- these are numbers of parts, and in front of a buffer stands the record of the design with the same parts, whose minimal sets are the least of
-- the old ones and of one that has just the wanted numbers
pub record SetComes (wanted : List ℕ) (d : Design) (buffer : List ℕ) (length : ℕ) : Type 0 where
  pub in_use : (number : ℕ) → In number wanted → In number (numbers_of d.parts)
  pub new : Design
  pub read : whole_record (take length buffer) ≡ found new length
  pub parts : new.parts ≡ d.parts
  pub set : List ℕ
  pub wanted_ones : (number : ℕ) → In number set ↔ In number wanted
  pub least : (other : List ℕ) → Memᴰ other (named_sets new) ↔ LeastNamed (set ∷ named_sets d) other
