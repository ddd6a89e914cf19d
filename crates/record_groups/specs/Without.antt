-- A design without some parts, told by part numbers.
use Rattle.std.specs.Prelude.{◌≡◌, not, List, ℕ}
use Rattle.record_parts.specs.PartLists.{numbers_of}
use Rattle.record.specs.Records.{Design}
use Rattle.record.specs.RecordBytes.{DesignRules}
use Rattle.record_lines.specs.Changes.{keep}
use Rattle.record_lines.specs.Names.{named_sets, names_some}
use Rattle.record_numbers.specs.Numbering.{names}

-- one design is another without the parts of these numbers
pub record Without (gone : List ℕ) (old new : Design) : Type 0 where
  pub rules : DesignRules new
  pub mark : new.parts.mark ≡ old.parts.mark
  pub numbers : numbers_of new.parts ≡ keep (λ number. not (names number gone)) (numbers_of old.parts)
  pub sets : named_sets new ≡ keep (λ set. not (names_some gone set)) (named_sets old)
