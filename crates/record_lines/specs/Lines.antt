-- Lines of changes (01, "Records on disk"; 02, §2 and §8): a line starts from one record, and each change is applied to what the last one gave.
-- The records along a line may be of either edition, and a line may convert them on the way.
use Rattle.std.specs.Prelude.{Bool, true, ◌⊎◌, ◌≡◌, ℕ, ◌^◌, ◌<◌, length, take, Ok, Err}
use mathlib.Core.List.{List, [], ◌∷◌, ◌++◌, Memᴰ}
use Rattle.answer.specs.Outcome.{Outcome, Numbered}
use Rattle.record_numbers.specs.Numbering.{named}
use Rattle.record_parts.specs.PartLists.{numbers_of}
use Rattle.record_parts.specs.Lines.{In, Line, given_number}
use Rattle.record_parts.specs.Changes.{part_added}
use Rattle.record.specs.Records.{Design}
use Rattle.record.specs.RecordBytes.{DesignRules}
use Rattle.record_retired.specs.Retired.{most_retired}
use Rattle.record_editions.specs.Editions.{Stored}
use Rattle.record_editions.specs.Contents.{edition_given}
use Rattle.record_lines.specs.Changes.{Change, add_part, take_out, take_out_group, add_set, convert, every, changed, left_in}
use Rattle.record_lines.specs.Names.{named_sets, runs}
use Rattle.record_lines.specs.Records.{changed_stored, changed_record}

-- ---- on record bytes

-- a call: a change, and the buffer lent for the new record
pub record Call : Type 0 where
  pub change : Change
  pub buffer : List ℕ

-- what a call leaves, by the definition that the entries' contracts cite
abbrev pub outcome_of : Call → List ℕ → Outcome Numbered (List ℕ)
outcome_of call bytes = changed_record call.change bytes call.buffer

-- the record after an answer: what was written, and the bytes as they were where the change was refused
abbrev pub record_after : Numbered → List ℕ → List ℕ → List ℕ
record_after (Ok n) buffer bytes = take n buffer
record_after (Err r) buffer bytes = bytes

abbrev pub after : Call → List ℕ → List ℕ
after call bytes = record_after (outcome_of call bytes).answer (outcome_of call bytes).buffer bytes

-- the record at the end of a line
abbrev pub last_of : List Call → List ℕ → List ℕ
last_of [] bytes = bytes
last_of (call ∷ calls) bytes = last_of calls (after call bytes)

-- the changes made along a line: those that were not refused
abbrev pub unless_refused : Numbered → Change → List Change
unless_refused (Ok n) change = change ∷ []
unless_refused (Err r) change = []

abbrev pub made_by : List Call → List ℕ → List Change
made_by [] bytes = []
made_by (call ∷ calls) bytes = unless_refused (outcome_of call bytes).answer call.change ++ made_by calls (after call bytes)

-- ---- what the changes made did to the design that was read

abbrev pub design_after : List Change → Design → Design
design_after [] d = d
design_after (change ∷ changes) d = design_after changes (changed change d)

-- the number issued in a change, and the set that it gave, by the part numbers then in use; if any. Those that left in it are its `left_in`.
abbrev pub issued_in : Change → Design → List ℕ
issued_in add_part d = given_number (part_added d.parts).answer
issued_in (take_out position) d = []
issued_in (take_out_group group) d = []
issued_in (add_set set) d = []
issued_in (convert edition) d = []

abbrev pub given_in : Change → Design → List (List ℕ)
given_in add_part d = []
given_in (take_out position) d = []
given_in (take_out_group group) d = []
given_in (add_set set) d = named (numbers_of d.parts) set ∷ []
given_in (convert edition) d = []

-- all of these along a line, in order
abbrev pub along : {A : Type 0} → (Change → Design → List A) → List Change → Design → List A
along each [] d = []
along each (change ∷ changes) d = each change d ++ along each changes (changed change d)

-- the design at the end of a line of calls, the numbers issued and those that left along it, and the sets given
abbrev pub last_design : List Call → List ℕ → Design → Design
last_design calls bytes d = design_after (made_by calls bytes) d

abbrev pub issued_by : List Call → List ℕ → Design → List ℕ
issued_by calls bytes d = along issued_in (made_by calls bytes) d

abbrev pub left_by : List Call → List ℕ → Design → List ℕ
left_by calls bytes d = along left_in (made_by calls bytes) d

abbrev pub given_by : List Call → List ℕ → Design → List (List ℕ)
given_by calls bytes d = along given_in (made_by calls bytes) d

-- What holds of a line from one design to another, along which some numbers are issued, some leave, and some sets are given.
pub record DesignLine (first last : Design) (issued left : List ℕ) (given : List (List ℕ)) : Type 0 where
  -- the last design is one as a record has it
  pub rules : DesignRules last
  -- the part lists are a line: the mark never falls, numbers issued rise above the first mark, none that left comes back
  pub parts : Line first.parts last.parts issued left
  -- each minimal set of the last design, by part numbers, is one of the first or was given by an add-set
  pub origin : (set : List ℕ) → Memᴰ set (named_sets last) → Memᴰ set (named_sets first) ⊎ Memᴰ set given
  -- and names no number that left
  pub clean : (set : List ℕ) → Memᴰ set (named_sets last) → (number : ℕ) → In number set → In number left → ⊥
  -- a set of the first design, or one given along the line, that names no number that left is still a path set: if all its parts work, the
  -- machine runs
  pub stays : (set : List ℕ) → Memᴰ set (named_sets first) ⊎ Memᴰ set given → ((number : ℕ) → In number set → In number left → ⊥)
      → (working : ℕ → Bool) → every working set ≡ true → runs last working ≡ true

-- a set, by part numbers, was given by an add-set, as a mask of the parts of the design at that moment, which were all in use
pub record GivenInUse (changes : List Change) (d : Design) (set : List ℕ) : Type 0 where
  pub earlier : List Change
  pub mask : ℕ
  pub later : List Change
  pub at : changes ≡ earlier ++ (add_set mask ∷ later)
  pub within : mask < 2 ^ (design_after earlier d).parts.count
  pub same : set ≡ named (numbers_of (design_after earlier d).parts) mask
  pub in_use : (number : ℕ) → In number set → In number (numbers_of (design_after earlier d).parts)

-- ---- the records themselves

-- what the changes made did to the record that was read
abbrev pub stored_after : List Change → Stored → Stored
stored_after [] s = s
stored_after (change ∷ changes) s = stored_after changes (changed_stored change s)

-- a line whose records are all of edition 2, by what `edition_of` answers
abbrev pub SecondThroughout : List Call → List ℕ → Type 0
SecondThroughout [] bytes = edition_given bytes ≡ Ok 2
SecondThroughout (call ∷ calls) bytes = (edition_given bytes ≡ Ok 2) × SecondThroughout calls (after call bytes)

-- what becomes of a number that is filed: it is one of the retired numbers, or there are 64 of these and all are higher
abbrev pub Filed : ℕ → List ℕ → Type 0
Filed number retired = In number retired ⊎ ((length retired ≡ most_retired) × ((other : ℕ) → In other retired → number < other))
