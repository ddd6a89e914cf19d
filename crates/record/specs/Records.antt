-- What design record of edition 1 stands at bytes from a position on (01, "Records on disk"), or which refusal at which place: each number is
-- judged as it is read, and places are counted in the whole input. In a record of edition 2 the same fields stand behind the edition.
use Rattle.std.specs.Prelude.{Bool, false, ◌||◌, List, [], ◌∷◌, ℕ, leb, Ok}
use Rattle.answer.specs.declared.Reason.TheVariants.{WrongSet}
use Rattle.answer.specs.Outcome.{refuse, Verdict}
use Rattle.answer.specs.Checks.{mask_refusal}
use Rattle.codec.specs.declared.Field.TheVariants.{Set}
use Rattle.codec.specs.Reads.{Read, found, then}
use Rattle.codec.specs.FieldReads.{fields_at}
use Rattle.record_parts.specs.declared.PartList.{PartList}
use Rattle.theory_sets.specs.Masks.{holds}
use Rattle.record_head.specs.Headings.{head_at}

-- ---- the checks of a set, with its first byte as place

-- a set that does not rise above every earlier one, or holds one of them
unfoldable pub misplaced : List ℕ → ℕ → Bool
misplaced [] set = false
misplaced (other ∷ earlier) set = leb set other || (holds set other || misplaced earlier set)

-- a set of n parts: 4, 5, and then 24 against every earlier one. It is a number of 32 bits before it is a mask.
abbrev pub set_refusal : ℕ → List ℕ → ℕ → ℕ → Verdict
set_refusal n earlier place set = mask_refusal n place set (refuse (misplaced earlier set) WrongSet place (Ok tt))

-- ---- the record

-- so many sets of n parts more, behind the earlier ones
abbrev pub sets_at : List ℕ → ℕ → ℕ → List ℕ → ℕ → Read (List ℕ)
sets_at bytes n = fields_at bytes Set (set_refusal n)

-- a design: its part list and its minimal sets
pub record Design : Type 0 where
  pub parts : PartList
  pub sets : List ℕ

abbrev pub design : PartList → List ℕ → Design
design parts sets = record { parts = parts; sets = sets }

-- a design where it stands: the bytes of its sets, from the first set's first byte to behind the last set's last
pub record DesignAt : Type 0 where
  pub design : Design
  pub begin : ℕ
  pub end : ℕ

abbrev pub design_at : PartList → List ℕ → ℕ → ℕ → DesignAt
design_at parts sets begin end = record { design = design parts sets; begin = begin; end = end }

-- the design record at that position, with the position after it; what stands there is not looked at
unfoldable pub record_at : List ℕ → ℕ → Read DesignAt
record_at bytes start =
    then (head_at bytes start) (λ head begin.
    then (sets_at bytes head.parts.count head.count [] begin) (λ sets end.
    found (design_at head.parts sets begin end) end))
