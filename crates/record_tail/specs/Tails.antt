-- What stands behind the sets of a record of edition 2, at bytes from a position on (02, §8): "a count and the retired part numbers, strictly
-- rising, none 0, at most 64 of them, none above the mark and none in use, then φ(0) to φ(n)"; or which refusal at which place. Each number is
-- judged as it is read, and places are counted in the whole input.
use Rattle.std.specs.Prelude.{not, ◌||◌, List, [], ℕ, ltb, eqb, length, get_or, Ok, Err}
use Rattle.answer.specs.declared.Reason.TheVariants.{WrongRetired, DifferentCount}
use Rattle.answer.specs.Outcome.{refuse, Verdict}
use Rattle.codec.specs.declared.Field.TheVariants.{Count, PartNumber}
use Rattle.codec.specs.Reads.{Read, found, refused, then, Reading, answered}
use Rattle.codec.specs.FieldReads.{field_at, Judge, fields_at}
use Rattle.record_numbers.specs.Numbering.{misnumbered, names}
use Rattle.record_head.specs.Headings.{last_number}
use Rattle.record_retired.specs.declared.Retired.{Retired}
use Rattle.record_retired.specs.Retired.{most_retired, retired_of}

-- ---- the checks, with the number's first byte as place

-- how many numbers are retired, 30: more than 64
abbrev pub retired_count_refusal : ℕ → ℕ → Verdict
retired_count_refusal place count = refuse (ltb most_retired count) WrongRetired place (Ok tt)

-- a retired number, 30: not above the one before it (0 before the first), above the mark, or in use
abbrev pub retired_refusal : ℕ → List ℕ → ℕ → ℕ → ℕ → Verdict
retired_refusal mark in_use previous place number = refuse (misnumbered previous mark number || names number in_use) WrongRetired place (Ok tt)

abbrev pub retired_judge : ℕ → List ℕ → Judge
retired_judge mark in_use earlier = retired_refusal mark in_use (last_number 0 earlier)

-- a path count, 31: it is another than the one that it has to be
abbrev pub count_refusal : ℕ → ℕ → ℕ → Verdict
count_refusal right place count = refuse (not (eqb count right)) DifferentCount place (Ok tt)

-- the counts that have to stand there, one after the other
abbrev pub count_judge : List ℕ → Judge
count_judge counts earlier = count_refusal (get_or counts (length earlier) 0)

-- ---- what stands behind the sets

-- a count, and that many retired numbers
unfoldable pub retired_at : List ℕ → ℕ → List ℕ → ℕ → Read (List ℕ)
retired_at bytes mark in_use start =
    then (field_at bytes start Count (retired_count_refusal start)) (λ count next.
    fields_at bytes PartNumber (retired_judge mark in_use) count [] next)

-- the path counts
abbrev pub counts_at : List ℕ → List ℕ → ℕ → Read (List ℕ)
counts_at bytes counts start = fields_at bytes Count (count_judge counts) (length counts) [] start

-- both: what is found are the retired numbers
unfoldable pub tail_at : List ℕ → ℕ → List ℕ → List ℕ → ℕ → Read (List ℕ)
tail_at bytes mark in_use counts start =
    then (retired_at bytes mark in_use start) (λ retired next.
    then (counts_at bytes counts next) (λ same end.
    found retired end))

-- how it is answered: the retired numbers and the position after the path counts, or the refusal
abbrev pub tail_of : Read (List ℕ) → Reading Retired
tail_of (found retired next) = answered (retired_of retired) next
tail_of (refused refusal) = Err refusal
