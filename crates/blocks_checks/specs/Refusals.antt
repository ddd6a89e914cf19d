-- What refuses blocks (02, §10): "Checks after the table: 12, not r sizes; 1, for each size; 12, the vectors' total length; 13 and 14, vector by
-- vector; then 33, the blocks have more than 16 parts in all, place 0."
use Rattle.std.specs.Prelude.{not, List, ℕ, zero, suc, ltb, eqb, ℤ, length, Ok}
use Rattle.answer.specs.Checks.{part_count_refusal}
use Rattle.answer.specs.Outcome.{refuse, and_then, Verdict}
use Rattle.answer.specs.declared.Reason.TheVariants.{WrongVectorLength, ManyParts}
use Rattle.structure.specs.Checks.{table_refusal}
use Rattle.theory_blocks.specs.Blocks.{parts_in}
use Rattle.vector_kind.specs.declared.Kind.TheVariants.{PathCounts}
use Rattle.vector_conversion.specs.Vectors.{vector_refusal}
use Rattle.blocks_checks.specs.Given.{size_at, start_of, block_vector}

-- the first refusal of so many verdicts, in their order
unfoldable pub first_refusal : (ℕ → Verdict) → ℕ → Verdict
first_refusal verdict zero = (Ok tt)
first_refusal verdict (suc b) = and_then (first_refusal verdict b) (verdict b)

-- that of the sizes of the first b blocks: 1
abbrev pub sizes_refusal : List ℕ → ℕ → Verdict
sizes_refusal sizes = first_refusal (λ b. part_count_refusal 0 (size_at sizes b) (Ok tt))

-- that of block b's vector, judged by itself as path counts: 13 and 14, at the size within it
abbrev pub block_refusal : List ℕ → List ℤ → ℕ → Verdict
block_refusal sizes vectors b = vector_refusal PathCounts (size_at sizes b) (block_vector sizes vectors b)

-- that of the vectors of the first b blocks, each whole before the next
abbrev pub vectors_refusal : List ℕ → List ℤ → ℕ → Verdict
vectors_refusal sizes vectors = first_refusal (block_refusal sizes vectors)

-- what comes after the sizes are found to be right
unfoldable pub block_counts_refusal : ℕ → List ℕ → List ℤ → Verdict
block_counts_refusal r sizes vectors =
    refuse (not (eqb (length vectors) (start_of sizes r))) WrongVectorLength 0
    (and_then (vectors_refusal sizes vectors r) (refuse (ltb 16 (parts_in (size_at sizes) r)) ManyParts 0 (Ok tt)))

-- the first refusal of a table over r blocks, their sizes and their vectors
unfoldable pub blocks_refusal : ℕ → List ℕ → List ℕ → List ℤ → Verdict
blocks_refusal r table sizes vectors =
    and_then (table_refusal r table)
    (refuse (not (eqb (length sizes) r)) WrongVectorLength 0 (and_then (sizes_refusal sizes r) (block_counts_refusal r sizes vectors)))
