-- Refusals of blocks, computed: the request's own example is accepted, places are sizes within a block's own vector, each vector is judged whole before
-- the next, and 33 comes after all of them. Assumes nothing.
use mathlib.Core.Path.{◌≡◌, refl}
use mathlib.Core.List.{List, [], ◌∷◌, ◌++◌}
use Prim.Native.Nat.{ℕ}
use lib.IntN.{ℤ, pos}
use lib.ListN.{replicate}
use Rattle.std.specs.Prelude.{Ok, Err}
use Rattle.numbers.specs.Counts.{choose}
use Rattle.theory_sums.specs.Sums.{sum_below}
use Rattle.theory_sets.specs.Masks.{has, any, those}
use Rattle.theory_sets.specs.Structures.{broken}
use Rattle.theory_sets.specs.Tables.{in_table}
use Rattle.answer.specs.declared.Reason.TheVariants.{WrongPartCount, WrongVectorLength, WrongPathCount, FallingProportion, ManyParts}
use Rattle.answer.specs.Outcome.{at}
use Rattle.structure.specs.Checks.{table_refusal}
use Rattle.vector_conversion.specs.Vectors.{scaled_count, unit_of, wrong_count, falls, path_counts_refusal, counts_refusal, vector_refusal}
use Rattle.blocks_checks.specs.Given.{start_of}
use Rattle.blocks_checks.specs.Refusals.{first_refusal, block_counts_refusal, blocks_refusal}

-- two blocks in series
abbrev series : List ℕ
series = 8 ∷ []

example_accepted : blocks_refusal 2 series (3 ∷ 4 ∷ []) (pos 0 ∷ pos 0 ∷ pos 2 ∷ pos 1 ∷ pos 0 ∷ pos 0 ∷ pos 2 ∷ pos 4 ∷ pos 1 ∷ []) ≡ Ok tt
unfolding blocks_refusal block_counts_refusal first_refusal start_of table_refusal vector_refusal counts_refusal path_counts_refusal wrong_count falls scaled_count unit_of choose any those broken has in_table sum_below
example_accepted = refl

-- the second block of one part says that two sets of one part run it: 13 at its size 1, which stands at index 3 of the list
place_within : blocks_refusal 2 series (1 ∷ 1 ∷ []) (pos 0 ∷ pos 1 ∷ pos 0 ∷ pos 2 ∷ []) ≡ Err (at WrongPathCount 1)
unfolding blocks_refusal block_counts_refusal first_refusal start_of table_refusal vector_refusal counts_refusal path_counts_refusal wrong_count falls scaled_count unit_of choose any those broken has in_table sum_below
place_within = refl

-- 14 of the first vector before 13 of the second
first_before_second : blocks_refusal 2 series (3 ∷ 1 ∷ []) (pos 0 ∷ pos 3 ∷ pos 2 ∷ pos 1 ∷ pos 0 ∷ pos 2 ∷ []) ≡ Err (at FallingProportion 1)
unfolding blocks_refusal block_counts_refusal first_refusal start_of table_refusal vector_refusal counts_refusal path_counts_refusal wrong_count falls scaled_count unit_of choose any those broken has in_table sum_below
first_before_second = refl

-- 17 parts: 33, but 13 where the second vector is wrong too
abbrev nine : List ℤ
nine = replicate 9 (pos 0) ++ (pos 1 ∷ [])

abbrev eight_and : ℤ → List ℤ
eight_and last = replicate 8 (pos 0) ++ (last ∷ [])

seventeen_parts : blocks_refusal 2 series (9 ∷ 8 ∷ []) (nine ++ eight_and (pos 1)) ≡ Err (at ManyParts 0)
unfolding blocks_refusal block_counts_refusal first_refusal start_of table_refusal vector_refusal counts_refusal path_counts_refusal wrong_count falls scaled_count unit_of choose any those broken has in_table sum_below
seventeen_parts = refl

wrong_before_many : blocks_refusal 2 series (9 ∷ 8 ∷ []) (nine ++ eight_and (pos 2)) ≡ Err (at WrongPathCount 8)
unfolding blocks_refusal block_counts_refusal first_refusal start_of table_refusal vector_refusal counts_refusal path_counts_refusal wrong_count falls scaled_count unit_of choose any those broken has in_table sum_below
wrong_before_many = refl

-- a size of 17 is 1 at place 0, before the length of the vectors is asked for; sizes too few are 12 before that
size_first : blocks_refusal 2 series (1 ∷ 17 ∷ []) [] ≡ Err (at WrongPartCount 0)
unfolding blocks_refusal first_refusal table_refusal any broken has in_table
size_first = refl

sizes_first : blocks_refusal 2 series (17 ∷ []) [] ≡ Err (at WrongVectorLength 0)
unfolding blocks_refusal table_refusal any broken has in_table
sizes_first = refl
