-- Edges of vectors, computed; 01's own † examples are in the list of `examples_proved`. Assumes nothing.
use mathlib.Core.Path.{◌≡◌, refl}
use mathlib.Core.List.{[], ◌∷◌}
use lib.IntN.{pos, negsuc, pow, one}
use Rattle.std.specs.Prelude.{Err}
use Rattle.numbers.specs.Counts.{factorial, choose}
use Rattle.numbers.specs.Tables.{tabulate}
use Rattle.theory_sums.specs.Sums.{sum_belowℤ}
use Rattle.theory_sets.specs.Masks.{any, those}
use Rattle.answer.specs.declared.Reason.TheVariants.{WrongPartCount, WrongVectorLength, WrongPathCount, FallingProportion}
use Rattle.answer.specs.Outcome.{at}
use Rattle.theory_figures.specs.Figures.{domination}
use Rattle.vector_conversion.specs.Vectors.{scaled_count, unit_of, wrong_count, falls, path_counts_refusal, counts_refusal, vector_refusal, figure, converted}
use Rattle.vector_kind.specs.declared.Kind.TheVariants.{PathCounts, Tail, Signature, Domination}

-- with faults at the indexes 1 and 4 the smaller size is reported
smallest_size : vector_refusal Tail 5 (pos 120 ∷ pos 119 ∷ pos 96 ∷ pos 24 ∷ pos 1 ∷ pos 0 ∷ []) ≡ Err (at WrongPathCount 1)
unfolding factorial choose sum_belowℤ any those scaled_count unit_of wrong_count falls path_counts_refusal counts_refusal vector_refusal
smallest_size = refl

-- all of 13 before any of 14
count_before_proportion : vector_refusal PathCounts 3 (pos 0 ∷ pos 3 ∷ pos 2 ∷ pos 2 ∷ []) ≡ Err (at WrongPathCount 3)
unfolding factorial choose sum_belowℤ any those scaled_count unit_of wrong_count falls path_counts_refusal counts_refusal vector_refusal
count_before_proportion = refl

-- a total other than n! shows at the latest at n
total_small : vector_refusal Signature 3 (pos 0 ∷ pos 0 ∷ pos 0 ∷ []) ≡ Err (at WrongPathCount 3)
unfolding factorial choose sum_belowℤ any those scaled_count unit_of wrong_count falls path_counts_refusal counts_refusal vector_refusal
total_small = refl

total_large : vector_refusal Signature 3 (pos 0 ∷ pos 6 ∷ pos 6 ∷ []) ≡ Err (at WrongPathCount 2)
unfolding factorial choose sum_belowℤ any those scaled_count unit_of wrong_count falls path_counts_refusal counts_refusal vector_refusal
total_large = refl

-- a negative entry of a signature is 13 or 14
negative_count : vector_refusal Signature 3 (pos 3 ∷ negsuc 2 ∷ pos 6 ∷ []) ≡ Err (at WrongPathCount 2)
unfolding factorial choose sum_belowℤ any those scaled_count unit_of wrong_count falls path_counts_refusal counts_refusal vector_refusal
negative_count = refl

negative_falling : vector_refusal Signature 3 (pos 2 ∷ negsuc 1 ∷ pos 6 ∷ []) ≡ Err (at FallingProportion 1)
unfolding factorial choose sum_belowℤ any those scaled_count unit_of wrong_count falls path_counts_refusal counts_refusal vector_refusal
negative_falling = refl

-- a sum that wraps at 64 bits is far from n!
large_entries : vector_refusal Signature 2 (negsuc 9223372036854775804 ∷ pos 9223372036854775807 ∷ []) ≡ Err (at WrongPathCount 1)
unfolding factorial choose sum_belowℤ any those scaled_count unit_of wrong_count falls path_counts_refusal counts_refusal vector_refusal
large_entries = refl

domination_first : vector_refusal Domination 1 (pos 1 ∷ pos 0 ∷ []) ≡ Err (at WrongPathCount 0)
unfolding factorial choose sum_belowℤ any those scaled_count unit_of wrong_count falls path_counts_refusal counts_refusal vector_refusal
domination_first = refl

-- longer is a wrong length too, and n comes first
wrong_length : vector_refusal Signature 3 (pos 0 ∷ pos 6 ∷ pos 0 ∷ pos 0 ∷ []) ≡ Err (at WrongVectorLength 0)
unfolding vector_refusal
wrong_length = refl

parts_first : vector_refusal Signature 17 (pos 0 ∷ []) ≡ Err (at WrongPartCount 0)
unfolding vector_refusal
parts_first = refl

-- the bridge's tail as its domination
bridge : converted Domination Tail 5 (pos 120 ∷ pos 120 ∷ pos 96 ∷ pos 24 ∷ pos 0 ∷ pos 0 ∷ [])
    ≡ pos 0 ∷ pos 0 ∷ pos 2 ∷ pos 2 ∷ negsuc 4 ∷ pos 2 ∷ []
unfolding factorial choose tabulate sum_belowℤ scaled_count unit_of figure domination pow one
bridge = refl
