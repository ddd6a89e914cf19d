-- The request's own example as a call has it, computed: a table of two blocks in series, the sizes 3 and 4, and their path counts one after another.
-- Assumes nothing.
use mathlib.Core.Path.{◌≡◌, refl}
use mathlib.Core.List.{List, [], ◌∷◌}
use Prim.Native.Nat.{ℕ}
use lib.IntN.{ℤ, pos}
use Rattle.numbers.specs.Counts.{factorial, choose}
use Rattle.numbers.specs.Tables.{tabulate}
use Rattle.theory_sums.specs.Sums.{sum_below}
use Rattle.theory_sets.specs.Masks.{has}
use Rattle.theory_sets.specs.Tables.{in_table}
use Rattle.theory_figures.specs.Figures.{tail, signature}
use Rattle.theory_blocks.specs.Blocks.{product, ways, count_of_blocks}
use Rattle.vector_kind.specs.declared.Kind.TheVariants.{PathCounts, Signature}
use Rattle.vector_conversion.specs.Vectors.{scaled_count, unit_of, figure, converted}
use Rattle.blocks_checks.specs.Given.{start_of}
use Rattle.blocks.specs.Whole.{counts_of_blocks}

abbrev series : List ℕ
series = 8 ∷ []

abbrev sizes : List ℕ
sizes = 3 ∷ 4 ∷ []

-- (0, 0, 2, 1), of shares (1/3, 2/3, 0), and (0, 0, 2, 4, 1), of shares (0, 2/3, 1/3, 0)
abbrev vectors : List ℤ
vectors = pos 0 ∷ pos 0 ∷ pos 2 ∷ pos 1 ∷ pos 0 ∷ pos 0 ∷ pos 2 ∷ pos 4 ∷ pos 1 ∷ []

abbrev whole : List ℤ
whole = pos 0 ∷ pos 0 ∷ pos 0 ∷ pos 0 ∷ pos 4 ∷ pos 10 ∷ pos 6 ∷ pos 1 ∷ []

example_written : counts_of_blocks 2 series sizes vectors ≡ whole
unfolding tabulate count_of_blocks ways product choose has sum_below in_table scaled_count unit_of start_of
example_written = refl

-- "give orders 720, 1920, 1824, 576, 0, 0, 0"
example_orders : converted Signature PathCounts 7 whole ≡ pos 720 ∷ pos 1920 ∷ pos 1824 ∷ pos 576 ∷ pos 0 ∷ pos 0 ∷ pos 0 ∷ []
unfolding tabulate scaled_count unit_of figure signature tail factorial
example_orders = refl
