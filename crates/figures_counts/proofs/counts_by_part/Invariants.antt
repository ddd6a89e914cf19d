-- `figures_counts::counts_by_part` meets its contract: each word adds to each row its sets that have the row's part.
-- Assumes nothing.
use mathlib.Core.Path.{◌≡◌}
use mathlib.Core.Bool.{Bool, ◌&&◌}
use mathlib.Core.List.{List}
use Prim.Native.Nat.{ℕ, ◌/◌, ◌%◌}
use lib.ListN.{length}
use Rattle.numbers.specs.Tables.{tabulate}
use Rattle.structure_words.specs.Words.{in_words}
use Rattle.figures_counts.specs.Rows.{has_part}
use Rattle.figures_counts.proofs.Words.{sizes}
use Rattle.figures_counts.proofs.counts_by_part.Given as goal

-- the path sets that have a row's part
unfoldable pub chosen : List ℕ → ℕ → ℕ → Bool
chosen words part a = in_words words a && has_part part a

-- the count at an index, of the first words
unfoldable pub count_at : List ℕ → ℕ → ℕ → ℕ
count_at words at i = sizes (chosen words (i / 17)) at (i % 17)

abbrev pub invariant-loop-at : goal.invariant-loop-at
invariant-loop-at l = l.rows ≡ tabulate 289 (count_at l.words (length l.yielded))
