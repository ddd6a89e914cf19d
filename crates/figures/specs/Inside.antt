-- What the private functions do: a reader of the promises may pass this file over.
use Rattle.std.specs.Prelude.{List, ◌≡◌, ℕ, suc, ◌-◌, ◌*◌, ◌≤◌, ◌<◌, ℤ, pos, length, get_or}
use Rattle.answer.specs.Outcome.{and_then, Verdict}
use Rattle.numbers.specs.Counts.{factorial}
use Rattle.numbers.specs.Tables.{tabulate, NoneOver}
use Rattle.theory_sums.specs.Sums.{sum_below}
use Rattle.theory_sets.specs.Tables.{in_table}
use Rattle.theory_orders.specs.Formulas.{path_count}
use Rattle.structure_words.specs.Words.{in_words, words_of}
use Rattle.structure.specs.Checks.{table_refusal}
use Rattle.figures_counts.specs.Rows.{rows_of, row}
use Rattle.figures.specs.All.{room_refusal}

-- ---- counts

-- a list of counts as a function
abbrev pub counts_of : List ℕ → ℕ → ℕ
counts_of counts s = get_or counts s 0

-- counts by size as entries
abbrev pub entries_of : List ℕ → List ℤ
entries_of counts = tabulate 17 (λ s. pos (counts_of counts s))

-- the path sets in a table's words, by size, and as rows of the parts
abbrev pub sized_in : List ℕ → List ℕ
sized_in table = tabulate 17 (path_count 16 (in_words (words_of (in_table table))))

abbrev pub rows_in : List ℕ → List ℕ
rows_in table = rows_of (in_words (words_of (in_table table)))

-- s! × (n-s-1)!
unfoldable pub part_weight : ℕ → ℕ → ℕ
part_weight n s = factorial s * factorial (n - suc s)

-- by size below s, the path sets with a part and those without it, each with its weight in the part's importance
unfoldable pub added_sets : ℕ → List ℕ → ℕ → ℕ
added_sets n with s = sum_below (λ i. counts_of with (suc i) * part_weight n i) s

unfoldable pub taken_sets : ℕ → List ℕ → List ℕ → ℕ → ℕ
taken_sets n counts with s = sum_below (λ i. (counts_of counts i - counts_of with i) * part_weight n i) s

-- counts of the sets with a part beside the counts of all
pub record Parted (n : ℕ) (counts with : List ℕ) : Type 0 where
  pub most : n ≤ 16
  pub few : NoneOver 65536 counts
  pub fewer : (s : ℕ) → counts_of with s ≤ counts_of counts s
  pub enough : taken_sets n counts with n ≤ added_sets n with n

-- ---- rows of counts

-- the importance of a part by the rows
unfoldable pub importance_by : ℕ → List ℕ → ℕ → ℕ
importance_by n rows i = added_sets n (row i rows) n - taken_sets n (row 16 rows) (row i rows) n

-- rows from which the importances of n parts can be worked out
pub record Rows (n : ℕ) (rows : List ℕ) : Type 0 where
  pub most : n ≤ 16
  pub long : length rows ≡ 289
  pub parted : (i : ℕ) → i < n → Parted n (row 16 rows) (row i rows)

-- ---- all figures

-- the checks of a table and of the lengths of four buffers
abbrev pub figures_refusal : ℕ → List ℕ → ℕ → ℕ → ℕ → ℕ → Verdict
figures_refusal n table counts signature domination importance =
    and_then (table_refusal n table) (room_refusal n counts signature domination importance)
