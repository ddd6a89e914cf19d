-- The path counts of a machine made of the blocks that are given (02, §10): of n parts in all, φ(0) to φ(n).
use Rattle.std.specs.Prelude.{Bool, List, ◌≡◌, ℕ, ◌+◌, ◌<◌, ℤ, pos}
use Rattle.numbers.specs.Tables.{tabulate}
use Rattle.theory_sets.specs.Tables.{in_table}
use Rattle.theory_figures.specs.Figures.{path_counts}
use Rattle.theory_blocks.specs.Blocks.{count_of_blocks, parts_in}
use Rattle.blocks_checks.specs.Given.{size_at, block_vector, block_counts}

-- how many parts the blocks have in all
abbrev pub parts_of_blocks : ℕ → List ℕ → ℕ
parts_of_blocks r sizes = parts_in (size_at sizes) r

-- the path count of size j of the whole
abbrev pub count_given : ℕ → List ℕ → List ℕ → List ℤ → ℕ → ℕ
count_given r table sizes vectors j = count_of_blocks (size_at sizes) (block_counts sizes vectors) r (in_table table) j

-- all of them, as the entries of a vector
abbrev pub counts_of_blocks : ℕ → List ℕ → List ℕ → List ℤ → List ℤ
counts_of_blocks r table sizes vectors = tabulate (parts_of_blocks r sizes + 1) (λ j. pos (count_given r table sizes vectors j))

-- machines that have, block by block, the path counts that are given
abbrev pub HaveCounts : ℕ → List ℕ → List ℤ → (ℕ → ℕ → Bool) → Type 0
HaveCounts r sizes vectors blocks = (b : ℕ) → b < r → path_counts (size_at sizes b) (blocks b) ≡ block_vector sizes vectors b
