-- Blocks as they are given (02, §10): "Block sizes come in one list, the vectors one after another in a second." Blocks are numbered from 0, as the
-- bits of a set of them are.
use Rattle.std.specs.Prelude.{List, ℕ, ◌+◌, ℤ, get_or, take, drop}
use Rattle.theory_sums.specs.Sums.{sum_below}
use Rattle.vector_kind.specs.declared.Kind.TheVariants.{PathCounts}
use Rattle.vector_conversion.specs.Vectors.{counts_of}

-- how many parts block b has
abbrev pub size_at : List ℕ → ℕ → ℕ
size_at sizes b = get_or sizes b 0

-- where the vector of block b starts: behind those of the blocks before it, n + 1 entries for one of n parts
unfoldable pub start_of : List ℕ → ℕ → ℕ
start_of sizes b = sum_below (λ c. size_at sizes c + 1) b

-- the vector of block b
abbrev pub block_vector : List ℕ → List ℤ → ℕ → List ℤ
block_vector sizes vectors b = take (size_at sizes b + 1) (drop (start_of sizes b) vectors)

-- the path counts of block b
abbrev pub block_counts : List ℕ → List ℤ → ℕ → ℕ → ℕ
block_counts sizes vectors b = counts_of PathCounts (size_at sizes b) (block_vector sizes vectors b)
