-- What the private functions do: a reader of the promises may pass this file over.
use Rattle.std.specs.Prelude.{cond, List, [], ◌≡◌, ℕ, ◌+◌, ◌-◌, ◌≤◌, ◌<◌, ltb, length, get_or, replicate, ℤ, pos, nat_abs}
use Rattle.numbers.specs.Counts.{choose}
use Rattle.numbers.specs.Tables.{tabulate, NoneOver}
use Rattle.theory_blocks.specs.Blocks.{product, parts_in}
use Rattle.blocks_checks.specs.Given.{size_at}

-- a row of 17 numbers for each of 16 blocks: of the first r blocks what f says, and zeros behind them
unfoldable pub row_in : ℕ → (ℕ → ℕ → ℕ) → ℕ → List ℕ
row_in r f b = cond (ltb b r) (tabulate 17 (f b)) (replicate 17 0)

abbrev pub rows_of : ℕ → (ℕ → ℕ → ℕ) → List (List ℕ)
rows_of r f = tabulate 16 (row_in r f)

-- a list of numbers as a function
abbrev pub cells_of : List ℕ → ℕ → ℕ
cells_of cells j = get_or cells j 0

-- the number j of row b, and 0 beyond the row
abbrev pub row_at : List (List ℕ) → ℕ → ℕ → ℕ
row_at rows b = cells_of (get_or rows b [])

-- the count that an entry of a vector stands for, and a count as an entry
unfoldable pub count_at : List ℤ → ℕ → ℕ
count_at vector j = nat_abs (get_or vector j (pos 0))

unfoldable pub entry_at : List ℕ → ℕ → ℤ
entry_at counts j = pos (cells_of counts j)

-- on how many sets of a size a block is stopped
unfoldable pub stopped_of : ℕ → List ℕ → ℕ → ℕ
stopped_of size running j = choose size j - cells_of running j

unfoldable pub stopped_at : List ℕ → List (List ℕ) → ℕ → ℕ → ℕ
stopped_at sizes running b = stopped_of (size_at sizes b) (get_or running b [])

-- of blocks that have at most 16 parts in all, the rows of the sets on which each block runs and of those on which it is stopped
pub record BothRows (sizes : List ℕ) (running stopped : List (List ℕ)) : Type 0 where
  pub blocks : length sizes ≤ 16
  pub few : parts_in (size_at sizes) (length sizes) ≤ 16
  pub most : (b : ℕ) → b < length sizes → (j : ℕ) → row_at running b j ≤ choose (size_at sizes b) j
  pub rest : (b : ℕ) → b < length sizes → (j : ℕ) → row_at stopped b j ≡ choose (size_at sizes b) j - row_at running b j

-- the path count of size k where a block joins others: these have some counts if it runs, and others if it is stopped
unfoldable pub joined_count : List ℕ → List ℕ → List ℕ → List ℕ → ℕ → ℕ
joined_count running stopped with without k =
    product (cells_of running) (cells_of with) k + product (cells_of stopped) (cells_of without) k

-- rows and counts that are small enough to be multiplied and added up: of a block of so many parts, and of those that it joins
pub record Joining (size : ℕ) (running stopped with without : List ℕ) : Type 0 where
  pub parts : size ≤ 16
  pub most_running : (i : ℕ) → cells_of running i ≤ choose size i
  pub most_stopped : (i : ℕ) → cells_of stopped i ≤ choose size i
  pub few_with : NoneOver 12870 with
  pub few_without : NoneOver 12870 without
