-- Machines assembled from blocks that share no part (02, §10; 003, section 3). Blocks are numbered from 0, and so are the places of a block's parts,
-- which are the bits of its own masks, as the parts of the whole are the bits of the masks of the whole.
use Rattle.std.specs.Prelude.{Bool, ◌≡◌, ℕ, ◌<◌}
use Rattle.theory_sets.specs.Masks.{has}
use Rattle.theory_sets.specs.Tables.{packed}

-- Which part of the whole is which part of which block: each of the n parts stands at exactly one place of one of the r blocks, and each place of
-- a block has one part. Nothing says where a block's parts stand among the n.
pub record Assembly (n r : ℕ) (sizes : ℕ → ℕ) : Type 0 where
  pub part : ℕ → ℕ → ℕ
  pub block_of : ℕ → ℕ
  pub place_of : ℕ → ℕ
  pub part_below : (b p : ℕ) → b < r → p < sizes b → part b p < n
  pub block_below : (i : ℕ) → i < n → block_of i < r
  pub place_below : (i : ℕ) → i < n → place_of i < sizes (block_of i)
  pub part_there : (i : ℕ) → i < n → part (block_of i) (place_of i) ≡ i
  pub block_back : (b p : ℕ) → b < r → p < sizes b → block_of (part b p) ≡ b
  pub place_back : (b p : ℕ) → b < r → p < sizes b → place_of (part b p) ≡ p

-- a block's share of a set of the whole, as a set of the block's own parts
abbrev pub share_of : {n r : ℕ} {sizes : ℕ → ℕ} → Assembly n r sizes → ℕ → ℕ → ℕ
share_of {n} {r} {sizes} assembly b a = packed (sizes b) (λ p. has a (assembly.part b p))

-- "the whole runs on a set of parts exactly if the blocks that run on their share of it are a path set of the table"
unfoldable pub assembled : {n r : ℕ} {sizes : ℕ → ℕ} → Assembly n r sizes → (ℕ → Bool) → (ℕ → ℕ → Bool) → ℕ → Bool
assembled {n} {r} {sizes} assembly table blocks a = table (packed r (λ b. blocks b (share_of assembly b a)))
