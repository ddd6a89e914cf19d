-- Blocks that are accepted, check by check (02, §10): that they are exactly those that nothing refuses is proved (proofs/Claims.antt).
use Rattle.std.specs.Prelude.{List, ◌≡◌, ℕ, ◌≤◌, ◌<◌, ℤ, length, Ok}
use Rattle.structure.specs.Checks.{table_refusal}
use Rattle.theory_blocks.specs.Blocks.{parts_in}
use Rattle.blocks_checks.specs.Given.{size_at, start_of}
use Rattle.blocks_checks.specs.Refusals.{block_refusal}

-- an accepted table over r blocks, r sizes of 1 to 16 parts, as many entries as all the vectors have, each vector accepted as path counts, and at
-- most 16 parts in all
pub record AcceptedBlocks (r : ℕ) (bytes sizes : List ℕ) (vectors : List ℤ) : Type 0 where
  pub table : table_refusal r bytes ≡ Ok tt
  pub enough : length sizes ≡ r
  pub sized : (b : ℕ) → b < r → (1 ≤ size_at sizes b) × (size_at sizes b ≤ 16)
  pub long : length vectors ≡ start_of sizes r
  pub judged : (b : ℕ) → b < r → block_refusal sizes vectors b ≡ Ok tt
  pub few : parts_in (size_at sizes) r ≤ 16
