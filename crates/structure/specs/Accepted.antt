-- An accepted structure in 01's own words ("Structures", "Counting"): that a table is one exactly where nothing refuses it is proved
-- (proofs/Acceptance.antt).
use Rattle.std.specs.Prelude.{false, List, ◌≡◌, ℕ, ◌≤◌, length}
use Rattle.theory_sets.specs.Structures.{Semicoherent}
use Rattle.theory_sets.specs.Tables.{in_table, table_length}
use Rattle.structure.specs.Checks.{unused}

-- a table of 1 to 16 parts that has the right length, bits for sets of n parts alone, and a semicoherent structure
pub record AcceptedTable (n : ℕ) (table : List ℕ) : Type 0 where
  pub some : 1 ≤ n
  pub few : n ≤ 16
  pub long : length table ≡ table_length n
  pub clear : unused n table ≡ false
  pub semicoherent : Semicoherent n (in_table table)
