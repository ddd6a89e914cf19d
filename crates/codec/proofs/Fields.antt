-- What holds of every field's top value and number of groups. All other laws go over these two, and know no field by its name.
-- Assumes nothing.
use Prim.Native.Nat.{ℕ, ◌^◌, ◌≤◌, ◌<◌}
use native.Mathlib.Omega.{arith}
use Rattle.codec.specs.declared.Field.{Field}
use Rattle.codec.specs.declared.Field.TheVariants.{Count, PartNumber, Set, Sheet}
use Rattle.codec.specs.Fields.{groups, top}

-- there is a group, nine at most, which are 63 bits, and the groups hold the top value
pub record Allowed (most high : ℕ) : Type 0 where
  pub some : 1 ≤ most
  pub few : most ≤ 9
  pub holds : high < 128 ^ most

pub allowed : (field : Field) → Allowed (groups field) (top field)
allowed Count = omega arith
allowed PartNumber = omega arith
allowed Set = omega arith
allowed Sheet = omega arith
