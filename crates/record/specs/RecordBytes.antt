-- How a design record is written (01, "Records on disk"), and what 01 asks of the design in one.
use Rattle.std.specs.Prelude.{true, ◌≡◌, ℕ, ◌^◌, ◌≤◌, ◌<◌, length}
use mathlib.Core.List.{List, ◌++◌, Memᴰ}
use Rattle.theory_orders.specs.Antichains.{most_sets}
use Rattle.record_parts.specs.PartLists.{WellFormed}
use Rattle.theory_sets.specs.Masks.{holds, Rising}
use Rattle.codec.specs.ByteForm.{forms_of}
use Rattle.record_head.specs.HeadingBytes.{head_bytes}
use Rattle.record.specs.Records.{Design}

-- n; the mark; n part numbers; the count of minimal sets; and then the sets
unfoldable pub record_bytes : Design → List ℕ
record_bytes design = head_bytes design.parts (length design.sets) ++ forms_of design.sets

-- sets of n parts as minimal sets are: 1 to 12,870, each of these parts, none empty, rising, none of which holds another
pub record SetRules (n : ℕ) (sets : List ℕ) : Type 0 where
  pub some : 1 ≤ length sets
  pub most : length sets ≤ most_sets
  pub within : (a : ℕ) → Memᴰ a sets → (a < 2 ^ n) × (0 < a)
  pub rising : Rising sets
  pub apart : (a b : ℕ) → Memᴰ a sets → Memᴰ b sets → holds a b ≡ true → a ≡ b

-- a design as a record has it
pub record DesignRules (design : Design) : Type 0 where
  pub parts : WellFormed design.parts
  pub sets : SetRules design.parts.count design.sets
