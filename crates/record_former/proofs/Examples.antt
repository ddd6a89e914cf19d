-- Reading and changing as they were, at the edge where part numbers ended: the definitions compute.
-- Assumes nothing.
use mathlib.Core.Path.{◌≡◌, refl}
use mathlib.Core.List.{List, [], ◌∷◌, ◌++◌}
use Prim.Native.Nat.{ℕ, ◌-◌, ◌^◌}
use lib.ListN.{replicate}
use Rattle.std.specs.Prelude.{Err}
use Rattle.answer.specs.declared.Reason.TheVariants.{NumbersSpent, WrongNumber}
use Rattle.answer.specs.Outcome.{at}
use Rattle.codec.specs.Fields.{groups, top}
use Rattle.codec.specs.Reading.{number_in, number_at}
use Rattle.codec.specs.Reads.{found, refused}
use Rattle.codec.specs.FieldReads.{field_at, fields_at}
use Rattle.theory_sets.specs.Masks.{holds}
use Rattle.record_parts.specs.PartLists.{list_of}
use Rattle.record.specs.Records.{misplaced, design_at}
use Rattle.record_former.specs.Former.{add_part, former_field, former_parts_at, former_head_at, former_record_at, former_record, former_changed_record}

-- five groups and 2^32-1
five : groups former_field ≡ 5
five = refl

highest : top former_field ≡ 2 ^ 32 - 1
highest = refl

-- a record with this mark was read, and none with a higher one
abbrev last : List ℕ
last = 1 ∷ replicate 4 255 ++ (15 ∷ 1 ∷ 1 ∷ 1 ∷ [])

last_read : former_record last ≡ found (design_at (list_of (2 ^ 32 - 1) (1 ∷ [])) (1 ∷ []) 8 9) 9
unfolding former_record former_record_at former_head_at former_parts_at fields_at field_at misplaced holds number_at number_in
last_read = refl

higher : former_record (1 ∷ replicate 4 128 ++ (16 ∷ 1 ∷ 1 ∷ 1 ∷ [])) ≡ refused (at WrongNumber 1)
unfolding former_record former_record_at former_head_at former_parts_at fields_at field_at misplaced holds number_at number_in
higher = refl

-- the fifth byte of a mark was its last, and with bit 7 set 22 where the input ends
five_carried : former_record (1 ∷ replicate 5 255) ≡ refused (at WrongNumber 1)
unfolding former_record former_record_at former_head_at former_parts_at fields_at field_at misplaced holds number_at number_in
five_carried = refl

-- 20
spent : (former_changed_record add_part last []).answer ≡ Err (at NumbersSpent 0)
unfolding former_changed_record former_record former_record_at former_head_at former_parts_at fields_at field_at misplaced holds number_at number_in
spent = refl
