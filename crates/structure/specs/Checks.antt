-- The first refusal of a list and of a table (01, "Where each refusal is found"): each check in its order.
use Rattle.std.specs.Prelude.{Bool, not, ◌&&◌, List, [], ◌∷◌, ℕ, suc, ◌-◌, ◌^◌, leb, ltb, eqb, length, Ok}
use Rattle.answer.specs.Outcome.{refuse, Verdict}
use Rattle.answer.specs.Checks.{part_count_refusal, mask_refusal}
use Rattle.answer.specs.declared.Reason.TheVariants.{EmptyList, LongList, WrongTableLength, UnusedBit, EmptySetWorks, FullSetFails, BrokenSet}
use Rattle.theory_orders.specs.Antichains.{most_sets}
use Rattle.theory_sets.specs.Masks.{any, least}
use Rattle.theory_sets.specs.Structures.{broken}
use Rattle.theory_sets.specs.Tables.{in_table, table_length}

-- list entries, in order, each with its index as place
unfoldable pub entries_refusal : ℕ → ℕ → List ℕ → Verdict
entries_refusal n index [] = (Ok tt)
entries_refusal n index (mask ∷ rest) = mask_refusal n index mask (entries_refusal n (suc index) rest)

-- the first refusal of a list of sets: n always first
unfoldable pub list_refusal : ℕ → List ℕ → Verdict
list_refusal n list =
    part_count_refusal 0 n (refuse (eqb (length list) 0) EmptyList 0 (refuse (ltb most_sets (length list)) LongList 0 (entries_refusal n 0 list)))

-- a bit of a table's only byte that stands for no set of n parts
abbrev pub unused : ℕ → List ℕ → Bool
unused n table = any (λ a. leb (2 ^ n) a && in_table table a) 8

-- what a table's bits are refused for: the empty set works, the full set does not, or a path set with one part more is none
abbrev pub structure_refusal : ℕ → (ℕ → Bool) → Verdict
structure_refusal n works =
    refuse (works 0) EmptySetWorks 0
    (refuse (not (works (2 ^ n - 1))) FullSetFails 0
    (refuse (any (broken n works) (2 ^ n)) BrokenSet (least (broken n works) (2 ^ n)) (Ok tt)))

-- the first refusal of a table
unfoldable pub table_refusal : ℕ → List ℕ → Verdict
table_refusal n table =
    part_count_refusal 0 n
    (refuse (not (eqb (length table) (table_length n))) WrongTableLength 0
    (refuse (unused n table) UnusedBit 0 (structure_refusal n (in_table table))))
