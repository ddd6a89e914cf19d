-- Laws of the cells of a part list: it has all of them, so the numbers in use are as many as it counts; and 16 numbers or fewer have their cells.
-- Assumes nothing.
use mathlib.Core.Path.{◌≡◌, ap}
use mathlib.Core.List.{List}
use Prim.Native.Nat.{ℕ, ◌≤◌}
use native.Mathlib.Omega.{arith}
use lib.ListN.{length, take}
use lib.Seq.{take_all, length-take-le}
use denote.Laws.{Is}
use mir.Val.{Val}
use Rattle.record_numbers.specs.Numbering.{most_parts, cells_of, others}
use Rattle.record_parts.specs.declared.PartList.{PartList}
use Rattle.record_parts.specs.PartLists.{numbers_of}
use Rattle.record_parts.specs.contracts.PartList.{the_row}

-- every list has all its cells, whatever they hold
pub cells_all : (list : PartList) (values : List Val) → Is the_row list values → length list.numbers ≡ most_parts
cells_all list values held = held.1.1.1.1.0.1.0.1

-- so the numbers in use are as many as the list counts
pub numbers_counted : (list : PartList) → length list.numbers ≡ most_parts → list.count ≤ most_parts → length (numbers_of list) ≡ list.count
numbers_counted list all few = length-take-le list.count list.numbers (omega arith)

-- 16 numbers or fewer are all looked at
pub cells_few : (numbers : List ℕ) (group : ℕ) → length numbers ≤ most_parts → cells_of (others (take most_parts numbers) group) ≡ cells_of (others numbers group)
cells_few numbers group few = ap (λ (l : List ℕ). cells_of (others l group)) (take_all most_parts numbers few)
