-- The cells of retired numbers: there are 64 of them, and they give the numbers back.
-- Assumes nothing.
use mathlib.Core.Path.{◌≡◌}
use mathlib.Core.List.{List}
use Prim.Native.Nat.{ℕ, ◌-◌}
use denote.Laws.{Is}
use mir.Val.{Val}
use lib.ListN.{length, take, replicate}
use lib.Seq.{take-append_seam}
use Rattle.record_retired.specs.declared.Retired.{Retired}
use Rattle.record_retired.specs.Retired.{most_retired, retired_of}
use Rattle.record_retired.specs.contracts.Retired.{the_row}

-- there are 64, whatever they hold
pub cells_all : (filing : Retired) (values : List Val) → Is the_row filing values → length filing.numbers ≡ most_retired
cells_all filing values held = held.1.1.1.0.1.0.1

-- the numbers in front come back
pub numbers_back : (list : List ℕ) → take (retired_of list).count (retired_of list).numbers ≡ list
numbers_back list = take-append_seam list (replicate (most_retired - length list) 0)
