-- `record_retired::filed_group` meets its contract. The loop's invariant: the numbers of the group among those left, filed after those that are
-- filed, come to what all of the group come to.
-- Assumes nothing.
use mathlib.Core.Path.{◌≡◌}
use mathlib.Core.List.{List}
use Prim.Native.Nat.{ℕ, ◌≤◌}
use lib.ListN.{length, drop}
use Rattle.record_numbers.specs.Numbering.{named}
use Rattle.record_retired.specs.declared.Retired.{Retired}
use Rattle.record_retired.specs.Retired.{most_retired, kept, filed_all, retired_of}
use Rattle.record_retired.proofs.filed_group.Given as goal

-- `record_retired::filed_group` meets its contract. The loop's invariant: the numbers of the group among those left, filed after those that are
-- filed, come to what all of the group come to.
-- Assumes nothing.

-- what is filed, and what it comes to
pub record Filing (numbers : List ℕ) (filing : Retired) (left i : ℕ) (result : List ℕ) : Type 0 where
  pub list : List ℕ
  pub few : length list ≤ most_retired
  pub stands : filing ≡ retired_of list
  pub comes : filed_all (named (drop i numbers) left) list ≡ result

abbrev pub invariant-loop-number : goal.invariant-loop-number
invariant-loop-number l = Filing l.numbers l.filing l.left l.number-index (filed_all (named l.numbers l.group) (kept l.retired))
