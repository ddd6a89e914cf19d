-- The difference of two counts that have one. Assumes nothing.
use mathlib.Core.Path.{◌≡◌, ap₂}
use mathlib.Core.Bool.{Bool, cond, ◌&&◌}
use Prim.Native.Nat.{ℕ, ◌^◌, ◌<◌}
use lib.IntN.{pos, ◌-ℤ◌}
use borrow.Author.Tests.{lt-ltb}
use Rattle.integers.specs.Differences.{difference}

pub difference_small : (added taken : ℕ) → added < 2 ^ 62 → taken < 2 ^ 62 → difference added taken ≡ pos added -ℤ pos taken
difference_small added taken h l =
    ap₂ (λ (s t : Bool). cond (s && t) (pos added -ℤ pos taken) (pos 0)) (lt-ltb added (2 ^ 62) h) (lt-ltb taken (2 ^ 62) l)
