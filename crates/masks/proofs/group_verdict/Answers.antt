-- `masks::group_verdict` meets its contract: what is left of a group behind its lowest n bits is 0 exactly if it is below 2^n, and a machine word has
-- no bit behind the 64th.
-- Assumes nothing.
use Prim.Native.Nat.{ℕ, ◌/◌, ◌^◌, ◌≤◌, ◌<◌}
use native.Mathlib.Nat.{pos_of_ne-zero, lt_of_lt_of_le, div-lt_iff_lt-mul}
use native.Mathlib.Omega.{arith}
use mathlib.Core.Path.{sym}
use lib.Pow.{pow_pos, pow_mono}
use Rattle.std.specs.Prelude.{Ok}
use Rattle.answer.proofs.Checks.{group_passed}
use Rattle.masks.proofs.group_verdict.Goals as goal

none_behind : (n group : ℕ) → group / 2 ^ n ≤ 0 → group < 2 ^ n
none_behind n group h = let below = (div-lt_iff_lt-mul {k = 2 ^ n} {x = group} {y = 1} (pow_pos n)).0 (omega arith) in omega (arith, below)

within : (n group : ℕ) → group < 2 ^ 64 → 64 ≤ n → group < 2 ^ n
within n group h k = lt_of_lt_of_le h (pow_mono k)

pub returns : goal.returns
returns c =
    let group = c.args.group in
    sym (group_passed c.args.n group (Ok tt) (pos_of_ne-zero c.if-group-eq0.false) (grind (arith, none_behind c.args.n group, within c.args.n group)))
