-- The numbers that a vector is worked out from stay in range. Assumes nothing.
use mathlib.Core.Path.{◌≡◌}
use Prim.Native.Nat.{ℕ, ◌-◌, ◌*◌, ◌≤◌}
use native.Mathlib.Nat.{le_trans, le_of_eq, mul-le-mul}
use native.Mathlib.Omega.{arith}
use Rattle.numbers.specs.Counts.{factorial, up_to_16}
use Rattle.numbers.proofs.Counts.{factorials_few, up_to_16_given}

-- 16!
pub tail_unit_few : (n j : ℕ) → n ≤ 16 → j ≤ n → factorial j * factorial (n - j) ≤ 20922789888000
unfolding factorial
tail_unit_few n j h l = factorials_few j (n - j) 16 (omega arith)

pub unit_few : (a b n j : ℕ) → a ≡ up_to_16 j (factorial j) → b ≡ up_to_16 (n - j) (factorial (n - j)) → n ≤ 16 → j ≤ n → a * b ≤ 20922789888000
unit_few a b n j ea eb h l =
    rw (ea, eb, up_to_16_given j (factorial j) (omega arith), up_to_16_given (n - j) (factorial (n - j)) (omega arith)) (tail_unit_few n j h l)

pub scaled_few : (count unit n j : ℕ) → count ≤ 12870 → unit ≡ factorial j * factorial (n - j) → n ≤ 16 → j ≤ n → count * unit ≤ 12870 * 20922789888000
scaled_few count unit n j few e h l = mul-le-mul few (le_trans (le_of_eq e) (tail_unit_few n j h l))
