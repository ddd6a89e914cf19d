-- Laws of groups of seven bits: what bytes put behind others carry and stand for, and how large a number of so many groups can be.
-- Assumes nothing.
use mathlib.Core.Path.{◌≡◌, refl, ap, ◌∙◌}
use mathlib.Core.Bool.{Bool, true, false, cond}
use mathlib.Core.List.{List, [], ◌∷◌, ◌++◌}
use Prim.Native.Nat.{ℕ, zero, suc, ◌+◌, ◌*◌, ◌^◌, ◌≤◌, ◌<◌}
use native.Mathlib.Nat.{pow-succ', mul_assoc, one-mul, mul-le-mul_right}
use native.Mathlib.Omega.{arith}
use borrow.Author.Tests.{lt-ltb, le-ltb}
use lib.Dec.{ltb}
use lib.ListN.{length, take}
use Rattle.codec.specs.Reading.{carried, value_of}

-- bytes behind bytes that all have bit 7 set
pub carried_append : (front rest : List ℕ) → carried front ≡ length front → carried (front ++ rest) ≡ length front + carried rest
carried_append [] rest h = omega arith
carried_append (byte ∷ front) rest h = step (ltb byte 128) h (carried_append front rest)
  where
    step : (small : Bool) → cond small 0 (suc (carried front)) ≡ suc (length front) → (carried front ≡ length front → carried (front ++ rest) ≡ length front + carried rest) → cond small 0 (suc (carried (front ++ rest))) ≡ suc (length front) + carried rest
    step true h behind = absurd (omega arith)
    step false h behind = omega (arith, behind (omega arith))

-- a byte with bit 7 set carries, and one without it ends what is carried
pub carried_none : (byte : ℕ) (rest : List ℕ) → byte < 128 → carried (byte ∷ rest) ≡ 0
carried_none byte rest h = simp (lt-ltb _ _ h)

pub carried_some : (byte : ℕ) (rest : List ℕ) → 128 ≤ byte → carried (byte ∷ rest) ≡ suc (carried rest)
carried_some byte rest h = simp (le-ltb _ _ h)

-- where at least so many bytes in front have bit 7 set, all of so many have it
pub carried_take : (n : ℕ) (bytes : List ℕ) → n ≤ carried bytes → carried (take n bytes) ≡ length (take n bytes)
carried_take zero bytes h = refl
carried_take (suc n) [] h = refl
carried_take (suc n) (byte ∷ bytes) h = step (ltb byte 128) h (carried_take n bytes)
  where
    step : (small : Bool) → suc n ≤ cond small 0 (suc (carried bytes)) → (n ≤ carried bytes → carried (take n bytes) ≡ length (take n bytes)) → cond small 0 (suc (carried (take n bytes))) ≡ suc (length (take n bytes))
    step true h all = absurd (omega arith)
    step false h all = ap suc (all (omega arith))

-- groups behind groups weigh 128 to the power of how many stand before them
pub value_append : (front rest : List ℕ) → value_of (front ++ rest) ≡ value_of front + 128 ^ length front * value_of rest
value_append [] rest = omega (arith, one-mul (value_of rest))
value_append (byte ∷ front) rest =
    let grows : 128 ^ suc (length front) * value_of rest ≡ 128 * (128 ^ length front * value_of rest) =
    ap (λ (n : ℕ). n * value_of rest) (pow-succ' 128 (length front)) ∙ mul_assoc 128 (128 ^ length front) (value_of rest) in
    omega (arith, value_append front rest, grows)

-- so many groups stand for a number below 128 to that power
pub value_below : (bytes : List ℕ) → value_of bytes < 128 ^ length bytes
value_below [] = omega arith
value_below (byte ∷ bytes) = omega (arith, value_below bytes, pow-succ' 128 (length bytes))

-- one group more, put at its weight, keeps the number below the next weight
pub group_below : (more value group : ℕ) → value < 128 ^ more → group < 128 → value + group * 128 ^ more < 128 ^ suc more
group_below more value group h g = omega (arith, pow-succ' 128 more, mul-le-mul_right (128 ^ more) g)
