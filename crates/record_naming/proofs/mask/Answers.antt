-- `record_naming::mask` meets its contract.
-- Assumes nothing.
use mathlib.Core.Path.{◌≡◌, sym, ◌∙◌}
use mathlib.Core.Bool.{Bool, true, false, cond}
use mathlib.Core.List.{List}
use Prim.Native.Nat.{ℕ, ◌+◌, ◌*◌, ◌%◌, ◌^◌, ◌≤◌, ◌<◌}
use native.Mathlib.Nat.{pow-succ'}
use native.Mathlib.Numerals.{add-one}
use native.Mathlib.Omega.{arith}
use lib.ListN.{length, drop, get_or}
use lib.Pow.{pow_mono}
use Rattle.record_numbers.specs.Numbering.{names}
use Rattle.record_naming.specs.Naming.{mask_of}
use Rattle.record_naming.proofs.Steps.{mask_here, mask_end, mask_small}
use Rattle.record_naming.proofs.mask.Goals as goal
use Rattle.record_naming.proofs.mask.Goals.{then-stands, else-stands}

-- one position more
module _ (numbers wanted : List ℕ) (few : length numbers ≤ 16) (at mask : ℕ) (inside : at < length numbers) (so_far : mask + 2 ^ at * mask_of (drop at numbers) wanted ≡ mask_of numbers wanted) where
  more : (p : Bool) → names (get_or numbers at 0) wanted ≡ p → mask + 2 ^ at * (cond p 1 0 + 2 * mask_of (drop (at + 1) numbers) wanted) ≡ mask_of numbers wanted
  more p e = let here : mask_of (drop at numbers) wanted ≡ cond p 1 0 + 2 * mask_of (drop (at + 1) numbers) wanted = mask_here numbers at inside wanted ∙ rw e in rw here at so_far

  bit : 1 * 2 ^ at % 18446744073709551616 ≡ 2 ^ at
  bit = let room : 2 ^ at ≤ 2 ^ 16 = pow_mono {i = at} {j = 16} (omega arith) in omega arith

  next : 2 ^ (at + 1) ≡ 2 ^ at * 2
  next = rw (add-one at) (omega (arith, pow-succ' 2 at))

  fits : names (get_or numbers at 0) wanted ≡ true → mask + 1 * 2 ^ at % 18446744073709551616 < 65536
  fits e = omega (arith, bit, more true e, mask_small numbers 0 wanted few)

  with_one : names (get_or numbers at 0) wanted ≡ true → mask + 1 * 2 ^ at % 18446744073709551616 + 2 ^ (at + 1) * mask_of (drop (at + 1) numbers) wanted ≡ mask_of numbers wanted
  with_one e = rw next (omega (arith, bit, more true e))

  without_one : names (get_or numbers at 0) wanted ≡ false → mask + 2 ^ (at + 1) * mask_of (drop (at + 1) numbers) wanted ≡ mask_of numbers wanted
  without_one e = rw next (omega (arith, more false e))

pub overflow_add-mask : goal.overflow_add-mask
overflow_add-mask c =
    let a = c.args in
    omega (arith, fits a.numbers.now a.wanted.now c.requires c.loop-at.at c.loop-at.mask (omega arith) c.loop-at.invariant (sym c.stands.ensures ∙ c.if-stands.true))

pub loop-at-preserved : goal.loop-at-preserved
loop-at-preserved c =
    let a = c.args in
    elim c.if-stands.branch [
      | then-stands w ↦
          rw w.mask-is (with_one a.numbers.now a.wanted.now c.requires c.loop-at.at c.loop-at.mask (omega arith) c.loop-at.invariant (sym c.stands.ensures ∙ w.if-stands.true))
      | else-stands w ↦
          rw w.mask-is (without_one a.numbers.now a.wanted.now c.requires c.loop-at.at c.loop-at.mask (omega arith) c.loop-at.invariant (sym c.stands.ensures ∙ w.if-stands.false))
    ]

pub returns : goal.returns
returns c =
    let a = c.args in
    let none : mask_of (drop c.loop-at.at a.numbers.now) a.wanted.now ≡ 0 = mask_end a.numbers.now c.loop-at.at (omega arith) a.wanted.now in
    let whole : c.loop-at.mask + 2 ^ c.loop-at.at * 0 ≡ mask_of a.numbers.now a.wanted.now = rw none at c.loop-at.invariant in
    omega arith
