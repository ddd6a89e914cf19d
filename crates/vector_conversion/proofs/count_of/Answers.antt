-- `vector_conversion::count_of` meets its contract: the sum of the base and the entry is below 2^64, so it is none only below 0.
-- Assumes nothing.
use mathlib.Core.Bool.{true, false}
use mathlib.Core.Path.{◌≡◌, sym, ap, ◌∙◌}
use Prim.Native.Nat.{ℕ, ◌^◌, ◌<◌}
use mir.Facts.{to_z-of_z}
use native.Mathlib.Omega.{arith}
use lib.IntN.{ℤ, pos, nat_abs, ◌+ℤ◌, ◌-ℤ◌}
use Rattle.std.proofs.Common.{◌<ℤ◌, FitsSigned, to_z, of_z, w64}
use Rattle.std.specs.Int.{FitsUnsigned}
use Rattle.std.proofs.lemmas.Int.{ints}
use Rattle.vector_conversion.specs.Inside.{count_in}
use Rattle.vector_conversion.proofs.CountIn.{count_below, count_off, count_broken, count_decided, sum_is}
use Rattle.vector_conversion.proofs.count_of.Goals as goal
use Rattle.vector_conversion.proofs.count_of.Goals.{then-scaled-unit-ne0-via-then-scaled-unit-ne0, then-scaled-unit-ne0-via-else-scaled-unit-ne0+then-off_range}

-- the sum as it is read
module _ (n j unit base taken : ℕ) (entry : ℤ) (fits : FitsSigned w64 entry) where
  abbrev total : ℤ
  total = pos base +ℤ to_z w64 (of_z w64 entry)

  same : count_in n j unit (total -ℤ pos taken) ≡ count_in n j unit (pos base +ℤ entry -ℤ pos taken)
  same = ap (λ (z : ℤ). count_in n j unit (pos base +ℤ z -ℤ pos taken)) (to_z-of_z {w = w64} {z = entry} fits)

  below : base < 2 ^ 62 → total <ℤ pos (2 ^ 64)
  below few = let read : to_z w64 (of_z w64 entry) ≡ entry = to_z-of_z {w = w64} {z = entry} fits in omega (arith, ints, read, fits)

  found : (sum : ℕ) → FitsUnsigned w64 total × (sum ≡ nat_abs total)
      → count_in n j unit (pos sum -ℤ pos taken) ≡ count_in n j unit (pos base +ℤ entry -ℤ pos taken)
  found sum is = ap (λ (z : ℤ). count_in n j unit (z -ℤ pos taken)) (sum_is total sum is.0 is.1) ∙ same

pub returns-in_err-sum : goal.returns-in_err-sum
returns-in_err-sum c =
    let a = c.args in
    rw c.from_residual.ensures
    (count_off a.n a.j a.unit _ a.taken (below a.n a.j a.unit a.base a.taken a.entry c.ranges.entry c.requires.base_bound) c.in_err-sum.ensures
    ∙ same a.n a.j a.unit a.base a.taken a.entry c.ranges.entry)

pub returns-in_err-scaled : goal.returns-in_err-scaled
returns-in_err-scaled c =
    let a = c.args in
    rw c.from_residual-in_err-scaled.ensures
    (count_below a.n a.j a.unit c.in_ok-sum.sum a.taken (omega (arith, c.in_err-scaled.ensures))
    ∙ found a.n a.j a.unit a.base a.taken a.entry c.ranges.entry c.in_ok-sum.sum c.in_ok-sum.ensures)

pub returns-then-scaled-unit-ne0 : goal.returns-then-scaled-unit-ne0
returns-then-scaled-unit-ne0 c =
    let a = c.args in
    let left = c.in_ok-scaled.ensures in
    elim c.then-scaled-unit-ne0.branch [
      | then-scaled-unit-ne0-via-then-scaled-unit-ne0 w ↦ count_broken a.n a.j a.unit c.in_ok-sum.sum a.taken c.in_ok-scaled.scaled left.0 left.1
          w.if-scaled-unit-ne0.true
      | then-scaled-unit-ne0-via-else-scaled-unit-ne0+then-off_range w ↦ count_decided a.n a.j a.unit c.in_ok-sum.sum a.taken c.in_ok-scaled.scaled
          left.0 left.1 w.if-scaled-unit-ne0.false true (sym w.if-off_range.true ∙ w.off_range.ensures)
    ]
    ∙ found a.n a.j a.unit a.base a.taken a.entry c.ranges.entry c.in_ok-sum.sum c.in_ok-sum.ensures

pub returns : goal.returns
returns c =
    let a = c.args in
    let left = c.in_ok-scaled.ensures in
    count_decided a.n a.j a.unit c.in_ok-sum.sum a.taken c.in_ok-scaled.scaled left.0 left.1 c.if-scaled-unit-ne0.false false
    (sym c.if-off_range.false ∙ c.off_range.ensures)
    ∙ found a.n a.j a.unit a.base a.taken a.entry c.ranges.entry c.in_ok-sum.sum c.in_ok-sum.ensures
