-- The path count that a number has with its unit, as it is found step by step: below nothing there is none, and else it is whole and in its range
-- or there is none. Assumes nothing.
use mathlib.Core.Path.{◌≡◌, refl, sym, ap, ◌∙◌}
use mathlib.Core.Bool.{Bool, true, false, not, cond, ◌&&◌, ◌||◌}
use Prim.Native.Nat.{ℕ, zero, suc, ◌-◌, ◌/◌, ◌%◌, ◌^◌, ◌≤◌, ◌<◌}
use native.Mathlib.Omega.{arith}
use lib.Dec.{ltb, eqb}
use lib.IntN.{ℤ, pos, negsuc, nat_abs, ◌-ℤ◌, +ℤ_idr}
use Rattle.std.proofs.Common.{◌<ℤ◌, w64}
use Rattle.std.specs.Int.{FitsUnsigned}
use Rattle.std.proofs.lemmas.Int.{ints}
use borrow.Author.Tests.{lt-ltb, le-ltb, eq-eqb, ne_eqb}
use Rattle.numbers.specs.Counts.{choose}
use Rattle.std.specs.Prelude.{None, Some}
use Rattle.vector_conversion.specs.Vectors.{wrong_count}
use Rattle.vector_conversion.specs.Inside.{count_in, off_range}
use Rattle.vector_conversion.proofs.Conversions.{difference_positive}

pub difference_negative : (a b : ℕ) → a < b → pos a -ℤ pos b ≡ negsuc (b - suc a)
difference_negative a zero h = absurd (omega arith)
difference_negative a (suc b) h = ap (λ (t : Bool). cond t (negsuc (suc b - suc a)) (pos (a - suc b))) (lt-ltb a (suc b) h)

module _ (n j unit : ℕ) where
  -- a number below 0 has no count
  count_none : (v : ℕ) → None ≡ count_in n j unit (negsuc v)
  unfolding wrong_count
  count_none v = ap (λ (t : Bool). cond t None (Some (suc v / unit))) (sym (second (not (eqb (suc v % unit) 0))
      (ltb (choose n j) (suc v / unit)) (eqb j 0 && not (eqb (suc v / unit) 0)) (eqb j n && not (eqb (suc v / unit) 1))))
    where
      second : (p q r s : Bool) → p || true || q || r || s ≡ true
      second true q r s = refl
      second false q r s = refl

  pub count_below : (sum taken : ℕ) → sum < taken → None ≡ count_in n j unit (pos sum -ℤ pos taken)
  count_below sum taken h = count_none (taken - suc sum) ∙ ap (count_in n j unit) (sym (difference_negative sum taken h))

  pub count_negative : (a taken : ℕ) → None ≡ count_in n j unit (negsuc a -ℤ pos taken)
  count_negative a zero = count_none a ∙ ap (count_in n j unit) (sym (+ℤ_idr (negsuc a)))
  count_negative a (suc taken) = count_none _

  -- a sum that is no number of 64 bits is below 0, where it is not above them
  pub count_off : (z : ℤ) (taken : ℕ) → z <ℤ pos (2 ^ 64) → (FitsUnsigned w64 z → ⊥) → None ≡ count_in n j unit (z -ℤ pos taken)
  count_off (pos v) taken below off = absurd (off (omega (arith, ints), below))
  count_off (negsuc a) taken below off = count_negative a taken

  module _ (sum taken scaled : ℕ) (some : taken ≤ sum) (is : scaled ≡ sum - taken) where
    -- what is left of a sum
    left : count_in n j unit (pos scaled) ≡ count_in n j unit (pos sum -ℤ pos taken)
    left = ap (λ (x : ℕ). count_in n j unit (pos x)) is ∙ ap (count_in n j unit) (sym (difference_positive sum taken some))

    pub count_broken : (scaled % unit ≡ 0 → ⊥) → None ≡ count_in n j unit (pos sum -ℤ pos taken)
    unfolding wrong_count
    count_broken h = sym (rw (ne_eqb (scaled % unit) 0 h)) ∙ left

    module _ (whole : scaled % unit ≡ 0) where
      -- a whole count is decided by its range
      ranged : wrong_count n (λ i. record { number = pos scaled; unit = unit }) j ≡ off_range n j (scaled / unit)
      unfolding wrong_count off_range
      ranged = rw (eq-eqb (scaled % unit) 0 whole, le-ltb scaled 0 (omega arith))

      pub count_decided : (off : Bool) → off ≡ off_range n j (scaled / unit)
          → cond off None (Some (scaled / unit)) ≡ count_in n j unit (pos sum -ℤ pos taken)
      count_decided off e = ap (λ (t : Bool). cond t None (Some (scaled / unit))) (e ∙ sym ranged) ∙ left

-- a sum that is a number of 64 bits
pub sum_is : (z : ℤ) (sum : ℕ) → FitsUnsigned w64 z → sum ≡ nat_abs z → pos sum ≡ z
sum_is (pos v) sum fits e = ap pos e
sum_is (negsuc a) sum fits e = absurd (omega (arith, ints, fits.0))
