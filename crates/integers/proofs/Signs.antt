-- A signed number of 64 bits as a count: below 0, -1 less the number is one; else the number itself is. Neither wraps. Assumes nothing.
use mathlib.Core.Path.{◌≡◌, refl, sym, ap, ◌∙◌, subst}
use mathlib.Core.Bool.{Bool, true, false, cond, true≢false}
use Prim.Native.Nat.{ℕ, suc, ◌-◌, ◌^◌, ◌<◌}
use native.Mathlib.Omega.{arith}
use lib.IntN.{ℤ, pos, negsuc, ◌-ℤ◌}
use lib.Signed.{mag, lt_z}
use mir.Facts.{to_z-of_z}
use mir.Syntax.{w64}
use mir.Val.{SFits, to_z, of_z}
use borrow.Author.Tests.{le-ltb, ltb-true}

pub negative : (z : ℤ) → lt_z z (pos 0) ≡ true → (m : ℕ) × (z ≡ negsuc m)
negative (pos a) h = absurd (let wrong : a < 0 = ltb-true a 0 h in omega arith)
negative (negsuc m) h = (m, refl)

pub positive : (z : ℤ) → lt_z z (pos 0) ≡ false → (m : ℕ) × (z ≡ pos m)
positive (pos m) h = (m, refl)
positive (negsuc m) h = absurd (true≢false h)

minus_one : (m : ℕ) → negsuc 0 -ℤ negsuc m ≡ pos m
minus_one m =
    let back : suc m - 1 ≡ m = omega arith in
    ap (λ (t : Bool). cond t (negsuc (1 - suc (suc m))) (pos (suc m - 1))) (le-ltb (suc m) 1 (omega arith)) ∙ ap pos back

-- a number below 0
module _ (value : ℤ) (fits : SFits w64 value) (low : lt_z (to_z w64 (of_z w64 value)) (pos 0) ≡ true) where
  pub less_found : (m : ℕ) × (value ≡ negsuc m)
  less_found = negative value (ap (λ (z : ℤ). lt_z z (pos 0)) (sym (to_z-of_z {w = w64} fits)) ∙ low)

  turned : negsuc 0 -ℤ to_z w64 (of_z w64 value) ≡ pos less_found.0
  turned = ap (λ (z : ℤ). negsuc 0 -ℤ z) (to_z-of_z {w = w64} fits ∙ less_found.1) ∙ minus_one less_found.0

  pub less_small : less_found.0 < 2 ^ 63
  less_small = subst (λ (z : ℤ). mag z < 2 ^ 63) less_found.1 fits.sfits

  pub less_fits : SFits w64 (negsuc 0 -ℤ to_z w64 (of_z w64 value))
  less_fits = subst (λ (z : ℤ). SFits w64 z) (sym turned) (record { sfits = less_small })

  pub less_same : to_z w64 (of_z w64 (negsuc 0 -ℤ to_z w64 (of_z w64 value))) ≡ pos less_found.0
  less_same = to_z-of_z {w = w64} less_fits ∙ turned

-- a number that is not
module _ (value : ℤ) (fits : SFits w64 value) (high : lt_z (to_z w64 (of_z w64 value)) (pos 0) ≡ false) where
  pub whole_found : (m : ℕ) × (value ≡ pos m)
  whole_found = positive value (ap (λ (z : ℤ). lt_z z (pos 0)) (sym (to_z-of_z {w = w64} fits)) ∙ high)

  pub whole_small : whole_found.0 < 2 ^ 63
  whole_small = subst (λ (z : ℤ). mag z < 2 ^ 63) whole_found.1 fits.sfits
