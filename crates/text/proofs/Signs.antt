-- A signed number's text by the magnitude that the machine works with: a minus sign in front of it, or nothing. The sign and the digits are
-- spelt in 21 zeros, where there is room for both.
-- Assumes nothing.
use mathlib.Core.Path.{◌≡◌, sym, ap, ap₂, ◌∙◌}
use mathlib.Core.Bool.{true, false}
use mathlib.Core.List.{List, [], ◌∷◌, ◌++◌}
use Prim.Native.Nat.{ℕ, ◌≤◌, ◌<◌, ◌^◌, suc-le-suc}
use native.Mathlib.Omega.{arith}
use lib.Dec.{lit≤}
use lib.IntN.{ℤ, pos, nat_abs}
use lib.ListN.{length, take, drop, replicate}
use lib.Seq.{take-append_seam, length-take-le}
use lib.Signed.{lt_z}
use mir.Syntax.{w64}
use mir.Val.{SFits, to_z, of_z}
use mir.Facts.{to_z-of_z}
use Rattle.answer.proofs.Outcomes.{InFront, in_front_none, in_front_length}
use Rattle.answer.specs.Outcome.{outcome}
use Rattle.answer.specs.Placed.{placed}
use Rattle.answer.proofs.Placing.{in_front_more}
use Rattle.integers.proofs.Signs.{less_found, whole_found}
use Rattle.text.specs.Texts.{decimal, signed}
use Rattle.text.proofs.Decimals.{decimal_most}

module _ (z : ℤ) (fits : SFits w64 z) where
  pub signed_negative : lt_z (to_z w64 (of_z w64 z)) (pos 0) ≡ true → 45 ∷ decimal (nat_abs (to_z w64 (of_z w64 z))) ≡ signed z
  unfolding signed
  signed_negative h =
      ap (λ (y : ℤ). 45 ∷ decimal (nat_abs y)) (to_z-of_z fits ∙ (less_found z fits h).1) ∙ ap signed (sym (less_found z fits h).1)

  pub signed_other : lt_z (to_z w64 (of_z w64 z)) (pos 0) ≡ false → decimal (nat_abs (to_z w64 (of_z w64 z))) ≡ signed z
  unfolding signed
  signed_other h = ap (λ (y : ℤ). decimal (nat_abs y)) (to_z-of_z fits ∙ (whole_found z fits h).1) ∙ ap signed (sym (whole_found z fits h).1)

-- ---- the sign and the digits in front of 21 zeros

-- a number of 64 bits has at most 20 digits
few : (m : ℕ) → m < 2 ^ 64 → length ((45 ∷ []) ++ decimal m) ≤ 21
few m fits =
    let small : m < 10 ^ 20 = omega arith in
    suc-le-suc (decimal_most 19 m small)

module _ (m sign end : ℕ) (signed spelt : List ℕ) (second : outcome end spelt ≡ placed signed sign (decimal m)) (first : outcome sign signed ≡ placed (replicate 21 0) 0 (45 ∷ []))
    (fits : m < 2 ^ 64) where
  spelt_in_front : InFront (replicate 21 0) ((45 ∷ []) ++ decimal m) spelt end
  spelt_in_front =
      in_front_more (in_front_more (in_front_none (replicate 21 0)) (45 ∷ []) signed sign (lit≤ tt) first) (decimal m) spelt end (few m fits) second

  pub spelt_room : end ≤ length spelt
  spelt_room = omega (arith, spelt_in_front.ends, few m fits, in_front_length (replicate 21 0) _ _ _ spelt_in_front (few m fits))

  pub spelt_length : end ≡ length (take end spelt)
  spelt_length = sym (length-take-le end spelt spelt_room)

  pub spelt_shown : take end spelt ≡ 45 ∷ decimal m
  spelt_shown =
      ap₂ (λ (k : ℕ) (text : List ℕ). take k text) spelt_in_front.ends spelt_in_front.stands
      ∙ take-append_seam (45 ∷ decimal m) (drop (length (45 ∷ decimal m)) (replicate 21 0))
