-- What one number more on a list does to the position found and to the mask, and the test of all.
-- Assumes nothing.
use mathlib.Core.Path.{◌≡◌, refl, sym, ap, ◌∙◌}
use mathlib.Core.Bool.{Bool, true, false, cond}
use mathlib.Core.List.{List, [], ◌∷◌}
use Prim.Native.Nat.{ℕ, suc, ◌+◌, ◌*◌, ◌^◌, ◌≤◌, ◌<◌}
use native.Mathlib.Nat.{pow-succ'}
use native.Mathlib.Omega.{arith}
use borrow.Author.Tests.{eq-eqb, ne_eqb}
use lib.ListN.{length, drop, get_or, drop_of_length-le, length-drop}
use lib.Pow.{pow_mono}
use Rattle.std.specs.List.{list_all}
use Rattle.record_numbers.proofs.Names.{from_here}
use Rattle.record_lines.specs.Changes.{every}
use Rattle.record_numbers.specs.Numbering.{names}
use Rattle.record_naming.specs.Naming.{position_from, mask_of}

module _ (numbers : List ℕ) (i : ℕ) (inside : i < length numbers) where
  pub position_here : (first number : ℕ) → get_or numbers i 0 ≡ number → position_from first number (drop i numbers) ≡ first
  unfolding position_from
  position_here first number e = ap (position_from first number) (from_here numbers i inside) ∙ rw (eq-eqb number (get_or numbers i 0) (sym e)) refl

  pub position_past : (first number : ℕ) → (get_or numbers i 0 ≡ number → ⊥) → position_from first number (drop i numbers) ≡ position_from (suc first) number (drop (i + 1) numbers)
  unfolding position_from
  position_past first number e = ap (position_from first number) (from_here numbers i inside) ∙ rw (ne_eqb number (get_or numbers i 0) (λ same. e (sym same))) refl

  pub mask_here : (wanted : List ℕ) → mask_of (drop i numbers) wanted ≡ cond (names (get_or numbers i 0) wanted) 1 0 + 2 * mask_of (drop (i + 1) numbers) wanted
  unfolding mask_of
  mask_here wanted = ap (λ (rest : List ℕ). mask_of rest wanted) (from_here numbers i inside)

-- at the end
module _ (numbers : List ℕ) (i : ℕ) (end : length numbers ≤ i) where
  pub position_end : (first number : ℕ) → position_from first number (drop i numbers) ≡ 0
  unfolding position_from
  position_end first number = ap (position_from first number) (drop_of_length-le numbers end)

  pub mask_end : (wanted : List ℕ) → mask_of (drop i numbers) wanted ≡ 0
  unfolding mask_of
  mask_end wanted = ap (λ (rest : List ℕ). mask_of rest wanted) (drop_of_length-le numbers end)

-- a mask is one of these positions
pub mask_below : (numbers wanted : List ℕ) → mask_of numbers wanted < 2 ^ length numbers
unfolding mask_of
mask_below [] wanted = omega arith
mask_below (number ∷ numbers) wanted = cases (names number wanted) (mask_below numbers wanted)
  where
    cases : (p : Bool) → mask_of numbers wanted < 2 ^ length numbers → cond p 1 0 + 2 * mask_of numbers wanted < 2 ^ length (number ∷ numbers)
    cases true rest = omega (arith, pow-succ' 2 (length numbers))
    cases false rest = omega (arith, pow-succ' 2 (length numbers))

pub mask_small : (numbers : List ℕ) (i : ℕ) (wanted : List ℕ) → length numbers ≤ 16 → mask_of (drop i numbers) wanted < 65536
mask_small numbers i wanted few =
    let room : 2 ^ length (drop i numbers) ≤ 2 ^ 16 = pow_mono {i = length (drop i numbers)} {j = 16} (omega (arith, length-drop i numbers)) in
    omega (arith, mask_below (drop i numbers) wanted)

-- what `all` answers
pub every_tried : (test : ℕ → Bool) (numbers : List ℕ) → list_all test numbers ≡ every test numbers
every_tried test [] = refl
every_tried test (n ∷ ns) = rw (every_tried test ns)
