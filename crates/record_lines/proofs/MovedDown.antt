-- A set that shares no part with a group, with the group's positions squeezed out of it: it is a set of the parts that are left, and names the same
-- numbers.
-- Assumes nothing.
use mathlib.Core.Path.{◌≡◌, refl, sym, ap, ap₂, ◌∙◌}
use mathlib.Core.Bool.{Bool, true, false, cond}
use mathlib.Core.List.{List, [], ◌∷◌}
use Prim.Native.Nat.{ℕ, zero, suc, ◌+◌, ◌*◌, ◌/◌, ◌%◌, ◌^◌, ◌≤◌, ◌<◌}
use native.Mathlib.Nat.{pow-succ', le_of_suc-le-suc, not-suc-le-zero}
use native.Mathlib.Omega.{arith}
use lib.Dec.{eqb}
use lib.ListN.{length}
use Rattle.theory_sets.specs.Masks.{has}
use Rattle.numbers.proofs.Bools.{clash, false_of}
use Rattle.theory_sets.proofs.Masks.{has_zero}
use Rattle.masks.specs.Groups.{meets, squeezed}
use Rattle.masks.proofs.Groups.{apart_part, apart_half, squeezed_none}
use Rattle.record_numbers.specs.Numbering.{named, others}

-- a set of as many parts as there are numbers becomes one of as many as are left
pub squeezed_within : (n : ℕ) (numbers : List ℕ) (group set : ℕ) → length numbers ≤ n → set < 2 ^ length numbers → squeezed n group set < 2 ^ length (others numbers group)
unfolding squeezed others
squeezed_within n [] group set few h =
    let none : set ≡ 0 = omega arith in
    omega (arith, ap (squeezed n group) none, squeezed_none n group)
squeezed_within zero (p ∷ ps) group set few h = absurd (not-suc-le-zero few)
squeezed_within (suc n) (p ∷ ps) group set few h =
    cases (has group 0) (squeezed_within n ps (group / 2) (set / 2) (le_of_suc-le-suc few) (omega (arith, pow-succ' 2 (length ps))))
  where
    rest : ℕ
    rest = squeezed n (group / 2) (set / 2)

    left : List ℕ
    left = others ps (group / 2)

    cases : (q : Bool) → rest < 2 ^ length left → cond q rest (set % 2 + 2 * rest) < 2 ^ length (cond q left (p ∷ left))
    cases true small = small
    cases false small = omega (arith, pow-succ' 2 (length left))

-- it names the same numbers
pub named_squeezed : (n : ℕ) (numbers : List ℕ) (group set : ℕ) → length numbers ≤ n → meets group set ≡ false → named (others numbers group) (squeezed n group set) ≡ named numbers set
unfolding squeezed others named
named_squeezed n [] group set few apart = refl
named_squeezed zero (p ∷ ps) group set few apart = absurd (not-suc-le-zero few)
named_squeezed (suc n) (p ∷ ps) group set few apart =
    cases (has group 0) refl (named_squeezed n ps (group / 2) (set / 2) (le_of_suc-le-suc few) (apart_half group set apart))
  where
    rest : ℕ
    rest = squeezed n (group / 2) (set / 2)

    left : List ℕ
    left = others ps (group / 2)

    picked : Bool → List ℕ → List ℕ
    picked here later = cond here (p ∷ later) later

    low : has (set % 2 + 2 * rest) 0 ≡ has set 0
    low =
        let same : (set % 2 + 2 * rest) % 2 ≡ set % 2 = omega arith in
        has_zero (set % 2 + 2 * rest) ∙ ap (λ (x : ℕ). eqb x 1) same ∙ sym (has_zero set)

    half : (set % 2 + 2 * rest) / 2 ≡ rest
    half = omega arith

    cases : (q : Bool) → has group 0 ≡ q → named left rest ≡ named ps (set / 2)
        → named (cond q left (p ∷ left)) (cond q rest (set % 2 + 2 * rest)) ≡ picked (has set 0) (named ps (set / 2))
    cases true e same = same ∙ ap (λ (q : Bool). picked q (named ps (set / 2))) (sym (false_of (has set 0) (λ k. clash e (apart_part group set apart 0 k))))
    cases false e same = ap₂ picked low (ap (named left) half ∙ same)
