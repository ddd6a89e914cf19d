-- Laws of the place at which a number is put in: it is one of the list, and what stands in front of it, at it and behind it.
-- Assumes nothing.
use mathlib.Core.Path.{◌≡◌, refl, ap}
use mathlib.Core.Bool.{Bool, true, false, cond}
use mathlib.Core.List.{List, [], ◌∷◌, ◌++◌}
use Prim.Native.Nat.{ℕ, suc, ◌≤◌}
use native.Mathlib.Omega.{arith}
use lib.Dec.{ltb}
use lib.ListN.{length, take, drop}
use Rattle.record_retired.specs.Retired.{inserted}
use Rattle.record_retired.specs.Steps.{in_front}

module _ (number : ℕ) where
  pub place_inside : (list : List ℕ) → in_front number list ≤ length list
  unfolding in_front
  place_inside [] = omega arith
  place_inside (x ∷ xs) = cases (ltb number x) (place_inside xs)
    where
      cases : (p : Bool) → in_front number xs ≤ length xs → cond p 0 (suc (in_front number xs)) ≤ suc (length xs)
      cases true later = omega arith
      cases false later = omega arith

  -- the numbers in front, the number, and those behind it
  pub inserted_split : (list : List ℕ) → inserted number list ≡ take (in_front number list) list ++ (number ∷ drop (in_front number list) list)
  unfolding in_front inserted
  inserted_split [] = refl
  inserted_split (x ∷ xs) = cases (ltb number x) (inserted_split xs)
    where
      cases : (p : Bool) → inserted number xs ≡ take (in_front number xs) xs ++ (number ∷ drop (in_front number xs) xs)
          → cond p (number ∷ (x ∷ xs)) (x ∷ inserted number xs) ≡ take (cond p 0 (suc (in_front number xs))) (x ∷ xs) ++ (number ∷ drop (cond p 0 (suc (in_front number xs))) (x ∷ xs))
      cases true later = refl
      cases false later = ap (λ (l : List ℕ). x ∷ l) later
