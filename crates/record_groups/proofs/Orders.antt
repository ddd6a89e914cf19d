-- Laws of numbers in some order: what stands in a list and how often, and that numbers which rise stand in it once.
-- Assumes nothing.
use mathlib.Core.Path.{◌≡◌, refl, ap}
use mathlib.Core.Bool.{Bool, true, false, cond}
use mathlib.Core.List.Memᴰ
use mathlib.Core.List.{List, [], ◌∷◌}
use mathlib.Core.Logic.{◌⊎◌, inl, inr, ◌↔◌}
use Prim.Native.Nat.{ℕ, ◌+◌, ◌/◌, ◌≤◌}
use native.Mathlib.Omega.{arith}
use borrow.Author.Tests.{eqb-true, eq-eqb}
use lib.Dec.{eqb}
use Rattle.theory_sums.specs.Sums.{indicator, sum}
use Rattle.theory_orders.specs.Orders.{times}
use Rattle.theory_sets.specs.Masks.{has}
use Rattle.record_numbers.specs.Numbering.{RisingWithin, named}
use Rattle.record_parts.specs.Lines.{In}
use Rattle.record_parts.proofs.Numbers.{rising_in}
use Rattle.record_groups.specs.Series.{Reordered}

-- no number stands in the list twice
abbrev pub Apart : List ℕ → Type 0
Apart [] = Unit {0}
Apart (number ∷ numbers) = (In number numbers → ⊥) × Apart numbers

-- a number stands in a list exactly if it stands in it once or more
times_some : (number : ℕ) (list : List ℕ) → In number list → 1 ≤ times number list
unfolding sum
times_some number [] i = absurd (Memᴰ.not-nil i)
times_some number (x ∷ xs) i = cases (Memᴰ.cases_cons i) (times_some number xs)
  where
    cases : (number ≡ x) ⊎ In number xs → (In number xs → 1 ≤ times number xs) → 1 ≤ indicator (eqb number x) + times number xs
    cases (inl e) later = omega (arith, ap indicator (eq-eqb number x e))
    cases (inr i) later = omega (arith, later i)

some_times : (number : ℕ) (list : List ℕ) → 1 ≤ times number list → In number list
unfolding sum
some_times number [] h = absurd (omega arith)
some_times number (x ∷ xs) h = cases (eqb number x) refl h (some_times number xs)
  where
    cases : (p : Bool) → eqb number x ≡ p → 1 ≤ indicator p + times number xs → (1 ≤ times number xs → In number xs) → In number (x ∷ xs)
    cases true e h later = Memᴰ.head (eqb-true number x e)
    cases false e h later = Memᴰ.tail (later (omega arith))

once_apart : (list : List ℕ) → ((number : ℕ) → times number list ≤ 1) → Apart list
unfolding sum
once_apart [] h = tt
once_apart (x ∷ xs) h =
    (λ i. omega (arith, times_some x xs i, h x, ap indicator (eq-eqb x x refl)), once_apart xs (λ number. omega (arith, h number)))

-- rising numbers stand once each, and so do those of a group
rising_times : (low high : ℕ) (numbers : List ℕ) → RisingWithin low high numbers → (number : ℕ) → times number numbers ≤ 1
unfolding sum
rising_times low high [] r number = omega arith
rising_times low high (x ∷ xs) r number = cases (eqb number x) refl (rising_times x high xs r.2 number)
  where
    cases : (p : Bool) → eqb number x ≡ p → times number xs ≤ 1 → indicator p + times number xs ≤ 1
    cases true e later =
        let none : 1 ≤ times number xs → ⊥ =
        λ h. let b = rising_in x high xs r.2 (some_times number xs h) in omega (arith, b.0, eqb-true number x e) in
        omega (arith, none)
    cases false e later = omega arith

named_times : (numbers : List ℕ) (group number : ℕ) → times number (named numbers group) ≤ times number numbers
unfolding sum named
named_times [] group number = omega arith
named_times (x ∷ xs) group number = cases (has group 0) (named_times xs (group / 2) number)
  where
    cases : (p : Bool) → times number (named xs (group / 2)) ≤ times number xs
        → times number (cond p (x ∷ named xs (group / 2)) (named xs (group / 2))) ≤ indicator (eqb number x) + times number xs
    cases true later = omega arith
    cases false later = omega arith

-- an order of the numbers of a group: it has just these, and none twice
module _ (low high : ℕ) (numbers : List ℕ) (rising : RisingWithin low high numbers) (group : ℕ) (order : List ℕ) (same : Reordered order (named numbers group)) where
  pub order_apart : Apart order
  order_apart = once_apart order (λ number. omega (arith, same number, named_times numbers group number, rising_times low high numbers rising number))

  pub order_same : (number : ℕ) → In number order ↔ In number (named numbers group)
  order_same number = (
    λ i. some_times number (named numbers group) (omega (arith, same number, times_some number order i)),
    λ i. some_times number order (omega (arith, same number, times_some number (named numbers group) i)),
  )
