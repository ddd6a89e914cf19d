-- Laws of the numbers of a group of positions and of the others: how many they are, and which they are.
-- Assumes nothing.
use mathlib.Core.Path.{◌≡◌, refl, sym, ap, ◌∙◌}
use mathlib.Core.Bool.{Bool, true, false, cond}
use mathlib.Core.List.Memᴰ
use mathlib.Core.List.{List, [], ◌∷◌, ◌++◌}
use mathlib.Core.Logic.{◌⊎◌, inl, inr, ⊎_elim}
use Prim.Native.Nat.{ℕ, zero, suc, ◌+◌, ◌/◌, ◌%◌, ◌^◌, ◌<◌}
use native.Mathlib.Nat.{pow-succ', le_of_suc-le-suc}
use native.Mathlib.Omega.{arith}
use borrow.Author.Tests.{eqb-true, eqb-false}
use lib.Count.{ones, ones_in, ones_step}
use lib.ListN.{length, get_or, take, drop}
use Rattle.theory_sets.specs.Masks.{has, size}
use Rattle.theory_sets.proofs.Masks.{has_zero, has_odd, has_even}
use Rattle.record_numbers.specs.Numbering.{named, others}
use Rattle.record_numbers.proofs.Others.{named_or_others}
use Rattle.record_parts.specs.Lines.{In}

-- ---- some of the numbers, and the others

-- both are numbers of the list
pub in_named : (numbers : List ℕ) (set : ℕ) {number : ℕ} → In number (named numbers set) → In number numbers
unfolding named
in_named [] set i = absurd (Memᴰ.not-nil i)
in_named (n ∷ ns) set {number} i = cases (has set 0) (in_named ns (set / 2)) i
  where
    cases : (p : Bool) → (In number (named ns (set / 2)) → In number ns) → In number (cond p (n ∷ named ns (set / 2)) (named ns (set / 2))) → In number (n ∷ ns)
    cases true rest i = ⊎_elim (λ (e : number ≡ n). Memᴰ.head e) (λ j. Memᴰ.tail (rest j)) (Memᴰ.cases_cons i)
    cases false rest i = Memᴰ.tail (rest i)

pub in_others : (numbers : List ℕ) (set : ℕ) {number : ℕ} → In number (others numbers set) → In number numbers
unfolding others
in_others [] set i = absurd (Memᴰ.not-nil i)
in_others (n ∷ ns) set {number} i = cases (has set 0) (in_others ns (set / 2)) i
  where
    cases : (p : Bool) → (In number (others ns (set / 2)) → In number ns) → In number (cond p (others ns (set / 2)) (n ∷ others ns (set / 2))) → In number (n ∷ ns)
    cases true rest i = Memᴰ.tail (rest i)
    cases false rest i = ⊎_elim (λ (e : number ≡ n). Memᴰ.head e) (λ j. Memᴰ.tail (rest j)) (Memᴰ.cases_cons i)

-- and each number is one of these or one of those
pub in_either : (numbers : List ℕ) (set : ℕ) {number : ℕ} → In number numbers → In number (others numbers set) ⊎ In number (named numbers set)
unfolding named others
in_either [] set i = absurd (Memᴰ.not-nil i)
in_either (n ∷ ns) set {number} i = cases (has set 0) (in_either ns (set / 2)) (Memᴰ.cases_cons i)
  where
    cases : (p : Bool) → (In number ns → In number (others ns (set / 2)) ⊎ In number (named ns (set / 2))) → (number ≡ n) ⊎ In number ns
        → In number (cond p (others ns (set / 2)) (n ∷ others ns (set / 2))) ⊎ In number (cond p (n ∷ named ns (set / 2)) (named ns (set / 2)))
    cases true rest (inl e) = inr (Memᴰ.head e)
    cases true rest (inr i) = ⊎_elim (λ j. inl j) (λ j. inr (Memᴰ.tail j)) (rest i)
    cases false rest (inl e) = inl (Memᴰ.head e)
    cases false rest (inr i) = ⊎_elim (λ j. inl (Memᴰ.tail j)) (λ j. inr j) (rest i)

-- ---- no number, and a single one

named_none : (numbers : List ℕ) → named numbers 0 ≡ []
unfolding named
named_none [] = refl
named_none (n ∷ ns) = rw (has_even 0 refl) (named_none ns)

-- without a group all stay
pub others_all : (numbers : List ℕ) → others numbers 0 ≡ numbers
unfolding others
others_all [] = refl
others_all (n ∷ ns) = rw (has_even 0 refl) (ap (λ (l : List ℕ). n ∷ l) (others_all ns))

-- the group of a single position has the number at it
pub named_single : (index : ℕ) (numbers : List ℕ) → index < length numbers → named numbers (2 ^ index) ≡ get_or numbers index 0 ∷ []
unfolding named
named_single index [] h = absurd (omega arith)
named_single zero (n ∷ ns) h = rw (has_odd 1 refl) (ap (λ (l : List ℕ). n ∷ l) (named_none ns))
named_single (suc i) (n ∷ ns) h =
    let even : has (2 ^ suc i) 0 ≡ false = has_even (2 ^ suc i) (omega (arith, pow-succ' 2 i)) in
    let half : 2 ^ suc i / 2 ≡ 2 ^ i = omega (arith, pow-succ' 2 i) in
    rw (even, half) (named_single i ns (le_of_suc-le-suc h))

-- it leaves the numbers in front of it and those behind it,
pub others_around : (index : ℕ) (numbers : List ℕ) → index < length numbers → others numbers (2 ^ index) ≡ take index numbers ++ drop (suc index) numbers
unfolding others
others_around index [] h = absurd (omega arith)
others_around zero (n ∷ ns) h = rw (has_odd 1 refl) (others_all ns)
others_around (suc i) (n ∷ ns) h =
    let even : has (2 ^ suc i) 0 ≡ false = has_even (2 ^ suc i) (omega (arith, pow-succ' 2 i)) in
    let half : 2 ^ suc i / 2 ≡ 2 ^ i = omega (arith, pow-succ' 2 i) in
    rw (even, half) (ap (λ (l : List ℕ). n ∷ l) (others_around i ns (le_of_suc-le-suc h)))

-- one number fewer
pub others_single : (index : ℕ) (numbers : List ℕ) → index < length numbers → suc (length (others numbers (2 ^ index))) ≡ length numbers
others_single index numbers h =
    let one = ap length (named_single index numbers h) in
    omega (arith, named_or_others numbers (2 ^ index))

-- ---- how many are left

-- a group of as many positions as there are numbers leaves one number fewer for each of its parts
pub others_counted : (numbers : List ℕ) (group : ℕ) → group < 2 ^ length numbers → length (others numbers group) + size group ≡ length numbers
unfolding others ones ones_in
others_counted [] group h =
    let none : group ≡ 0 = omega arith in
    rw none refl
others_counted (n ∷ ns) group h =
    cases (has group 0) refl (others_counted ns (group / 2) (omega (arith, pow-succ' 2 (length ns)))) (ones_step group)
  where
    left : List ℕ
    left = others ns (group / 2)

    cases : (p : Bool) → has group 0 ≡ p → length left + size (group / 2) ≡ length ns → size group ≡ group % 2 + size (group / 2)
        → length (cond p left (n ∷ left)) + size group ≡ suc (length ns)
    cases true e rest step = omega (arith, eqb-true (group % 2) 1 (sym (has_zero group) ∙ e))
    cases false e rest step = omega (arith, eqb-false (group % 2) 1 (sym (has_zero group) ∙ e))
