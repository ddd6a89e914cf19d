-- Where a number stands: a number in use stands at the position that is found for it, and at no other.
-- Assumes nothing.
use mathlib.Core.Path.{◌≡◌, refl, sym, ap, ◌∙◌, subst}
use mathlib.Core.Bool.{Bool, true, false, cond}
use mathlib.Core.List.Memᴰ
use mathlib.Core.List.{List, [], ◌∷◌}
use mathlib.Core.Logic.{◌⊎◌, inl, inr, ◌↔◌}
use Prim.Native.Nat.{ℕ, suc, ◌+◌, ◌-◌, ◌≤◌, ◌<◌}
use native.Mathlib.Omega.{arith}
use borrow.Author.Tests.{eqb-true, eqb-false, eq-eqb, ne_eqb}
use lib.Dec.{eqb}
use lib.ListN.{length, get_or}
use Rattle.std.specs.Prelude.{Ok}
use Rattle.answer.specs.declared.Reason.TheVariants.{UnknownPosition}
use Rattle.answer.specs.Outcome.{refuse, valued}
use Rattle.answer.proofs.Outcomes.{refuse_accepted, given_valued}
use Rattle.numbers.proofs.Bools.{clash}
use Rattle.record_numbers.specs.Numbering.{RisingWithin}
use Rattle.record_parts.specs.Lines.{In}
use Rattle.theory_sets.proofs.Lists.{member_at}
use Rattle.record_lines.proofs.Names.{rising_once}
use Rattle.record_naming.specs.Naming.{position_from, position_of, found_position}

-- a number in use stands at the position that is found for it
pub record Traced (first number : ℕ) (numbers : List ℕ) : Type 0 where
  pub index : ℕ
  pub inside : index < length numbers
  pub position : position_from first number numbers ≡ first + index
  pub same : get_or numbers index 0 ≡ number

pub traced : (first number : ℕ) (numbers : List ℕ) → In number numbers → Traced first number numbers
unfolding position_from
traced first number [] i = absurd (Memᴰ.not-nil i)
traced first number (x ∷ xs) i =
    let f = cases (eqb number x) refl (Memᴰ.cases_cons i) (traced (suc first) number xs) in
    record { index = f.0; inside = f.1; position = f.2; same = f.3 }
  where
    cases : (p : Bool) → eqb number x ≡ p → (number ≡ x) ⊎ In number xs → (In number xs → Traced (suc first) number xs)
        → (index : ℕ) × (index < length (x ∷ xs)) × (cond p first (position_from (suc first) number xs) ≡ first + index) × (get_or (x ∷ xs) index 0 ≡ number)
    cases true e i later = (0, omega arith, omega arith, sym (eqb-true number x e))
    cases false e (inl same) later = clash (eq-eqb number x same) e
    cases false e (inr i) later =
        let t = later i in (suc t.index, omega (arith, t.inside), omega (arith, t.position), t.same)

-- and one for which a position is found stands there
pub placed_at : (first number : ℕ) (numbers : List ℕ) → 1 ≤ first → 1 ≤ position_from first number numbers → In number numbers
unfolding position_from
placed_at first number [] some h = absurd (omega arith)
placed_at first number (x ∷ xs) some h = cases (eqb number x) refl h (placed_at (suc first) number xs (omega arith))
  where
    cases : (p : Bool) → eqb number x ≡ p → 1 ≤ cond p first (position_from (suc first) number xs) → (1 ≤ position_from (suc first) number xs → In number xs) → In number (x ∷ xs)
    cases true e h later = Memᴰ.head (eqb-true number x e)
    cases false e h later = Memᴰ.tail (later h)

-- what was given is a position that was found
given_position : (position given : ℕ) → valued (refuse (eqb position 0) UnknownPosition 0 (Ok tt)) position ≡ Ok given → (1 ≤ position) × (position ≡ given)
given_position position given e =
    let g = given_valued (refuse (eqb position 0) UnknownPosition 0 (Ok tt)) position given e in
    let none = eqb-false position 0 (refuse_accepted (eqb position 0) UnknownPosition 0 (Ok tt) g.0).0 in
    (omega (arith, none), g.1)

position_given : (position : ℕ) → 1 ≤ position → valued (refuse (eqb position 0) UnknownPosition 0 (Ok tt)) position ≡ Ok position
position_given position h = rw (ne_eqb position 0 (λ none. omega arith)) refl

-- The position that is found for a number is the one position at which it stands.
pub position_exactly : (low high : ℕ) (numbers : List ℕ) → RisingWithin low high numbers → (number position : ℕ)
    → (found_position numbers number ≡ Ok position) ↔ ((1 ≤ position) × (position ≤ length numbers) × (get_or numbers (position - 1) 0 ≡ number))
position_exactly low high numbers rising number position = (there, back)
  where
    there : found_position numbers number ≡ Ok position → (1 ≤ position) × (position ≤ length numbers) × (get_or numbers (position - 1) 0 ≡ number)
    there e =
        let g = given_position (position_of numbers number) position e in
        let t = traced 1 number numbers (placed_at 1 number numbers (omega arith) g.0) in
        let here : t.index ≡ position - 1 = omega (arith, g.1, t.position) in
        (omega (arith, g.0, g.1), omega (arith, t.inside, g.1, t.position), ap (λ (k : ℕ). get_or numbers k 0) (sym here) ∙ t.same)

    back : (1 ≤ position) × (position ≤ length numbers) × (get_or numbers (position - 1) 0 ≡ number) → found_position numbers number ≡ Ok position
    back h =
        let t = traced 1 number numbers (subst (λ (x : ℕ). In x numbers) h.2 (member_at numbers (position - 1) (omega (arith, h.0, h.1)))) in
        let same : t.index ≡ position - 1 =
        rising_once low high numbers rising t.index (position - 1) t.inside (omega (arith, h.0, h.1)) (t.same ∙ sym h.2) in
        let here : position_of numbers number ≡ position = omega (arith, same, t.position, h.0) in
        position_given (position_of numbers number) (omega (arith, here, h.0)) ∙ ap Ok here
