-- Masks and the numbers at their positions lead back to each other: the numbers of the mask of wanted ones are those of the list that are
-- wanted, and the mask of a mask's numbers is that mask.
-- Assumes nothing.
use mathlib.Core.Path.{◌≡◌, refl, sym, ap, ◌∙◌}
use mathlib.Core.Bool.{Bool, true, false, cond}
use mathlib.Core.List.{List, [], ◌∷◌}
use mathlib.Core.Logic.{◌↔◌}
use Prim.Native.Nat.{ℕ, suc, ◌+◌, ◌*◌, ◌-◌, ◌/◌, ◌^◌, ◌≤◌, ◌<◌}
use native.Mathlib.Nat.{pow-succ'}
use native.Mathlib.Omega.{arith}
use lib.ListN.{length}
use Rattle.std.specs.Prelude.{Ok}
use Rattle.numbers.proofs.Bools.{false_of}
use Rattle.answer.proofs.Outcomes.{valued_given}
use Rattle.theory_sets.specs.Masks.{has, size}
use Rattle.theory_sets.proofs.Masks.{odd, even, has_odd, has_even, holds_antisym}
use Rattle.record_numbers.specs.Numbering.{RisingWithin, named, others, names}
use Rattle.record_numbers.proofs.Others.{named_or_others}
use Rattle.record_parts.specs.Lines.{In}
use Rattle.record_parts.proofs.LeftOut.{in_named, others_counted}
use Rattle.record_parts.proofs.Numbers.{rising_in, rising_wider}
use Rattle.record_lines.specs.Changes.{keep, every}
use Rattle.record_lines.specs.Names.{repeated}
use Rattle.record_lines.proofs.Keeping.{keep_elim, keep_intro, every_intro, every_elim}
use Rattle.record_lines.proofs.Names.{names_hold}
use Rattle.record_numbers.proofs.Names.{names_intro, names_elim}
use Rattle.record_naming.specs.Naming.{mask_of, mask_of_refusal, found_mask}
use Rattle.record_naming.proofs.Steps.{mask_below}
use Rattle.record_naming.proofs.Refusals.{wanted_right, mask_counted}

-- as many numbers as the mask has positions
pub named_counted : (numbers : List ℕ) (mask : ℕ) → mask < 2 ^ length numbers → length (named numbers mask) ≡ size mask
named_counted numbers mask h = omega (arith, named_or_others numbers mask, others_counted numbers mask h)

-- the numbers of a mask are the others of the mask of all other positions
pub others_of_rest : (numbers : List ℕ) (mask : ℕ) → mask < 2 ^ length numbers → others numbers (2 ^ length numbers - 1 - mask) ≡ named numbers mask
unfolding named others
others_of_rest [] mask h = refl
others_of_rest (number ∷ numbers) mask h =
    cases (has mask 0) refl (2 ^ suc (length numbers) - 1 - mask) refl
    (others_of_rest numbers (mask / 2) (omega (arith, h, pow-succ' 2 (length numbers))))
  where
    cases : (p : Bool) → has mask 0 ≡ p → (rest : ℕ) → rest ≡ 2 ^ suc (length numbers) - 1 - mask → others numbers (2 ^ length numbers - 1 - mask / 2) ≡ named numbers (mask / 2)
        → cond (has rest 0) (others numbers (rest / 2)) (number ∷ others numbers (rest / 2)) ≡ cond p (number ∷ named numbers (mask / 2)) (named numbers (mask / 2))
    cases true e rest same later =
        let even : has rest 0 ≡ false = has_even rest (omega (arith, odd mask e, same, h, pow-succ' 2 (length numbers))) in
        let half : rest / 2 ≡ 2 ^ length numbers - 1 - mask / 2 = omega (arith, odd mask e, same, h, pow-succ' 2 (length numbers)) in
        rw (even, half) (ap (λ (l : List ℕ). number ∷ l) later)
    cases false e rest same later =
        let one : has rest 0 ≡ true = has_odd rest (omega (arith, even mask e, same, h, pow-succ' 2 (length numbers))) in
        let half : rest / 2 ≡ 2 ^ length numbers - 1 - mask / 2 = omega (arith, even mask e, same, h, pow-succ' 2 (length numbers)) in
        rw (one, half) later

-- the numbers of the mask of wanted ones are those that are wanted, by position
pub named_of_mask : (numbers wanted : List ℕ) → named numbers (mask_of numbers wanted) ≡ keep (λ number. names number wanted) numbers
unfolding named mask_of
named_of_mask [] wanted = refl
named_of_mask (number ∷ numbers) wanted = cases (mask_of numbers wanted) (names number wanted) (named_of_mask numbers wanted)
  where
    cases : (rest : ℕ) (p : Bool) → named numbers rest ≡ keep (λ number. names number wanted) numbers
        → cond (has (cond p 1 0 + 2 * rest) 0) (number ∷ named numbers ((cond p 1 0 + 2 * rest) / 2)) (named numbers ((cond p 1 0 + 2 * rest) / 2))
        ≡ cond p (number ∷ keep (λ number. names number wanted) numbers) (keep (λ number. names number wanted) numbers)
    cases rest true later =
        let odd : has (1 + 2 * rest) 0 ≡ true = has_odd (1 + 2 * rest) (omega arith) in
        let half : (1 + 2 * rest) / 2 ≡ rest = omega arith in
        rw (odd, half) (ap (λ (l : List ℕ). number ∷ l) later)
    cases rest false later =
        let even : has (0 + 2 * rest) 0 ≡ false = has_even (0 + 2 * rest) (omega arith) in
        let half : (0 + 2 * rest) / 2 ≡ rest = omega arith in
        rw (even, half) later

-- a number is of the mask of wanted ones exactly if it is wanted, where all that are wanted are numbers of parts
pub mask_names : (numbers wanted : List ℕ) → every (λ number. names number numbers) wanted ≡ true → (number : ℕ)
    → In number (named numbers (mask_of numbers wanted)) ↔ In number wanted
mask_names numbers wanted known number = (
  λ i. names_elim number wanted (keep_elim (λ other. names other wanted) numbers (rw (named_of_mask numbers wanted) at i)).1,
  λ i.
      rw (named_of_mask numbers wanted)
      (keep_intro (λ other. names other wanted) numbers (names_elim number numbers (every_elim (λ other. names other numbers) wanted known i)) (names_intro number wanted i)),
)

-- ---- rising numbers

pub named_rising : (low high : ℕ) (numbers : List ℕ) → RisingWithin low high numbers → (mask : ℕ) → RisingWithin low high (named numbers mask)
unfolding named
named_rising low high [] rising mask = tt
named_rising low high (number ∷ numbers) rising mask = cases (has mask 0) (named_rising number high numbers rising.2 (mask / 2))
  where
    cases : (p : Bool) → RisingWithin number high (named numbers (mask / 2)) → RisingWithin low high (cond p (number ∷ named numbers (mask / 2)) (named numbers (mask / 2)))
    cases true later = (rising.0, rising.1, later)
    cases false later = rising_wider number high low high (named numbers (mask / 2)) (omega (arith, rising.0)) (omega arith) later

-- no number stands twice among them
pub rising_not_repeated : (low high : ℕ) (numbers : List ℕ) → RisingWithin low high numbers → repeated numbers ≡ false
rising_not_repeated low high [] rising = refl
rising_not_repeated low high (number ∷ numbers) rising =
    let absent : names number numbers ≡ false =
    false_of (names number numbers) (λ h. let b = rising_in number high numbers rising.2 (names_elim number numbers h) in omega (arith, b.0)) in
    rw absent (rising_not_repeated number high numbers rising.2)

module _ (low high : ℕ) (numbers : List ℕ) (rising : RisingWithin low high numbers) (mask : ℕ) where
  -- the numbers of a mask are all numbers of parts
  named_known : every (λ number. names number numbers) (named numbers mask) ≡ true
  named_known = every_intro (λ number. names number numbers) (named numbers mask) (λ number i. names_intro number numbers (in_named numbers mask i))

  -- the mask of a mask's numbers is that mask
  pub mask_of_named : mask < 2 ^ length numbers → mask_of numbers (named numbers mask) ≡ mask
  mask_of_named inside =
      let same = mask_names numbers (named numbers mask) named_known in
      let below = mask_below numbers (named numbers mask) in
      holds_antisym (mask_of numbers (named numbers mask)) mask
      (names_hold low high numbers rising (mask_of numbers (named numbers mask)) mask inside (λ number i. (same number).1 i))
      (names_hold low high numbers rising mask (mask_of numbers (named numbers mask)) below (λ number i. (same number).0 i))

  -- and nothing refuses them
  pub named_back : 1 ≤ length numbers → length numbers ≤ 16 → mask < 2 ^ length numbers → found_mask numbers (named numbers mask) ≡ Ok mask
  named_back some few inside =
      let right = mask_counted numbers (named numbers mask) some few ∙ wanted_right numbers (named numbers mask) named_known (rising_not_repeated low high (named numbers mask) (named_rising low high numbers rising mask)) in
      sym (valued_given (mask_of_refusal numbers (named numbers mask)) (mask_of numbers (named numbers mask)) right) ∙ ap Ok (mask_of_named inside)
