-- What refuses numbers that are wanted, check by check, and what is known where nothing does.
-- Assumes nothing.
use mathlib.Core.Path.{◌≡◌, refl, sym, ap, ◌∙◌}
use mathlib.Core.Bool.{Bool, true, false, not}
use mathlib.Core.List.{List}
use Prim.Native.Nat.{ℕ, ◌≤◌, ◌<◌}
use native.Mathlib.Omega.{arith}
use lib.ListN.{length}
use Rattle.std.specs.Prelude.{Ok, Err}
use Rattle.answer.specs.declared.Reason.TheVariants.{UnknownPosition, RepeatedPosition}
use Rattle.answer.specs.Outcome.{at}
use Rattle.answer.proofs.Outcomes.{refuse_accepted, given_valued}
use Rattle.answer.proofs.Checks.{parts_passed, parts_right}
use Rattle.numbers.proofs.Bools.{not_not}
use Rattle.record_lines.specs.Changes.{every}
use Rattle.record_lines.specs.Names.{repeated}
use Rattle.record_numbers.specs.Numbering.{names}
use Rattle.record_naming.specs.Naming.{mask_of, wanted_refusal, mask_of_refusal, found_mask}
use Rattle.record_naming.proofs.Steps.{mask_small}

module _ (numbers wanted : List ℕ) where
  abbrev known : Bool
  known = every (λ number. names number numbers) wanted

  pub wanted_unknown : known ≡ false → wanted_refusal numbers wanted ≡ Err (at UnknownPosition 0)
  wanted_unknown e = rw e refl

  pub wanted_twice : known ≡ true → repeated wanted ≡ true → wanted_refusal numbers wanted ≡ Err (at RepeatedPosition 0)
  wanted_twice e twice = rw (e, twice) refl

  pub wanted_right : known ≡ true → repeated wanted ≡ false → wanted_refusal numbers wanted ≡ Ok tt
  wanted_right e once = rw (e, once) refl

  -- where nothing refuses them they are all numbers of parts, and none stands twice
  pub wanted_accepted : wanted_refusal numbers wanted ≡ Ok tt → (known ≡ true) × (repeated wanted ≡ false)
  wanted_accepted e =
      let s = refuse_accepted (not known) UnknownPosition 0 _ e in
      (sym (not_not known) ∙ ap not s.0, (refuse_accepted (repeated wanted) RepeatedPosition 0 (Ok tt) s.1).0)

  -- the check of how many parts there are comes first
  pub mask_counted : 1 ≤ length numbers → length numbers ≤ 16 → mask_of_refusal numbers wanted ≡ wanted_refusal numbers wanted
  mask_counted some few = parts_passed 0 (length numbers) (wanted_refusal numbers wanted) some few

  pub mask_few : mask_of_refusal numbers wanted ≡ Ok tt → length numbers ≤ 16
  mask_few e = (parts_right 0 (length numbers) (wanted_refusal numbers wanted) e).1

-- a mask that was found is one of up to 16 positions
pub found_mask_small : (numbers wanted : List ℕ) (mask : ℕ) → found_mask numbers wanted ≡ Ok mask → mask < 65536
found_mask_small numbers wanted mask e =
    let g = given_valued (mask_of_refusal numbers wanted) (mask_of numbers wanted) mask e in
    omega (arith, g.1, mask_small numbers 0 wanted (mask_few numbers wanted g.0))
