-- `record_naming::position` meets its contract. The loop's invariant: the position found among the numbers left, counted from the first, is the
-- one found among all.
-- Assumes nothing.
use mathlib.Core.Path.{◌≡◌, refl, sym, ap, ◌∙◌}
use mathlib.Core.List.{List}
use Prim.Native.Nat.{ℕ, suc, ◌+◌}
use native.Mathlib.Numerals.{add-one}
use native.Mathlib.Omega.{arith}
use lib.ListN.{drop}
use lib.Dec.{eqb}
use borrow.Author.Tests.{eq-eqb, ne_eqb}
use Rattle.std.specs.Prelude.{Err}
use Rattle.std.specs.Prelude.{Ok, Err}
use Rattle.answer.specs.declared.Reason.TheVariants.{UnknownPosition}
use Rattle.answer.specs.Outcome.{at}
use Rattle.answer.proofs.Outcomes.{refuse_passed, refuse_held, valued_refused, valued_given}
use Rattle.record_naming.specs.Naming.{position_from, position_of, found_position}
use Rattle.record_naming.proofs.Steps.{position_here, position_past, position_end}
use Rattle.record_naming.proofs.position.Goals as goal

-- a position that was found, and one that was not
found_is : (numbers : List ℕ) (number position : ℕ) → position_of numbers number ≡ suc position → Ok (position + 1) ≡ found_position numbers number
found_is numbers number position e =
    ap Ok (add-one position ∙ sym e)
    ∙ valued_given _ (position_of numbers number) (refuse_passed (eqb (position_of numbers number) 0) UnknownPosition 0 (Ok tt) (ne_eqb (position_of numbers number) 0 (λ none. omega (arith, e))))

found_none : (numbers : List ℕ) (number : ℕ) → position_of numbers number ≡ 0 → Err (at UnknownPosition 0) ≡ found_position numbers number
found_none numbers number e =
    valued_refused _ (position_of numbers number) (at UnknownPosition 0) (refuse_held (eqb (position_of numbers number) 0) UnknownPosition 0 (Ok tt) (eq-eqb (position_of numbers number) 0 e))

pub loop-i-init : goal.loop-i-init
loop-i-init c =
    (omega arith, refl)

pub returns-then-known-number : goal.returns-then-known-number
returns-then-known-number c =
    let a = c.args in
    found_is a.numbers.now a.number c.loop-i.i
    (sym c.loop-i.invariant.1 ∙ position_here a.numbers.now c.loop-i.i (omega arith) (suc c.loop-i.i) a.number c.if-known-number.true)

pub loop-i-preserved : goal.loop-i-preserved
loop-i-preserved c =
    let a = c.args in (
      omega arith,
      ap (λ (k : ℕ). position_from (suc k) a.number (drop (c.loop-i.i + 1) a.numbers.now)) (add-one c.loop-i.i)
          ∙ sym (position_past a.numbers.now c.loop-i.i (omega arith) (suc c.loop-i.i) a.number c.if-known-number.false) ∙ c.loop-i.invariant.1,
    )

pub returns : goal.returns
returns c =
    let a = c.args in
    ap Err c.at.ensures ∙ found_none a.numbers.now a.number (sym c.loop-i.invariant.1 ∙ position_end a.numbers.now c.loop-i.i (omega arith) (suc c.loop-i.i) a.number)
