-- `drawing_reading::read_numeral` meets its contract. The loop's invariant: it walks along the digits (`DigitWalk`), and the next digit is known.
-- The measure is what is left of the text, since a digit stands inside it.
-- Assumes nothing.
use mathlib.Core.Path.{sym, ap, ◌∙◌, subst}
use mathlib.Core.Logic.{inl, inr}
use Prim.Native.Nat.{ℕ, ◌+◌, ◌*◌, ◌≤◌, ◌<◌}
use native.Mathlib.Omega.{arith}
use lib.ListN.{length}
use Rattle.drawing_reading.specs.Inside.{digit_at, held}
use Rattle.drawing_reading.proofs.Numerals.{DigitWalk, digit_inside, digit_walk_none, digit_walk_held, digit_walk_more, numeral_none, numeral_zero, numeral_given}
use Rattle.drawing_reading.proofs.read_numeral.Goals as goal

pub loop-digit-init : goal.loop-digit-init
loop-digit-init c =
    (digit_walk_none c.args.text.now c.args.start, c.digit_at-digit.ensures)

pub with_digit-value-requires : goal.with_digit-value-requires
with_digit-value-requires c =
    record { value_bound = digit_walk_held c.loop-digit.invariant.0; digit_bound = c.loop-digit-test.true }

pub overflow_add-next : goal.overflow_add-next
overflow_add-next c =
    -- a digit stands at the position
    let here : digit_at c.args.text.now c.loop-digit.next < 10 =
    omega (arith, c.loop-digit-test.true, c.loop-digit.invariant.1) in
    let inside : c.loop-digit.next < length c.args.text.now =
    digit_inside c.args.text.now c.loop-digit.next here in
    omega (arith, inside)

pub loop-digit-smaller : goal.loop-digit-smaller
loop-digit-smaller c =
    -- a digit stands at the position
    let here : digit_at c.args.text.now c.loop-digit.next < 10 =
    omega (arith, c.loop-digit-test.true, c.loop-digit.invariant.1) in
    let inside : c.loop-digit.next < length c.args.text.now =
    digit_inside c.args.text.now c.loop-digit.next here in
    omega (arith, inside)

pub loop-digit-preserved : goal.loop-digit-preserved
loop-digit-preserved c =
    -- a digit stands at the position
    let here : digit_at c.args.text.now c.loop-digit.next < 10 =
    omega (arith, c.loop-digit-test.true, c.loop-digit.invariant.1) in (
      subst (λ (v : ℕ). DigitWalk c.args.text.now c.args.start v (c.loop-digit.next + 1))
          (ap (λ (d : ℕ). held (10 * c.loop-digit.value + d)) (sym c.loop-digit.invariant.1) ∙ sym c.with_digit-value.ensures)
          (digit_walk_more c.loop-digit.invariant.0 here),
      c.digit_at-digit-in-loop-digit.ensures,
    )

pub returns-then-next-start : goal.returns-then-next-start
returns-then-next-start c =
    -- none stands there any more
    let past : 10 ≤ digit_at c.args.text.now c.loop-digit.next =
    omega (arith, c.loop-digit-test.false, c.loop-digit.invariant.1) in
    numeral_none c.loop-digit.invariant.0 past c.if-next-start.true

pub overflow_add-start : goal.overflow_add-start
overflow_add-start c =
    omega (arith, digit_inside c.args.text.now c.args.start (omega (arith, c.digit_at.ensures, c.if-digit_at-eq0.true)))

pub returns-then-start-next : goal.returns-then-start-next
returns-then-start-next c =
    -- none stands there any more
    let past : 10 ≤ digit_at c.args.text.now c.loop-digit.next =
    omega (arith, c.loop-digit-test.false, c.loop-digit.invariant.1) in
    numeral_zero c.loop-digit.invariant.0 past (sym c.digit_at.ensures ∙ c.if-digit_at-eq0.true) c.if-start-next.true

pub returns-else-start-next : goal.returns-else-start-next
returns-else-start-next c =
    -- none stands there any more
    let past : 10 ≤ digit_at c.args.text.now c.loop-digit.next =
    omega (arith, c.loop-digit-test.false, c.loop-digit.invariant.1) in
    numeral_given c.loop-digit.invariant.0 past c.if-next-start.false (inr c.if-start-next.false)

pub returns-else-digit_at-eq0 : goal.returns-else-digit_at-eq0
returns-else-digit_at-eq0 c =
    -- none stands there any more
    let past : 10 ≤ digit_at c.args.text.now c.loop-digit.next =
    omega (arith, c.loop-digit-test.false, c.loop-digit.invariant.1) in
    numeral_given c.loop-digit.invariant.0 past c.if-next-start.false (inl (λ e. c.if-digit_at-eq0.false (c.digit_at.ensures ∙ e)))
