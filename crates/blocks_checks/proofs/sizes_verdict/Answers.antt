-- `blocks_checks::sizes_verdict` meets its contract: a size that passes leaves the verdict to those after it.
-- Assumes nothing.
use mathlib.Core.Path.{◌≡◌, refl, sym, ap, ◌∙◌}
use mathlib.Core.Bool.{not}
use native.Mathlib.Numerals.{add-one}
use native.Mathlib.Omega.{arith}
use lib.ListN.{length}
use Rattle.std.specs.Prelude.{Ok, Err}
use Rattle.answer.specs.declared.Reason.TheVariants.{WrongPartCount}
use Rattle.answer.proofs.Outcomes.{refuse_passed, then_passed}
use Rattle.blocks_checks.specs.Refusals.{first_refusal, sizes_refusal}
use Rattle.blocks_checks.proofs.Given.{sizes_refused}
use Rattle.blocks_checks.proofs.sizes_verdict.Goals as goal

pub loop-size-init : goal.loop-size-init
unfolding first_refusal
loop-size-init c =
    refl

pub returns-then-not-in_range : goal.returns-then-not-in_range
returns-then-not-in_range c =
    let sizes = c.args.sizes.now in
    let wrong = ap not (sym c.in_range.ensures ∙ c.if-not-in_range.true) in
    (ap Err c.at.ensures) ∙ sym (sizes_refused sizes c.loop-size.size-index c.loop-size.invariant wrong (length sizes) c.loop-size-test.true)

pub loop-size-preserved : goal.loop-size-preserved
unfolding first_refusal
loop-size-preserved c =
    let right = ap not (sym c.in_range.ensures ∙ c.if-not-in_range.false) in
    ap (sizes_refusal c.args.sizes.now) (add-one c.loop-size.size-index) ∙ then_passed _ c.loop-size.invariant
    ∙ refuse_passed _ WrongPartCount 0 (Ok tt) right

pub returns : goal.returns
returns c =
    let sizes = c.args.sizes.now in
    let all : c.loop-size.size-index ≡ length sizes = omega arith in
    sym c.loop-size.invariant ∙ ap (sizes_refusal sizes) all
