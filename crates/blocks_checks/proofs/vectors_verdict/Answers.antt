-- `blocks_checks::vectors_verdict` meets its contract: a vector that is accepted leaves the verdict to those after it, and the
-- next one starts where it ends.
-- Assumes nothing.
use mathlib.Core.Path.{◌≡◌, refl, sym, ap, ◌∙◌}
use native.Mathlib.Numerals.{add-one}
use native.Mathlib.Omega.{arith}
use lib.ListN.{length}
use Rattle.answer.proofs.Outcomes.{then_passed}
use Rattle.vector_kind.specs.declared.Kind.TheVariants.{PathCounts}
use Rattle.vector_conversion.specs.Vectors.{vector_refusal}
use Rattle.theory_sums.specs.Sums.{sum_below}
use Rattle.blocks_checks.specs.Given.{size_at, start_of}
use Rattle.blocks_checks.specs.Refusals.{first_refusal, block_refusal, vectors_refusal}
use Rattle.blocks_checks.proofs.Given.{start_next, start_inside, part_vector, vectors_refused}
use Rattle.blocks_checks.proofs.vectors_verdict.Goals as goal

pub loop-size-init : goal.loop-size-init
unfolding first_refusal start_of sum_below
loop-size-init c =
    (refl, refl)

-- the block's vector ends in the list
pub overflow_add-end : goal.overflow_add-end
overflow_add-end c = omega (arith, start_inside c.args.sizes.now c.loop-size.size-index (length c.args.sizes.now) c.loop-size-test.true, c.loop-size.invariant.0, c.requires)

pub overflow_add-end-in-loop-size : goal.overflow_add-end-in-loop-size
overflow_add-end-in-loop-size c = omega (arith, start_inside c.args.sizes.now c.loop-size.size-index (length c.args.sizes.now) c.loop-size-test.true, c.loop-size.invariant.0, c.requires)

pub offset_bounds-vectors-start : goal.offset_bounds-vectors-start
offset_bounds-vectors-start c = omega (arith, start_inside c.args.sizes.now c.loop-size.size-index (length c.args.sizes.now) c.loop-size-test.true, c.loop-size.invariant.0, c.requires)

pub slice_bounds-judge-end : goal.slice_bounds-judge-end
slice_bounds-judge-end c = omega (arith, start_inside c.args.sizes.now c.loop-size.size-index (length c.args.sizes.now) c.loop-size-test.true, c.loop-size.invariant.0, c.requires)

pub returns-in_err-judge : goal.returns-in_err-judge
returns-in_err-judge c =
    let a = c.args in
    let b = c.loop-size.size-index in
    -- what the block's vector was judged to be
    let judged_is : block_refusal a.sizes.now a.vectors.now b ≡ c.judge.result =
    ap (vector_refusal PathCounts (size_at a.sizes.now b)) (sym (part_vector a.sizes.now a.vectors.now b c.loop-size.start c.loop-size.invariant.0)) ∙ sym c.judge.ensures in
    let first = vectors_refused a.sizes.now a.vectors.now b c.loop-size.invariant.1 (judged_is ∙ c.in_err-judge.was) (length a.sizes.now) c.loop-size-test.true in
    grind (arith, first)

pub loop-size-preserved : goal.loop-size-preserved
unfolding first_refusal
loop-size-preserved c =
    -- what the block's vector was judged to be
    let judged_is : let sizes = c.args.sizes.now in block_refusal sizes c.args.vectors.now c.loop-size.size-index ≡ c.judge.result =
    let a = c.args in
    let b = c.loop-size.size-index in
    ap (vector_refusal PathCounts (size_at a.sizes.now b)) (sym (part_vector a.sizes.now a.vectors.now b c.loop-size.start c.loop-size.invariant.0))
    ∙ sym c.judge.ensures in
    let a = c.args in
    let b = c.loop-size.size-index in (
      omega (arith, c.loop-size.invariant.0, start_next a.sizes.now b),
      ap (vectors_refusal a.sizes.now a.vectors.now) (add-one b) ∙ then_passed _ c.loop-size.invariant.1 ∙ judged_is ∙ c.in_ok-judge.was,
    )

pub returns : goal.returns
returns c =
    let a = c.args in
    let all : c.loop-size.size-index ≡ length a.sizes.now = omega arith in
    sym c.loop-size.invariant.1 ∙ ap (vectors_refusal a.sizes.now a.vectors.now) all
