-- `blocks::path_counts_of_blocks` meets its contract: a refusal leaves the cells alone, and else the counts of as many sizes as there are are handed out.
-- Assumes nothing.
use mathlib.Core.Path.{◌≡◌, sym, ap, ap₂, ◌∙◌}
use mathlib.Core.List.{List}
use Prim.Native.Nat.{ℕ, ◌+◌, ◌-◌, ◌≤◌}
use native.Mathlib.Nat.{le_trans, le_of_eq}
use native.Mathlib.Omega.{arith}
use lib.IntN.{ℤ}
use lib.ListN.{length, take}
use lib.Seq.{length-take-le}
use Rattle.std.specs.Prelude.{Ok}
use Rattle.numbers.proofs.Tables.{tabulate_length}
use Rattle.answer.specs.Outcome.{delivered, Verdict}
use Rattle.theory_blocks.specs.Blocks.{parts_in}
use Rattle.blocks_checks.specs.Given.{size_at}
use Rattle.blocks_checks.specs.Accepted.{AcceptedBlocks}
use Rattle.blocks_checks.proofs.Claims.{blocks_accepted}
use Rattle.blocks_checks.proofs.Given.{start_parts}
use Rattle.blocks_checks.specs.Refusals.{blocks_refusal}
use Rattle.blocks.specs.Whole.{counts_of_blocks}
use Rattle.blocks.proofs.Accepted.{counts_handed}
use Rattle.blocks.proofs.path_counts_of_blocks.Goals as goal

pub overflow_sub-parts : goal.overflow_sub-parts
overflow_sub-parts c =
    -- what the blocks were judged to be
    let said : let a = c.args in blocks_refusal a.blocks a.table.now a.sizes.now a.vectors.now ≡ c.blocks_verdict.result =
    sym c.blocks_verdict.ensures in
    let passed : let a = c.args in blocks_refusal a.blocks a.table.now a.sizes.now a.vectors.now ≡ Ok tt =
    said ∙ c.in_ok-blocks_verdict.was in
    let accepted : let a = c.args in AcceptedBlocks a.blocks a.table.now a.sizes.now a.vectors.now =
    let a = c.args in blocks_accepted a.blocks a.table.now a.sizes.now a.vectors.now passed in
    -- each vector has one entry more than its block has parts
    let entries : let a = c.args in length a.vectors.now ≡ parts_in (size_at a.sizes.now) a.blocks + a.blocks =
    let a = c.args in accepted.long ∙ start_parts a.sizes.now a.blocks in
    omega (arith, entries)

pub whole_counts-counts-requires : goal.whole_counts-counts-requires
whole_counts-counts-requires c =
    -- what the blocks were judged to be
    let said : let a = c.args in blocks_refusal a.blocks a.table.now a.sizes.now a.vectors.now ≡ c.blocks_verdict.result =
    sym c.blocks_verdict.ensures in
    let passed : let a = c.args in blocks_refusal a.blocks a.table.now a.sizes.now a.vectors.now ≡ Ok tt =
    said ∙ c.in_ok-blocks_verdict.was in
    let accepted : let a = c.args in AcceptedBlocks a.blocks a.table.now a.sizes.now a.vectors.now =
    let a = c.args in blocks_accepted a.blocks a.table.now a.sizes.now a.vectors.now passed in
    -- each vector has one entry more than its block has parts
    let entries : let a = c.args in length a.vectors.now ≡ parts_in (size_at a.sizes.now) a.blocks + a.blocks =
    let a = c.args in accepted.long ∙ start_parts a.sizes.now a.blocks in
    let a = c.args in
    let blocks : length a.sizes.now ≡ a.blocks = accepted.enough in
    let parts : length a.vectors.now - a.blocks ≡ parts_in (size_at a.sizes.now) a.blocks = omega (arith, entries) in
    record {
      vectors_value = ap (λ (r : ℕ). blocks_refusal r a.table.now a.sizes.now a.vectors.now) blocks ∙ passed;
      parts_value = parts ∙ ap (parts_in (size_at a.sizes.now)) (sym blocks);
    }

pub slice_bounds-counts-end : goal.slice_bounds-counts-end
slice_bounds-counts-end c =
    -- what the blocks were judged to be
    let said : let a = c.args in blocks_refusal a.blocks a.table.now a.sizes.now a.vectors.now ≡ c.blocks_verdict.result =
    sym c.blocks_verdict.ensures in
    let passed : let a = c.args in blocks_refusal a.blocks a.table.now a.sizes.now a.vectors.now ≡ Ok tt =
    said ∙ c.in_ok-blocks_verdict.was in
    let accepted : let a = c.args in AcceptedBlocks a.blocks a.table.now a.sizes.now a.vectors.now =
    let a = c.args in blocks_accepted a.blocks a.table.now a.sizes.now a.vectors.now passed in
    -- each vector has one entry more than its block has parts
    let entries : let a = c.args in length a.vectors.now ≡ parts_in (size_at a.sizes.now) a.blocks + a.blocks =
    let a = c.args in accepted.long ∙ start_parts a.sizes.now a.blocks in
    let few : let a = c.args in length a.vectors.now - a.blocks + 1 ≤ 17 =
    omega (arith, entries, accepted.few) in
    le_trans few (le_of_eq (sym (ap length c.whole_counts-counts.ensures ∙ tabulate_length 17 _)))

pub slice_bounds-hand_out-end : goal.slice_bounds-hand_out-end
slice_bounds-hand_out-end c =
    -- what the blocks were judged to be
    let said : let a = c.args in blocks_refusal a.blocks a.table.now a.sizes.now a.vectors.now ≡ c.blocks_verdict.result =
    sym c.blocks_verdict.ensures in
    let passed : let a = c.args in blocks_refusal a.blocks a.table.now a.sizes.now a.vectors.now ≡ Ok tt =
    said ∙ c.in_ok-blocks_verdict.was in
    let accepted : let a = c.args in AcceptedBlocks a.blocks a.table.now a.sizes.now a.vectors.now =
    let a = c.args in blocks_accepted a.blocks a.table.now a.sizes.now a.vectors.now passed in
    -- each vector has one entry more than its block has parts
    let entries : let a = c.args in length a.vectors.now ≡ parts_in (size_at a.sizes.now) a.blocks + a.blocks =
    let a = c.args in accepted.long ∙ start_parts a.sizes.now a.blocks in
    let few : let a = c.args in length a.vectors.now - a.blocks + 1 ≤ 17 =
    omega (arith, entries, accepted.few) in
    sym (length-take-le _ c.whole_counts-counts.result (le_trans few (le_of_eq (sym (ap length c.whole_counts-counts.ensures ∙ tabulate_length 17 _)))))

pub returns : goal.returns
returns c =
    -- what the blocks were judged to be
    let said : let a = c.args in blocks_refusal a.blocks a.table.now a.sizes.now a.vectors.now ≡ c.blocks_verdict.result =
    sym c.blocks_verdict.ensures in
    let passed : let a = c.args in blocks_refusal a.blocks a.table.now a.sizes.now a.vectors.now ≡ Ok tt =
    said ∙ c.in_ok-blocks_verdict.was in
    let accepted : let a = c.args in AcceptedBlocks a.blocks a.table.now a.sizes.now a.vectors.now =
    let a = c.args in blocks_accepted a.blocks a.table.now a.sizes.now a.vectors.now passed in
    -- each vector has one entry more than its block has parts
    let entries : let a = c.args in length a.vectors.now ≡ parts_in (size_at a.sizes.now) a.blocks + a.blocks =
    let a = c.args in accepted.long ∙ start_parts a.sizes.now a.blocks in
    -- the first of the counts, up to all parts, are those of the whole
    let handed : let a = c.args in take (length a.vectors.now - a.blocks + 1) c.whole_counts-counts.result ≡ counts_of_blocks a.blocks a.table.now a.sizes.now a.vectors.now =
    let a = c.args in
    let all : length a.vectors.now - a.blocks + 1 ≡ parts_in (size_at a.sizes.now) a.blocks + 1 = omega (arith, entries) in
    counts_handed a.blocks a.table.now a.sizes.now a.vectors.now accepted c.whole_counts-counts.result c.whole_counts-counts.ensures _ all in
    let cells = c.args.cells.now in
    c.hand_out.ensures
    ∙ ap₂ (λ (v : Verdict) (xs : List ℤ). delivered v xs cells) (sym passed) handed
