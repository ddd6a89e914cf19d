-- `blocks::whole_counts` meets its contract: the rows and the words of accepted blocks say what their vectors and table say.
-- Assumes nothing.
use mathlib.Core.Path.{ap, ◌∙◌}
use Prim.Native.Nat.{◌^◌}
use native.Mathlib.Nat.{le_refl, le_trans, le_of_eq, zero-add}
use lib.IntN.{pos}
use lib.ListN.{length}
use lib.Pow.{pow_mono}
use Rattle.numbers.proofs.Tables.{tabulate_same}
use Rattle.blocks.specs.Inside.{BothRows, entry_at}
use Rattle.blocks.proofs.Folds.{over, counts_few, counts_at_lem}
use Rattle.blocks.proofs.Accepted.{blocks_few, sizes_few, vectors_long, running_most, both_rows, counts_whole}
use Rattle.blocks.proofs.whole_counts.Goals as goal

pub running_counts-running-requires : goal.running_counts-running-requires
running_counts-running-requires c =
    let a = c.args in
    let judged = c.requires.vectors_value in
    record {
      sizes_len_bound = blocks_few a.table.now a.sizes.now a.vectors.now judged;
      by_index = sizes_few a.table.now a.sizes.now a.vectors.now judged;
      vectors_len = vectors_long a.table.now a.sizes.now a.vectors.now judged;
    }

pub stopped_counts-stopped-requires : goal.stopped_counts-stopped-requires
stopped_counts-stopped-requires c =
    let a = c.args in
    let judged = c.requires.vectors_value in
    record {
      sizes_len_bound = blocks_few a.table.now a.sizes.now a.vectors.now judged;
      by_index = sizes_few a.table.now a.sizes.now a.vectors.now judged;
      by_index_2 = running_most a.table.now a.sizes.now a.vectors.now judged c.running_counts-running.result c.running_counts-running.ensures;
    }

pub folded-counts-requires : goal.folded-counts-requires
folded-counts-requires c =
    let both : BothRows c.args.sizes.now c.running_counts-running.result c.stopped_counts-stopped.result =
    let a = c.args in
    both_rows a.table.now a.sizes.now a.vectors.now c.requires.vectors_value c.running_counts-running.result c.running_counts-running.ensures _ c.stopped_counts-stopped.ensures in
    let sizes = c.args.sizes.now in
    let few = blocks_few c.args.table.now sizes c.args.vectors.now c.requires.vectors_value in
    record {
      both_rows = both;
      blocks_in_bounds = le_refl (length sizes);
      parts_value = c.requires.parts_value;
      blocks_bound = le_trans (le_of_eq (zero-add (2 ^ length sizes))) (pow_mono few);
    }

pub signed-requires : goal.signed-requires
signed-requires c =
    let both : BothRows c.args.sizes.now c.running_counts-running.result c.stopped_counts-stopped.result =
    let a = c.args in
    both_rows a.table.now a.sizes.now a.vectors.now c.requires.vectors_value c.running_counts-running.result c.running_counts-running.ensures _ c.stopped_counts-stopped.ensures in
    counts_few both (length c.args.sizes.now) (le_refl _) (over c.load-words.result 0) _ c.folded-counts.ensures

pub returns : goal.returns
unfolding entry_at
returns c =
    let both : BothRows c.args.sizes.now c.running_counts-running.result c.stopped_counts-stopped.result =
    let a = c.args in
    both_rows a.table.now a.sizes.now a.vectors.now c.requires.vectors_value c.running_counts-running.result c.running_counts-running.ensures _ c.stopped_counts-stopped.ensures in
    let a = c.args in
    c.signed.ensures
    ∙ tabulate_same 17 _ _ (λ j h.
    ap pos (counts_at_lem both (length a.sizes.now) (le_refl _) (over c.load-words.result 0) _ c.folded-counts.ensures j
    ∙ counts_whole a.table.now a.sizes.now a.vectors.now c.requires.vectors_value c.running_counts-running.result c.running_counts-running.ensures c.load-words.result
    c.load-words.ensures j))
