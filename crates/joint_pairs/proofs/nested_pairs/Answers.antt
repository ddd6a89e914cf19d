-- `joint_pairs::nested_pairs` meets its contract: what stands in the lanes are the counts.
-- Assumes nothing.
use mathlib.Core.Path.{◌∙◌}
use Rattle.structure_words.specs.Words.{in_words}
use Rattle.joint_pairs.proofs.Pairing.{pairs_unpacked}
use Rattle.joint_pairs.proofs.nested_pairs.Goals as goal

pub returns : goal.returns
returns c =
    c.unpacked.ensures
    ∙ pairs_unpacked c.args.n c.at_most_16-parts.result (in_words c.args.outer.now) (in_words c.args.inner.now) c.packed_rows-rows.result
    c.packed_rows-rows.ensures c.at_most_16-parts.ensures
