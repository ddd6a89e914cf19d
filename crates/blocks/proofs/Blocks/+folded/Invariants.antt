-- `blocks::Blocks::folded` ends: the last block joins the others, which are fewer.
use Rattle.blocks.proofs.Blocks.+folded.Given as goal

abbrev pub decreases-folded : goal.decreases-folded
decreases-folded l = l.blocks
