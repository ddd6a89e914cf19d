-- `record_numbers::highest` meets its contract.
-- Assumes nothing.
use Rattle.std.proofs.Common.{◌∙◌, sym}
use Rattle.std.proofs.lemmas.Iterator.Adapters.{option_map_id}
use Rattle.std.proofs.lemmas.Iterator.{YieldsList-from_slice}
use Rattle.std.proofs.lemmas.Iterator.Consumers.{YieldsList-from_copied, max_from_yields_List}
use Rattle.record_numbers.proofs.Marks.{highest_picked}
use Rattle.record_numbers.proofs.highest.Goals as goal

pub returns : goal.returns
returns c =
    c.unwrap_or.ensures
    ∙ highest_picked _ c.args.numbers.now (sym (option_map_id _) ∙ max_from_yields_List _ _ c.max.ensures.ran (YieldsList-from_copied (YieldsList-from_slice c.args.numbers.now cc)))
