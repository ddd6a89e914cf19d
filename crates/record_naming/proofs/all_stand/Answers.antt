-- `record_naming::all_stand` meets its contract.
-- Assumes nothing.
use mathlib.Core.Path.{◌∙◌}
use Rattle.std.proofs.Common.{rules, tests}
use Rattle.std.proofs.lemmas.Iterator.{YieldsList-from_slice}
use Rattle.std.proofs.lemmas.Iterator.Search.{all_from_yields_List}
use Rattle.record_numbers.specs.Numbering.{names}
use Rattle.record_naming.proofs.Steps.{every_tried}
use Rattle.record_naming.proofs.all_stand.Goals as goal

pub returns : goal.returns
returns c =
    all_from_yields_List (λ number. names number c.args.numbers.now) _ _ _ c.all.ensures.ran (YieldsList-from_slice c.args.wanted.now cc) (λ x b q k. search (rules, tests))
    ∙ every_tried _ c.args.wanted.now
