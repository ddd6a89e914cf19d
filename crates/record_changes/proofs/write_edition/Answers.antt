-- `record_changes::write_edition` meets its contract: two bytes are copied in front.
-- Assumes nothing.
use mathlib.Core.Path.{sym, ap, ◌∙◌}
use mathlib.Core.List.{List, [], ◌∷◌, ◌++◌}
use Prim.Native.Nat.{ℕ}
use lib.ListN.{drop}
use Rattle.answer.specs.Outcome.{outcome}
use Rattle.answer.proofs.Placing.{placed_fits}
use Rattle.record_changes.proofs.write_edition.Goals as goal

pub returns : goal.returns
returns c =
    ap (λ (l : List ℕ). outcome 2 (l ++ drop 2 c.args.buffer.now)) c.copy_from_slice.ensures.after
    ∙ sym (placed_fits c.args.buffer.now 0 (0 ∷ 2 ∷ []) c.requires)
