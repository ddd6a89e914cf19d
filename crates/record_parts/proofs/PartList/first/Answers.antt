-- `record_parts::PartList::first` meets its contract: the highest number is the mark.
-- Assumes nothing.
use mathlib.Core.Path.{ap, ◌∙◌}
use Prim.Native.Nat.{ℕ}
use Rattle.record_parts.specs.PartLists.{made}
use Rattle.record_parts.proofs.PartList.first.Goals as goal

pub returns : goal.returns
returns c =
    c.with_mark.ensures
    ∙ ap (λ (mark : ℕ). made mark c.args.numbers.now) c.highest.ensures
