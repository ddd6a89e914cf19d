-- `nahokipe::of_contents` meets its contract: field by field.
-- Assumes nothing.
use mathlib.Core.Path.{ap₂}
use Prim.Native.Nat.{ℕ}
use Rattle.nahokipe.specs.declared.Answer.{Answer}
use Rattle.nahokipe.proofs.of_contents.Goals as goal

pub returns : goal.returns
returns c =
    let contents = c.args.contents in
    ap₂ (λ (answer : Answer) (length : ℕ). record { number = answer.number; value = answer.value; parts = contents.list.count; mark = contents.list.mark; numbers = contents.list.numbers; sets = contents.sets; offset = contents.begin; length = length }) c.of_verdict-answer.ensures c.between.ensures
