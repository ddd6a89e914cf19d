-- `record::refused_with_words` meets its contract: zeros are the words of no set.
-- Assumes nothing.
use mathlib.Core.Path.{ap}
use mathlib.Core.List.{List}
use Prim.Native.Nat.{ℕ}
use Rattle.answer.specs.Outcome.{at}
use Rattle.record.specs.Contents.{nothing}
use Rattle.record.proofs.Answers.{no_words}
use Rattle.record.proofs.refused_with_words.Goals as goal

-- `record::refused_with_words` meets its contract: zeros are the words of no set.
-- Assumes nothing.
pub returns : goal.returns
returns c = ap (λ (words : List ℕ). record { contents = nothing (at c.args.reason c.args.place); words = words }) no_words
