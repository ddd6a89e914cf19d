-- `record::refused_sets` meets its contract: zeros are the words of no set.
-- Assumes nothing.
use mathlib.Core.Path.{ap}
use mathlib.Core.List.{List}
use Prim.Native.Nat.{ℕ}
use Rattle.std.specs.Prelude.{Err}
use Rattle.answer.specs.Outcome.{at}
use Rattle.record.proofs.Answers.{no_words}
use Rattle.record.proofs.refused_sets.Goals as goal

-- `record::refused_sets` meets its contract: zeros are the words of no set.
-- Assumes nothing.
pub returns : goal.returns
returns c = ap (λ (words : List ℕ). record { words = words; end = 0; verdict = Err (at c.args.reason c.args.place) }) no_words
