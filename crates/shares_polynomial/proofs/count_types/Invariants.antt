-- `shares_polynomial::count_types` meets its contract: one pass over the sets, each counted where its type stands.
-- Assumes nothing.
use mathlib.Core.Path.{◌≡◌}
use Rattle.theory_sums.specs.Sums.{gathered}
use Rattle.numbers.specs.Tables.{tabulate}
use Rattle.structure_words.specs.Words.{in_words}
use Rattle.shares_polynomial.specs.Inside.{type_of}
use Rattle.shares_polynomial.proofs.count_types.Given as goal

abbrev pub invariant-loop-a : goal.invariant-loop-a
invariant-loop-a l = l.counts ≡ tabulate 289 (gathered (in_words l.words) (type_of l.group) (λ b. 1) l.a)
