-- `shares_by_sets::Scale::gather` meets its contract: one pass over the sets, each of which adds its own two amounts.
-- Assumes nothing.
use mathlib.Core.Path.{◌≡◌}
use mathlib.Core.List.{List}
use Prim.Native.Nat.{ℕ}
use Rattle.numbers.specs.Tables.{tabulate}
use Rattle.structure_words.specs.Words.{in_words}
use Rattle.theory_sets.specs.Masks.{inside}
use Rattle.theory_sums.specs.Sums.{gathered}
use Rattle.shares_by_sets.specs.Inside.{added_by, taken_by}
use Rattle.shares_by_sets.proofs.Scale.gather.Given as goal

-- what the path sets below a give
abbrev pub sums : List ℕ → ℕ → (ℕ → ℕ) → ℕ → List ℕ
sums words group amount a = tabulate 17 (gathered (in_words words) (inside group) amount a)

abbrev pub invariant-loop-a : goal.invariant-loop-a
invariant-loop-a l = (l.sums.added ≡ sums l.words l.self.group (added_by l.self.n l.self.group) l.a) × (l.sums.taken ≡ sums l.words l.self.group (taken_by l.self.n l.self.group) l.a)
