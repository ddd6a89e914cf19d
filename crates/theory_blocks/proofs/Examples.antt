-- 003's example 7, which the request names, computed: two blocks in series, of three and of four parts. Assumes nothing.
use mathlib.Core.Path.{◌≡◌, refl}
use mathlib.Core.Bool.{Bool}
use mathlib.Core.List.{[], ◌∷◌}
use Prim.Native.Nat.{ℕ, zero, suc}
use lib.Dec.{eqb}
use lib.IntN.{pos}
use lib.ListN.{get_or}
use Rattle.numbers.specs.Counts.{factorial, choose}
use Rattle.numbers.specs.Tables.{tabulate}
use Rattle.theory_sums.specs.Sums.{sum_below}
use Rattle.theory_sets.specs.Masks.{has}
use Rattle.theory_figures.specs.Figures.{tail, signature}
use Rattle.theory_blocks.specs.Blocks.{product, ways, count_of_blocks}
use Rattle.theory_blocks.specs.Formula.{reflected, factors, decomposed}

abbrev sizes : ℕ → ℕ
sizes b = get_or (3 ∷ 4 ∷ []) b 0

abbrev counts : ℕ → ℕ → ℕ
counts zero j = get_or (0 ∷ 0 ∷ 2 ∷ 1 ∷ []) j 0
counts (suc b) j = get_or (0 ∷ 0 ∷ 2 ∷ 4 ∷ 1 ∷ []) j 0

-- both blocks have to run
abbrev series : ℕ → Bool
series running = eqb running 3

-- the blocks have the shares (1/3, 2/3, 0) of 3! orders and (0, 2/3, 1/3, 0) of 4!
first_shares : tabulate 3 (λ k. signature 3 (counts 0) (suc k)) ≡ pos 2 ∷ pos 4 ∷ pos 0 ∷ []
unfolding tabulate signature tail factorial
first_shares = refl

second_shares : tabulate 4 (λ k. signature 4 (counts 1) (suc k)) ≡ pos 0 ∷ pos 16 ∷ pos 8 ∷ pos 0 ∷ []
unfolding tabulate signature tail factorial
second_shares = refl

example_counts : tabulate 8 (count_of_blocks sizes counts 2 series) ≡ 0 ∷ 0 ∷ 0 ∷ 0 ∷ 4 ∷ 10 ∷ 6 ∷ 1 ∷ []
unfolding tabulate count_of_blocks ways product choose has sum_below
example_counts = refl

-- "give orders 720, 1920, 1824, 576, 0, 0, 0"
example_orders : tabulate 7 (λ k. signature 7 (count_of_blocks sizes counts 2 series) (suc k))
    ≡ pos 720 ∷ pos 1920 ∷ pos 1824 ∷ pos 576 ∷ pos 0 ∷ pos 0 ∷ pos 0 ∷ []
unfolding tabulate signature tail factorial count_of_blocks ways product choose has sum_below
example_orders = refl

-- 003 has 2x - 1 and 2x^2 - 1 for the blocks and 1 - 2x - 2x^2 + 4x^3 for the whole: at x = 1, 2, 3 and 4
example_blocks : tabulate 4 (reflected 3 (counts 0)) ≡ 1 ∷ 3 ∷ 5 ∷ 7 ∷ []
unfolding tabulate reflected sum_below
example_blocks = refl

example_others : tabulate 4 (reflected 4 (counts 1)) ≡ 1 ∷ 7 ∷ 17 ∷ 31 ∷ []
unfolding tabulate reflected sum_below
example_others = refl

example_formula : tabulate 4 (decomposed sizes counts 2 series) ≡ 1 ∷ 21 ∷ 85 ∷ 217 ∷ []
unfolding tabulate reflected factors decomposed has sum_below
example_formula = refl
