-- That no part is idle does not say that d(n) is not 0: the machine of specs/Counterexample.antt, computed. Assumes nothing.
use mathlib.Core.Path.{◌≡◌, refl}
use mathlib.Core.Bool.{Bool, xor}
use mathlib.Core.List.{[], ◌∷◌, Memᴰ}
use Prim.Native.Nat.{ℕ, ◌^◌, ◌<◌}
use native.Mathlib.Omega.{arith}
use lib.Count.{ones, ones_in}
use lib.IntN.{pos, negsuc, pow, one}
use Rattle.numbers.specs.Counts.{factorial, choose}
use Rattle.numbers.specs.Tables.{tabulate}
use Rattle.theory_sums.specs.Sums.{sum_below, sum_belowℤ}
use Rattle.theory_sets.specs.Masks.{has, holds, any}
use Rattle.theory_sets.specs.Structures.{Semicoherent, listed}
use Rattle.theory_sets.specs.Tables.{packed}
use Rattle.theory_sets.specs.Idle.{idle, idle_parts}
use Rattle.theory_sets.proofs.Lists.{listed_semicoherent}
use Rattle.theory_orders.specs.Formulas.{path_count}
use Rattle.theory_figures.specs.Figures.{domination, dominations, importance, importances}
use Rattle.theory_idle.specs.Counterexample.{pairs, by_pairs}

-- d = 0, 0, 3, -2, 0
pairs_domination : dominations 4 by_pairs ≡ pos 0 ∷ pos 0 ∷ pos 3 ∷ negsuc 1 ∷ pos 0 ∷ []
unfolding domination path_count listed holds has ones ones_in sum_below sum_belowℤ choose pow one tabulate
pairs_domination = refl

-- no part is idle, as the importances say too
pairs_idle : idle_parts 4 by_pairs ≡ 0
unfolding idle_parts idle packed listed holds any xor
pairs_idle = refl

pairs_importances : importances 4 by_pairs ≡ 4 ∷ 8 ∷ 8 ∷ 4 ∷ []
unfolding importance listed holds has ones ones_in sum_below factorial tabulate
pairs_importances = refl

pairs_sets : (b : ℕ) → Memᴰ b pairs → (b < 2 ^ 4) × (0 < b)
pairs_sets b (Memᴰ.head e) = omega arith
pairs_sets b (Memᴰ.tail (Memᴰ.head e)) = omega arith
pairs_sets b (Memᴰ.tail (Memᴰ.tail (Memᴰ.head e))) = omega arith
pairs_sets b (Memᴰ.tail (Memᴰ.tail (Memᴰ.tail none))) = elim none [ ]

-- so the reverse of `full_domination` is false
pub reverse_false : ((n : ℕ) (works : ℕ → Bool) → Semicoherent n works → idle_parts n works ≡ 0 → domination n (path_count n works) n ≡ pos 0 → ⊥) → ⊥
unfolding domination path_count listed holds has ones ones_in sum_below sum_belowℤ choose pow one
reverse_false claim = claim 4 by_pairs (listed_semicoherent 4 pairs (omega arith) pairs_sets) pairs_idle refl
