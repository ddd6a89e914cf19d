-- 02, §9, on examples, computed: a third part that no set names, the bridge, and the two machines of six parts of 003, Remark 4, which have the same
-- path counts, one with an idle part and one without. Assumes nothing.
use mathlib.Core.Path.{◌≡◌, refl}
use mathlib.Core.Bool.{Bool, xor}
use mathlib.Core.List.{[], ◌∷◌}
use Prim.Native.Nat.{ℕ}
use lib.Count.{ones, ones_in}
use Rattle.numbers.specs.Counts.{factorial}
use Rattle.numbers.specs.Tables.{tabulate}
use Rattle.theory_sums.specs.Sums.{sum_below}
use Rattle.theory_sets.specs.Masks.{has, holds, any}
use Rattle.theory_sets.specs.Structures.{listed}
use Rattle.theory_sets.specs.Tables.{packed}
use Rattle.theory_sets.specs.Idle.{idle, idle_parts}
use Rattle.theory_orders.specs.Formulas.{path_count}
use Rattle.theory_figures.specs.Figures.{importance, importances, path_counts}

-- three parts with {1,2}: part 3 is idle, and its importance is 0
third_idle : idle_parts 3 (listed (3 ∷ [])) ≡ 4
unfolding idle_parts idle packed listed holds any xor
third_idle = refl

third_importance : importances 3 (listed (3 ∷ [])) ≡ 3 ∷ 3 ∷ 0 ∷ []
unfolding importance listed holds has ones ones_in sum_below factorial tabulate
third_importance = refl

-- the bridge has no idle part
bridge_idle : idle_parts 5 (listed (9 ∷ 14 ∷ 18 ∷ 21 ∷ [])) ≡ 0
unfolding idle_parts idle packed listed holds any xor
bridge_idle = refl

-- {1,2}, {2,3,4}, {3,4,5,6}, and {1,3}, {2,4,5}, in which part 6 is idle
abbrev all_six : ℕ → Bool
all_six = listed (3 ∷ 14 ∷ 60 ∷ [])

abbrev five_of_six : ℕ → Bool
five_of_six = listed (5 ∷ 26 ∷ [])

all_six_idle : idle_parts 6 all_six ≡ 0
unfolding idle_parts idle packed listed holds any xor
all_six_idle = refl

five_of_six_idle : idle_parts 6 five_of_six ≡ 32
unfolding idle_parts idle packed listed holds any xor
five_of_six_idle = refl

same_path_counts : path_counts 6 all_six ≡ path_counts 6 five_of_six
unfolding path_count listed holds ones ones_in sum_below tabulate
same_path_counts = refl
