-- Each example's answer is what the definitions give, computed. Assumes nothing.
use mathlib.Core.Path.{◌≡◌, refl}
use mathlib.Core.List.{map, flat_map}
use lib.Count.{ones, ones_in}
use lib.IntN.{pow, one}
use Rattle.numbers.specs.Counts.{factorial, choose}
use Rattle.numbers.specs.Tables.{tabulate}
use Rattle.theory_sums.specs.Sums.{sum, some, sum_below, sum_belowℤ}
use Rattle.theory_sets.specs.Masks.{has, holds, any, those}
use Rattle.theory_sets.specs.Structures.{listed}
use Rattle.theory_orders.specs.Orders.{inserted, orders, mask}
use Rattle.theory_orders.specs.Counting.{entries, stops, in_group, stops_as_kth, count}
use Rattle.theory_orders.specs.Formulas.{path_count, added, taken}
use Rattle.theory_figures.specs.Figures.{tail, signature, domination, set_domination, importance}
use Rattle.shares_claim.specs.Polynomials.{derivative, reflected, shifted, coefficient, integral, share_from, in_cells, shares_from_cells}
use Rattle.shares_claim.specs.SetBySet.{share_of, shares_by_sets}
use Rattle.shares_claim.specs.Reliability.{reliability, reliability_cells, shares_by_reliability}
use Rattle.shares_claim.specs.Claim.{group_counts}
use Rattle.vector_conversion.specs.Vectors.{scaled_count, unit_of, wrong_count, falls, path_counts_refusal, counts_refusal, vector_refusal}
use Rattle.examples_proved.specs.Examples.{value, examples}

pub examples_hold : map (λ e. value e.question) examples ≡ map (λ e. e.answer) examples
unfolding flat_map ones ones_in pow one factorial choose tabulate sum_below sum_belowℤ has holds listed sum some inserted orders mask entries stops in_group stops_as_kth count group_counts path_count tail signature domination importance added taken set_domination derivative reflected shifted coefficient integral share_from share_of shares_by_sets reliability reliability_cells in_cells shares_from_cells shares_by_reliability any those scaled_count unit_of wrong_count falls path_counts_refusal counts_refusal vector_refusal
examples_hold = refl
