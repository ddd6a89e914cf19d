-- `structure_patterns::stopped_by_neighbours` meets its contract: the neighbours are a list of cut sets that is accepted.
-- Assumes nothing.
use mathlib.Core.Path.{◌≡◌, sym, ap, ◌∙◌}
use mathlib.Core.List.{List}
use Prim.Native.Nat.{ℕ, ◌≤◌}
use native.Mathlib.Omega.{arith}
use lib.ListN.{length, take}
use Rattle.answer.specs.Outcome.{delivered, Verdict}
use Rattle.numbers.proofs.Tables.{take_tabulate, tabulate_length}
use Rattle.theory_sets.specs.Tables.{table_of}
use Rattle.theory_cuts.specs.Cuts.{by_cuts}
use Rattle.structure.specs.Checks.{list_refusal}
use Rattle.structure_patterns.specs.Inside.{neighbours_from, first_neighbours}
use Rattle.structure_patterns.proofs.NeighbourSets.{neighbours_accepted}
use Rattle.structure_patterns.proofs.stopped_by_neighbours.Goals as goal

-- the sets that are handed on
first : (n k count : ℕ) (sets : List ℕ) → sets ≡ first_neighbours n k 16 → count ≤ 16 → take count sets ≡ first_neighbours n k count
first n k count sets e short = ap (take count) e ∙ take_tabulate count 16 (neighbours_from n k) short

pub slice_bounds-table_of_cuts-end : goal.slice_bounds-table_of_cuts-end
slice_bounds-table_of_cuts-end c =
    let a = c.args in
    let short : a.count ≤ 16 = omega arith in
    sym (ap length (first a.n a.k a.count c.neighbours-sets.result c.neighbours-sets.ensures short) ∙ tabulate_length a.count _)

pub returns : goal.returns
returns c =
    let a = c.args in
    let short : a.count ≤ 16 = omega arith in
    let n = a.n in
    let sets = first n a.k a.count c.neighbours-sets.result c.neighbours-sets.ensures short in
    c.table_of_cuts.ensures
    ∙ ap (λ (cuts : List ℕ). delivered (list_refusal n cuts) (table_of n (by_cuts n cuts)) a.table.now) sets
    ∙ ap (λ (v : Verdict). delivered v (table_of n (by_cuts n (first_neighbours n a.k a.count))) a.table.now)
    (neighbours_accepted n a.k (omega arith) (omega arith) a.count (omega arith) (omega arith) (omega arith))
