-- `figures::part_importance` meets its contract: size by size the path sets with the part are added and those without it are taken, each sum
-- at most 16 × 65,536 × 15!, and what is taken is no more than what is added.
-- Assumes nothing.
use mathlib.Core.Path.{◌≡◌, refl, sym, ap, ap₂, ◌∙◌}
use mathlib.Core.List.{List}
use Prim.Native.Nat.{ℕ, ◌+◌, ◌-◌, ◌*◌, ◌≤◌, ◌<◌}
use native.Mathlib.Nat.{le_trans, le_of_eq, mul-le-mul}
use native.Mathlib.Numerals.{add-one}
use native.Mathlib.Omega.{arith}
use lib.ListN.{get_or}
use Rattle.theory_sums.specs.Sums.{sum_below}
use Rattle.figures.specs.Inside.{part_weight, added_sets, taken_sets, Parted}
use Rattle.figures.proofs.Machines.{part_weight_few}
use Rattle.figures.proofs.part_importance.Goals as goal
use Rattle.figures.proofs.part_importance.Goals.{After-loop-s}

pub loop-s-init : goal.loop-s-init
unfolding added_sets taken_sets sum_below
loop-s-init c = record { few_added = omega arith; few_taken = omega arith; is-added = refl; is-taken = refl }

module _ (n s weight : ℕ) (small : n ≤ 16) (below : s < n) (is : weight ≡ part_weight n s) where
  -- the weight of a set
  light : weight ≤ 1307674368000
  light = le_trans (le_of_eq is) (part_weight_few n s small below)

  -- what a size adds, and what it takes
  added-few : (counts with : List ℕ) (found : ℕ) → Parted n counts with → found ≡ get_or with (s + 1) 0 → found * weight ≤ 65536 * 1307674368000
  added-few counts with found parted e = mul-le-mul (le_trans (le_of_eq e) (le_trans (parted.fewer (s + 1)) (parted.few (s + 1)))) light

  taken-few : (counts with : List ℕ) (all found : ℕ) → Parted n counts with → all ≡ get_or counts s 0 → (all - found) * weight ≤ 65536 * 1307674368000
  taken-few counts with all found parted e =
      let few : all ≤ 65536 = le_trans (le_of_eq e) (parted.few s) in
      let less : all - found ≤ 65536 = omega arith in
      mul-le-mul less light

pub overflow_mul-added : goal.overflow_mul-added
overflow_mul-added c = omega (arith, added-few _ _ _ c.requires.most c.loop-s-test.true c.part_weight-weight.ensures _ _ _ c.requires c.cell.ensures)

pub overflow_add-added : goal.overflow_add-added
overflow_add-added c = omega (arith, added-few _ _ _ c.requires.most c.loop-s-test.true c.part_weight-weight.ensures _ _ _ c.requires c.cell.ensures, c.loop-s.invariant.few_added, c.requires.most)

pub overflow_mul-taken : goal.overflow_mul-taken
overflow_mul-taken c = omega (arith, taken-few _ _ _ c.requires.most c.loop-s-test.true c.part_weight-weight.ensures _ _ _ c.cell-in-loop-s-2.result c.requires c.cell-in-loop-s.ensures)

pub overflow_add-taken : goal.overflow_add-taken
overflow_add-taken c =
    omega (arith, taken-few _ _ _ c.requires.most c.loop-s-test.true c.part_weight-weight.ensures _ _ _ c.cell-in-loop-s-2.result c.requires c.cell-in-loop-s.ensures, c.loop-s.invariant.few_taken, c.requires.most)

pub loop-s-preserved : goal.loop-s-preserved
unfolding added_sets taken_sets sum_below
loop-s-preserved c =
    let with = c.args.with.now in
    let counts = c.args.counts.now in
    let n = c.args.n in
    let s = c.loop-s.s in
    let carried = c.loop-s.invariant in
    let weighed = c.part_weight-weight in
    record {
      few_added = omega (arith, added-few _ _ _ c.requires.most c.loop-s-test.true c.part_weight-weight.ensures _ _ _ c.requires c.cell.ensures, carried.few_added);
      few_taken = omega (arith, taken-few _ _ _ c.requires.most c.loop-s-test.true c.part_weight-weight.ensures _ _ _ c.cell-in-loop-s-2.result c.requires c.cell-in-loop-s.ensures, carried.few_taken);
      is-added = ap₂ (λ (x y : ℕ). x + y) carried.is-added
          (ap₂ (λ (x y : ℕ). x * y) (c.cell.ensures ∙ ap (λ (i : ℕ). get_or with i 0) (add-one s)) weighed.ensures)
          ∙ ap (added_sets n with) (sym (add-one s));
      is-taken = ap₂ (λ (x y : ℕ). x + y) carried.is-taken
          (ap₂ (λ (x y : ℕ). x * y) (ap₂ (λ (x y : ℕ). x - y) c.cell-in-loop-s.ensures c.cell-in-loop-s-2.ensures) weighed.ensures)
          ∙ ap (taken_sets n counts with) (sym (add-one s));
    }
