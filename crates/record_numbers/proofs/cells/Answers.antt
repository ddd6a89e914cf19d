-- `record_numbers::cells` meets its contract: each number that the group does not have fills the first spare cell.
-- Assumes nothing.
use mathlib.Core.Path.{◌≡◌, refl, sym, ap, ◌∙◌}
use mathlib.Core.List.{List, [], ◌∷◌, ◌++◌}
use Prim.Native.Nat.{ℕ, ◌+◌, ◌/◌, ◌%◌, ◌^◌, ◌<◌}
use native.Mathlib.Numerals.{add-one}
use native.Mathlib.Omega.{arith}
use lib.ListN.{length, take, get_or, set, length-append}
use lib.Seq.{length-take-le}
use Rattle.answer.proofs.FixedCells.{cells_more}
use Rattle.theory_sets.proofs.Masks.{bit_of_odd, bit_of_even}
use Rattle.record_numbers.specs.Numbering.{most_parts, cells_of, others}
use Rattle.record_numbers.proofs.Others.{others_same, others_more}
use Rattle.record_numbers.proofs.cells.Invariants.{Filled}
use Rattle.record_numbers.proofs.cells.Goals as goal
use Rattle.record_numbers.proofs.cells.Goals.{then-group-index-eq0, else-group-index-eq0}

module _ (numbers : List ℕ) (group : ℕ) (cells : List ℕ) (next index : ℕ) (f : Filled numbers group cells next index) (inside : index < length numbers) where
  -- a number that the group does not have is stored
  stored : group / 2 ^ index % 2 ≡ 0 → index < most_parts → Filled numbers group (set cells next (get_or numbers index 0)) (next + 1) (index + 1)
  stored even few =
      let front = others (take index numbers) group in
      let number = get_or numbers index 0 in
      let more : others (take (index + 1) numbers) group ≡ front ++ (number ∷ []) =
      rw (add-one index) (others_more numbers group index inside (bit_of_even group index even)) in
      record {
        below = omega (arith, f.below);
        counted = omega (arith, f.counted, length-append front (number ∷ []), ap length more);
        stands = ap (λ (l : List ℕ). set l next number) f.stands ∙ cells_more most_parts 0 front next number (sym f.counted) (omega (arith, f.below))
            ∙ ap cells_of (sym more);
      }

  -- and one that it has is not
  passed : (group / 2 ^ index % 2 ≡ 0 → ⊥) → Filled numbers group cells next (index + 1)
  passed uneven =
      let odd : group / 2 ^ index % 2 ≡ 1 = omega arith in
      let same : others (take (index + 1) numbers) group ≡ others (take index numbers) group =
      rw (add-one index) (others_same numbers group index inside (bit_of_odd group index odd)) in
      record { below = omega (arith, f.below); counted = f.counted ∙ ap length (sym same); stands = f.stands ∙ ap cells_of (sym same) }

pub loop-index-init : goal.loop-index-init
unfolding others
loop-index-init c = record { below = omega arith; counted = refl; stands = refl }

pub loop-index-preserved : goal.loop-index-preserved
loop-index-preserved c =
    let l = c.loop-index in
    let inside = c.loop-index-test.true in
    elim c.if-group-index-eq0.branch [
      | then-group-index-eq0 w ↦
          rw (w.cells-is, w.next-is) (stored _ _ _ _ _ l.invariant inside w.if-group-index-eq0.true (omega (arith, length-take-le c.min-count.result c.args.numbers.now)))
      | else-group-index-eq0 w ↦ rw (w.cells-is, w.next-is) (passed _ _ _ _ _ l.invariant inside w.if-group-index-eq0.false)
    ]
