-- Rows of 17 counts in one list: the row of a part. Assumes nothing.
use mathlib.Core.Path.{◌≡◌, ap₂, ◌∙◌}
use mathlib.Core.Bool.{Bool, ◌&&◌}
use Prim.Native.Nat.{ℕ, ◌+◌, ◌-◌, ◌*◌, ◌/◌, ◌%◌, ◌<◌}
use native.Mathlib.Nat.{add-sub_cancel_left}
use native.Mathlib.Omega.{arith}
use borrow.Rule.Slice.PartMut.{mid_of, mid_len}
use Rattle.numbers.specs.Tables.{tabulate}
use Rattle.numbers.proofs.Tables.{tabulate_length, tabulate_at, tabulate_unique}
use Rattle.numbers.proofs.Parts.{mid_at}
use Rattle.theory_orders.specs.Formulas.{path_count}
use Rattle.figures_counts.specs.Rows.{has_part, rows_of}

-- the row of a part
pub row_is : (works : ℕ → Bool) (part : ℕ) → part < 17
    → mid_of (17 * part) (17 * part + 17 - 17 * part) (rows_of works) ≡ tabulate 17 (path_count 16 (λ a. works a && has_part part a))
unfolding rows_of
row_is works part h =
    tabulate_unique 17 (path_count 16 (λ a. works a && has_part part a)) (mid_of (17 * part) (17 * part + 17 - 17 * part) (rows_of works)) 0
    (mid_len (17 * part) (17 * part + 17) (rows_of works) (rw (tabulate_length 289 count) (omega arith)) ∙ add-sub_cancel_left (17 * part) 17)
    (λ s l.
    let row : (17 * part + s) / 17 ≡ part = omega arith in
    let column : (17 * part + s) % 17 ≡ s = omega arith in
    mid_at (17 * part) (17 * part + 17 - 17 * part) (rows_of works) s (rw (add-sub_cancel_left (17 * part) 17) l)
    ∙ tabulate_at 289 count (17 * part + s) 0 (omega arith)
    ∙ ap₂ (λ (p x : ℕ). path_count 16 (λ a. works a && has_part p a) x) row column)
  where
    count : ℕ → ℕ
    count i = path_count 16 (λ a. works a && has_part (i / 17) a) (i % 17)
