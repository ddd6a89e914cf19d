-- A sum of integers, carried as what is added and what is taken, and a sum over a grid as one sum over its cells. Assumes nothing.
use mathlib.Core.Path.{◌≡◌, refl, sym, ap, ap₂, ◌∙◌}
use Prim.Native.Nat.{ℕ, zero, suc, ◌+◌, ◌*◌, ◌/◌, ◌%◌, ◌<◌}
use native.Mathlib.Nat.{mod-lt, div-lt_iff_lt-mul, zero-mul}
use native.Mathlib.Numerals.{add-one}
use native.Mathlib.Omega.{arith}
use lib.IntN.{ℤ, pos, ◌+ℤ◌, ◌-ℤ◌, pos-+ℤ-pos}
use Rattle.theory_sums.specs.Sums.{sum_below, sum_belowℤ}
use Rattle.theory_sums.proofs.Sums.{sum_below_same, sum_below_append}
use Rattle.theory_sums.proofs.Integers.{ring}
use Rattle.theory_sums.proofs.IntegerSums.{sum_belowℤ_same, sum_belowℤ_append}
use Rattle.shares_claim.proofs.Cells.{cell_row, cell_place}

-- ---- what is carried

pub carried_none : (f : ℕ → ℤ) → pos 0 -ℤ pos 0 ≡ sum_belowℤ f 0
unfolding sum_belowℤ
carried_none f = refl

pub carried_more : (f : ℕ → ℤ) (t added taken p q : ℕ) → pos added -ℤ pos taken ≡ sum_belowℤ f t → f t ≡ pos p -ℤ pos q
    → pos (added + p) -ℤ pos (taken + q) ≡ sum_belowℤ f (t + 1)
unfolding sum_belowℤ
carried_more f t added taken p q before term =
    ap₂ (λ (u v : ℤ). u -ℤ v) (sym (pos-+ℤ-pos added p)) (sym (pos-+ℤ-pos taken q))
    ∙ moved (pos added) (pos p) (pos taken) (pos q)
    ∙ ap₂ (λ (u v : ℤ). u +ℤ v) before (sym term) ∙ ap (sum_belowℤ f) (sym (add-one t))
  where
    moved : (a p t q : ℤ) → a +ℤ p -ℤ (t +ℤ q) ≡ a -ℤ t +ℤ (p -ℤ q)
    moved a p t q = simp ring

-- ---- grids

-- the row and the place of a cell
pub row_below : (t rows length : ℕ) → 0 < length → t < rows * length → t / length < rows
row_below t rows length some h = (div-lt_iff_lt-mul some).1 h

pub place_below : (t length : ℕ) → 0 < length → t % length < length
place_below t length some = mod-lt t some

-- row by row
pub grid_sum : (f : ℕ → ℕ → ℤ) (rows length : ℕ) → 0 < length
    → sum_belowℤ (λ i. sum_belowℤ (f i) length) rows ≡ sum_belowℤ (λ t. f (t / length) (t % length)) (rows * length)
unfolding sum_belowℤ
grid_sum f zero length some = ap (sum_belowℤ (λ t. f (t / length) (t % length))) (sym (zero-mul length))
grid_sum f (suc rows) length some =
    let more : suc rows * length ≡ rows * length + length = omega arith in
    ap₂ (λ (u v : ℤ). u +ℤ v) (grid_sum f rows length some)
    (sum_belowℤ_same _ _ length (λ j l. sym (ap₂ f (cell_row rows j length l) (cell_place rows j length l))))
    ∙ sym (sum_belowℤ_append (λ t. f (t / length) (t % length)) (rows * length) length)
    ∙ ap (sum_belowℤ (λ t. f (t / length) (t % length))) (sym more)

pub grid_sumℕ : (f : ℕ → ℕ → ℕ) (rows length : ℕ) → 0 < length
    → sum_below (λ i. sum_below (f i) length) rows ≡ sum_below (λ t. f (t / length) (t % length)) (rows * length)
unfolding sum_below
grid_sumℕ f zero length some = ap (sum_below (λ t. f (t / length) (t % length))) (sym (zero-mul length))
grid_sumℕ f (suc rows) length some =
    let more : suc rows * length ≡ rows * length + length = omega arith in
    ap₂ (λ (u v : ℕ). u + v) (grid_sumℕ f rows length some)
    (sum_below_same _ _ length (λ j l. sym (ap₂ f (cell_row rows j length l) (cell_place rows j length l))))
    ∙ sym (sum_below_append (λ t. f (t / length) (t % length)) (rows * length) length)
    ∙ ap (sum_below (λ t. f (t / length) (t % length))) (sym more)
