-- The square of two machines: its rows, its columns and its total, the machines exchanged, a machine beside itself, and a machine that runs
-- wherever the other does. No formula is used. Assumes nothing.
use mathlib.Core.Path.{◌≡◌, refl, sym, ap, ap₂, ◌∙◌}
use mathlib.Core.Bool.{Bool, true, false, not, ◌&&◌}
use mathlib.Core.List.{List, Memᴰ}
use mathlib.Core.Logic.{◌⊎◌, inl, inr}
use Prim.Native.Nat.{ℕ, suc, ◌+◌, ◌-◌, ◌*◌, ◌/◌, ◌%◌, ◌^◌, ◌≤◌, ◌<◌, zero-le}
use native.Mathlib.Nat.{eq-or-lt_of_le, lt_of_le_of_lt, mul-le-mul_right, add_comm, zero-add, add-mul-div_right, mul-add-mod_self_right, div-eq_of_lt, mod-eq_of_lt}
use native.Mathlib.Numerals.{sub-one}
use native.Mathlib.Omega.{arith}
use lib.ListN.{drop, get_or}
use borrow.Author.Tests.{not-true}
use Rattle.numbers.specs.Counts.{factorial}
use Rattle.numbers.specs.Tables.{tabulate}
use Rattle.numbers.proofs.Tables.{tabulate_at}
use Rattle.numbers.proofs.Bools.{and_left, and_right, and_swap, false_of, clash}
use Rattle.numbers.proofs.Bounds.{below_or_above}
use Rattle.theory_sums.specs.Sums.{indicator, sum_below}
use Rattle.theory_sums.proofs.Sums.{sum_below_lem, sum_same, sum_zero, sum_below_same, sum_below_mul}
use Rattle.theory_sets.specs.Structures.{Semicoherent}
use Rattle.theory_orders.specs.Orders.{orders, mask}
use Rattle.theory_orders.specs.Counting.{count}
use Rattle.theory_orders.proofs.Totals.{counts_total}
use Rattle.theory_joint.specs.Joint.{stopped_by, joint_count, joint_square, cell_of}
use Rattle.theory_joint.proofs.Failures.{works_after, stopped_by_lem, works_since, order_in, order_length, left_below, stopped_once}

module _ (n : ℕ) (first second : ℕ → Bool) where
  -- the machines exchanged: the square is turned over its diagonal
  pub joint_transposed : (k l : ℕ) → joint_count n first second k l ≡ joint_count n second first l k
  unfolding joint_count
  joint_transposed k l = sum_same _ _ (orders n) (λ order m. ap indicator (and_swap (stopped_by n first k order) (stopped_by n second l order)))

  -- row k sums to the first signature's k-th count
  pub joint_row : Semicoherent n second → (k : ℕ) → sum_below (λ l. joint_count n first second k (suc l)) n ≡ count n first (2 ^ n - 1) k
  unfolding joint_count count stopped_by
  joint_row coherent k =
      sum_below_lem (λ l order. indicator (stopped_by n first k order && stopped_by n second (suc l) order)) n (orders n)
      ∙ sum_same _ _ (orders n) (λ order m.
      sum_below_same _ (λ l. indicator (stopped_by n first k order) * indicator (stopped_by n second (suc l) order)) n
      (λ l h. both (stopped_by n first k order) (stopped_by n second (suc l) order))
      ∙ sum_below_mul (indicator (stopped_by n first k order)) (λ l. indicator (stopped_by n second (suc l) order)) n
      ∙ ap (λ (u : ℕ). indicator (stopped_by n first k order) * u) (stopped_once n second coherent order m) ∙ omega arith)
    where
      both : (p q : Bool) → indicator (p && q) ≡ indicator p * indicator q
      both true true = refl
      both true false = refl
      both false q = omega arith

  -- the square totals n!
  pub joint_total : Semicoherent n first → Semicoherent n second
      → sum_below (λ k. sum_below (λ l. joint_count n first second (suc k) (suc l)) n) n ≡ factorial n
  joint_total f s =
      sum_below_same _ (λ k. count n first (2 ^ n - 1) (k + 1)) n (λ k h. joint_row s (suc k) ∙ ap (count n first (2 ^ n - 1)) (omega arith))
      ∙ counts_total n first f

  -- where the first runs wherever the second does, it does not stop before it
  pub joint_never_before : Semicoherent n first → ((a : ℕ) → a < 2 ^ n → second a ≡ true → first a ≡ true) → (k l : ℕ) → k < l → l < n
      → joint_count n first second (suc k) (suc l) ≡ 0
  unfolding joint_count works_after
  joint_never_before coherent runs k l h most =
      sum_same _ (λ order. 0) (orders n) (λ order m. ap indicator (false_of _ (never order m))) ∙ sum_zero (orders n)
    where
      never : (order : List ℕ) → Memᴰ order (orders n) → stopped_by n first (suc k) order && stopped_by n second (suc l) order ≡ true → ⊥
      never order m both =
          let within = order_in n order m in
          let all = order_length n order m in
          let stopped : not (works_after first (suc k) order) && works_after first k order ≡ true
          = sym (stopped_by_lem n first k order within (omega (arith, all))) ∙ and_left (stopped_by n first (suc k) order) (stopped_by n second (suc l) order) both in
          let later : not (works_after second (suc l) order) && works_after second l order ≡ true
          = sym (stopped_by_lem n second l order within (omega (arith, all))) ∙ and_right (stopped_by n first (suc k) order) (stopped_by n second (suc l) order) both in
          let between : suc k + (l - suc k) ≡ l = omega arith in
          let left : works_after first (suc k + (l - suc k)) order ≡ true =
          ap (λ (j : ℕ). works_after first j order) between
          ∙ runs (mask (drop l order)) (left_below n l order within) (and_right (not (works_after second (suc l) order)) (works_after second l order) later) in
          clash (works_since n first coherent (suc k) (l - suc k) order within left)
          (not-true (works_after first (suc k) order) (and_left (not (works_after first (suc k) order)) (works_after first k order) stopped))

-- columns sum to the second signature
pub joint_column : (n : ℕ) (first second : ℕ → Bool) → Semicoherent n first → (l : ℕ)
    → sum_below (λ k. joint_count n first second (suc k) l) n ≡ count n second (2 ^ n - 1) l
joint_column n first second coherent l =
    sum_below_same _ _ n (λ k h. joint_transposed n first second (suc k) l) ∙ joint_row n second first coherent l

-- a machine beside itself: its signature on the diagonal, and 0 elsewhere
pub joint_diagonal : (n : ℕ) (works : ℕ → Bool) (k : ℕ) → joint_count n works works k k ≡ count n works (2 ^ n - 1) k
unfolding joint_count count stopped_by
joint_diagonal n works k = sum_same _ _ (orders n) (λ order m. ap indicator (twice (stopped_by n works k order)))
  where
    twice : (p : Bool) → p && p ≡ p
    twice true = refl
    twice false = refl

pub joint_beside : (n : ℕ) (works : ℕ → Bool) → Semicoherent n works → (k l : ℕ) → k < n → l < n → (k ≡ l → ⊥) → joint_count n works works (suc k) (suc l) ≡ 0
joint_beside n works coherent k l hk hl differ = cases (below_or_above k l)
  where
    le_not_eq : l ≤ k → l < k
    le_not_eq h = apart (eq-or-lt_of_le h)
      where
        apart : (l ≡ k) ⊎ (l < k) → l < k
        apart (inl e) = absurd (differ (sym e))
        apart (inr less) = less

    cases : (k < l) ⊎ (l ≤ k) → joint_count n works works (suc k) (suc l) ≡ 0
    cases (inl before) = joint_never_before n works works coherent (λ a h w. w) k l before hl
    cases (inr after) = joint_transposed n works works (suc k) (suc l) ∙ joint_never_before n works works coherent (λ a h w. w) l k (le_not_eq after) hk

-- ---- the cells of the square

-- the cell of k and l, which are 1 to n, has their count
pub cell_count : (n : ℕ) (first second : ℕ → Bool) (k l : ℕ) → k < n → l < n → cell_of n (joint_square n first second) (suc k) (suc l) ≡ joint_count n first second (suc k) (suc l)
unfolding joint_square
cell_count n first second k l hk hl =
    ap₂ (λ (x y : ℕ). get_or (tabulate (n * n) count) (x * n + y) 0) (sub-one (suc k)) (sub-one (suc l))
    ∙ tabulate_at (n * n) count (k * n + l) 0 (omega (arith, mul-le-mul_right n hk))
    ∙ ap₂ (λ (x y : ℕ). joint_count n first second (suc x) (suc y)) row column
  where
    count : ℕ → ℕ
    count cell = joint_count n first second (suc (cell / n)) (suc (cell % n))

    row : (k * n + l) / n ≡ k
    row = ap (λ (x : ℕ). x / n) (add_comm (k * n) l) ∙ add-mul-div_right l k (lt_of_le_of_lt zero-le hl) ∙ ap (λ (x : ℕ). x + k) (div-eq_of_lt hl) ∙ zero-add k

    column : (k * n + l) % n ≡ l
    column = mul-add-mod_self_right k n l ∙ mod-eq_of_lt hl
