-- The promises of 02, §5, of two accepted tables and the cells of their square; k and l are 1 to n. Assumes nothing.
use mathlib.Core.Path.{◌≡◌, sym, ap, ◌∙◌}
use mathlib.Core.Bool.{true}
use mathlib.Core.List.{List}
use Prim.Native.Nat.{ℕ, suc, ◌<◌, ◌^◌}
use native.Mathlib.Nat.{zero-lt-suc}
use native.Mathlib.Omega.{arith}
use lib.IntN.{pos}
use Rattle.std.specs.Prelude.{Ok}
use Rattle.numbers.specs.Counts.{factorial}
use Rattle.theory_sums.specs.Sums.{sum_below}
use Rattle.theory_sums.proofs.Sums.{sum_below_same}
use Rattle.theory_sets.specs.Tables.{in_table}
use Rattle.theory_orders.specs.Formulas.{path_count}
use Rattle.theory_figures.specs.Figures.{signature}
use Rattle.theory_figures.proofs.Tails.{signature_is_count}
use Rattle.theory_joint.specs.Joint.{joint_count, joint_square, cell_of}
use Rattle.theory_joint.specs.Formula.{joint_signature}
use Rattle.theory_joint.proofs.Square.{joint_transposed, joint_row, joint_column, joint_total, joint_never_before, joint_diagonal, joint_beside, cell_count}
use Rattle.theory_joint.proofs.Formula.{joint_is_formula}
use Rattle.joint.specs.Refusals.{joint_refusal}
use Rattle.joint.proofs.Tails.{tables_accepted}

module _ (n : ℕ) (first second : List ℕ) where
  -- a cell is the number of failure orders in which the k-th failure stops the first machine and the l-th the second
  pub cell_counts : (k l : ℕ) → k < n → l < n
      → cell_of n (joint_square n (in_table first) (in_table second)) (suc k) (suc l) ≡ joint_count n (in_table first) (in_table second) (suc k) (suc l)
  cell_counts k l hk hl = cell_count n (in_table first) (in_table second) k l hk hl

  -- the machines exchanged
  pub square_transposed : (k l : ℕ) → k < n → l < n
      → cell_of n (joint_square n (in_table first) (in_table second)) (suc k) (suc l) ≡ cell_of n (joint_square n (in_table second) (in_table first)) (suc l) (suc k)
  square_transposed k l hk hl =
      cell_counts k l hk hl ∙ joint_transposed n (in_table first) (in_table second) (suc k) (suc l) ∙ sym (cell_count n (in_table second) (in_table first) l k hl hk)

module _ (n : ℕ) (first second : List ℕ) (accepted : joint_refusal n first second ≡ Ok tt) where
  -- and 004's joint signature times n!
  pub cell_formula : (k l : ℕ) → k < n → l < n → pos (cell_of n (joint_square n (in_table first) (in_table second)) (suc k) (suc l)) ≡ joint_signature n (in_table first) (in_table second) (suc k) (suc l)
  cell_formula k l hk hl =
      let tables = tables_accepted n first second accepted in
      ap pos (cell_counts n first second k l hk hl) ∙ sym (joint_is_formula n (in_table first) (in_table second) tables.0.semicoherent tables.1.semicoherent k l hk hl)

  -- "its rows sum to the first signature"
  pub rows_sum : (k : ℕ) → k < n → pos (sum_below (λ l. cell_of n (joint_square n (in_table first) (in_table second)) (suc k) (suc l)) n) ≡ signature n (path_count n (in_table first)) (suc k)
  rows_sum k hk =
      let tables = tables_accepted n first second accepted in
      ap pos (sum_below_same _ _ n (λ l hl. cell_counts n first second k l hk hl) ∙ joint_row n (in_table first) (in_table second) tables.1.semicoherent (suc k))
      ∙ sym (signature_is_count n (in_table first) tables.0.semicoherent (suc k) (zero-lt-suc k) hk)

  -- "and its columns to the second"
  pub columns_sum : (l : ℕ) → l < n → pos (sum_below (λ k. cell_of n (joint_square n (in_table first) (in_table second)) (suc k) (suc l)) n) ≡ signature n (path_count n (in_table second)) (suc l)
  columns_sum l hl =
      let tables = tables_accepted n first second accepted in
      ap pos (sum_below_same _ _ n (λ k hk. cell_counts n first second k l hk hl) ∙ joint_column n (in_table first) (in_table second) tables.0.semicoherent (suc l))
      ∙ sym (signature_is_count n (in_table second) tables.1.semicoherent (suc l) (zero-lt-suc l) hl)

  -- "The square totals n!"
  pub square_total : sum_below (λ k. sum_below (λ l. cell_of n (joint_square n (in_table first) (in_table second)) (suc k) (suc l)) n) n ≡ factorial n
  square_total =
      let tables = tables_accepted n first second accepted in
      sum_below_same _ _ n (λ k hk. sum_below_same _ _ n (λ l hl. cell_counts n first second k l hk hl))
      ∙ joint_total n (in_table first) (in_table second) tables.0.semicoherent tables.1.semicoherent

  -- if the first runs wherever the second does, nothing stands where the first stops before the second
  pub first_never_before : ((a : ℕ) → a < 2 ^ n → in_table second a ≡ true → in_table first a ≡ true) → (k l : ℕ) → k < l → l < n → cell_of n (joint_square n (in_table first) (in_table second)) (suc k) (suc l) ≡ 0
  first_never_before runs k l h hl =
      cell_counts n first second k l (omega arith) hl
      ∙ joint_never_before n (in_table first) (in_table second) (tables_accepted n first second accepted).0.semicoherent runs k l h hl

-- a machine beside itself: its signature on the diagonal, and 0 elsewhere
module _ (n : ℕ) (table : List ℕ) (accepted : joint_refusal n table table ≡ Ok tt) where
  pub diagonal : (k : ℕ) → k < n → pos (cell_of n (joint_square n (in_table table) (in_table table)) (suc k) (suc k)) ≡ signature n (path_count n (in_table table)) (suc k)
  diagonal k hk =
      ap pos (cell_counts n table table k k hk hk ∙ joint_diagonal n (in_table table) (suc k))
      ∙ sym (signature_is_count n (in_table table) (tables_accepted n table table accepted).0.semicoherent (suc k) (zero-lt-suc k) hk)

  pub off_diagonal : (k l : ℕ) → k < n → l < n → (k ≡ l → ⊥) → cell_of n (joint_square n (in_table table) (in_table table)) (suc k) (suc l) ≡ 0
  off_diagonal k l hk hl differ =
      cell_counts n table table k l hk hl ∙ joint_beside n (in_table table) (tables_accepted n table table accepted).0.semicoherent k l hk hl differ
