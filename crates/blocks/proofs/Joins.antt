-- A block joins others: the sums by which the counts are worked out, and how large they become. Assumes nothing.
use mathlib.Core.Path.{◌≡◌, refl, sym, ap, ap₂, ◌∙◌}
use mathlib.Core.List.{List, ◌++◌}
use mathlib.Core.Logic.{◌⊎◌, inl, inr}
use Prim.Native.Nat.{ℕ, suc, ◌+◌, ◌-◌, ◌*◌, ◌≤◌, ◌<◌, min}
use native.Mathlib.Nat.{le_trans, mul-le-mul, min-eq_left, min-eq_right, zero-mul}
use native.Mathlib.Numerals.{add-one}
use native.Mathlib.Omega.{arith}
use lib.ListN.{get_or, take, drop, length-take, replicate, get_or-replicate}
use Rattle.numbers.specs.Counts.{choose}
use Rattle.numbers.specs.Tables.{tabulate, NoneOver}
use Rattle.numbers.proofs.Tables.{filled, filled_none, filled_again, filled_end, filled_rest}
use Rattle.numbers.proofs.Bounds.{below_or_above}
use Rattle.numbers.proofs.Counts.{none_beyond}
use Rattle.theory_sums.specs.Sums.{sum_below}
use Rattle.theory_sums.proofs.Sums.{sum_below_add}
use Rattle.theory_figures.proofs.Ranges.{choose_few}
use Rattle.theory_blocks.specs.Blocks.{product}
use Rattle.theory_blocks.proofs.Products.{sum_below_beyond}
use Rattle.blocks.specs.Inside.{cells_of, joined_count, Joining}

-- ---- a product

-- it is cut where its first factor ends
product_short : (f g : ℕ → ℕ) (size k : ℕ) → ((i : ℕ) → size < i → f i ≡ 0) → sum_below (λ i. f i * g (k - i)) (min size k + 1) ≡ product f g k
unfolding product
product_short f g size k ends = ap (sum_below term) (add-one (min size k)) ∙ cases (below_or_above size k)
  where
    term : ℕ → ℕ
    term i = f i * g (k - i)

    cases : (size < k) ⊎ (k ≤ size) → sum_below term (suc (min size k)) ≡ sum_below term (suc k)
    cases (inl l) =
        let low : size ≤ k = omega arith in
        let rest : suc size + (k - size) ≡ suc k = omega arith in
        ap (λ (m : ℕ). sum_below term (suc m)) (min-eq_left low)
        ∙ sym (sum_below_beyond term (suc size) (k - size) (λ i h. ap (λ (u : ℕ). u * g (k - i)) (ends i h) ∙ zero-mul (g (k - i))))
        ∙ ap (sum_below term) rest
    cases (inr l) = ap (λ (m : ℕ). sum_below term (suc m)) (min-eq_right l)

-- a row that has no more than there are sets of each size
module _ (size : ℕ) (row : List ℕ) (most : (i : ℕ) → cells_of row i ≤ choose size i) where
  row_ends : (i : ℕ) → size < i → cells_of row i ≡ 0
  row_ends i beyond = none_beyond size i (most i) beyond

  row_times : size ≤ 16 → (cells : List ℕ) → NoneOver 12870 cells → (i j : ℕ) → cells_of row i * cells_of cells j ≤ 12870 * 12870
  row_times parts cells few i j = mul-le-mul (le_trans (most i) (choose_few size i parts)) (few j)

-- ---- both products

-- what is added for i of the k parts
unfoldable pub joined_term : List ℕ → List ℕ → List ℕ → List ℕ → ℕ → ℕ → ℕ
joined_term running stopped with without k i = cells_of running i * cells_of with (k - i) + cells_of stopped i * cells_of without (k - i)

module _ {size : ℕ} {running stopped with without : List ℕ} (joining : Joining size running stopped with without) where
  running_times : (i j : ℕ) → cells_of running i * cells_of with j ≤ 12870 * 12870
  running_times = row_times size running joining.most_running joining.parts with joining.few_with

  stopped_times : (i j : ℕ) → cells_of stopped i * cells_of without j ≤ 12870 * 12870
  stopped_times = row_times size stopped joining.most_stopped joining.parts without joining.few_without

  pub joined_sum : (k : ℕ) → joined_count running stopped with without k ≡ sum_below (joined_term running stopped with without k) (min size k + 1)
  unfolding joined_term joined_count
  joined_sum k =
      sym (sum_below_add (λ i. cells_of running i * cells_of with (k - i)) (λ i. cells_of stopped i * cells_of without (k - i)) (min size k + 1)
      ∙ ap₂ (λ (u v : ℕ). u + v) (product_short (cells_of running) (cells_of with) size k (row_ends size running joining.most_running))
      (product_short (cells_of stopped) (cells_of without) size k (row_ends size stopped joining.most_stopped)))

  -- neither product of a term is large
  pub term_few : (k i : ℕ) → (get_or running i 0 * get_or with (k - i) 0 ≤ 12870 * 12870) × (get_or stopped i 0 * get_or without (k - i) 0 ≤ 12870 * 12870)
  term_few k i = (running_times i (k - i), stopped_times i (k - i))

-- the sum so far with one term more
pub terms_none : (running stopped with without : List ℕ) (k : ℕ) → sum_below (joined_term running stopped with without k) 0 ≡ 0
unfolding sum_below
terms_none running stopped with without k = refl

pub terms_more : (running stopped with without : List ℕ) (k i : ℕ) → sum_below (joined_term running stopped with without k) (i + 1)
    ≡ sum_below (joined_term running stopped with without k) i
    + (get_or running i 0 * get_or with (k - i) 0 + get_or stopped i 0 * get_or without (k - i) 0)
unfolding sum_below joined_term
terms_more running stopped with without k i = ap (sum_below (joined_term running stopped with without k)) (add-one i)

-- the counts up to all parts, as a loop leaves them, and zeros behind them
pub counts_done : (running stopped with without : List ℕ) (parts n : ℕ) (items : List ℕ)
    → items ≡ filled (joined_count running stopped with without) (take (parts + 1) (replicate 17 0)) n → n ≤ parts + 1 → parts + 1 ≤ n → parts ≤ 16
    → ((k : ℕ) → parts < k → joined_count running stopped with without k ≡ 0)
    → items ++ drop (parts + 1) (replicate 17 0) ≡ tabulate 17 (joined_count running stopped with without)
counts_done running stopped with without parts n items is up down few none =
    ap (λ (xs : List ℕ). xs ++ drop (parts + 1) (replicate 17 0))
    (filled_end (joined_count running stopped with without) (take (parts + 1) (replicate 17 0)) n (parts + 1) items is up down
    (length-take (parts + 1) (replicate 17 0) ∙ min-eq_left (omega arith)))
    ∙ filled_rest (joined_count running stopped with without) (replicate 17 0) (parts + 1) 17 refl (omega arith) (λ k h l.
    none k (omega arith) ∙ sym (get_or-replicate 17 k 0 0 l))

-- ---- what search is told

-- of a count that is stored
pub ruleset filling = (filled_none, filled_again)
