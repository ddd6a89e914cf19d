-- 02, §3, of tables and lists: the table of a cut list, the minimal cut sets of a table, the dual of a table and its figures, there and back.
-- Assumes nothing.
use mathlib.Core.Path.{◌≡◌, sym, ap, ◌∙◌, fun_ext}
use mathlib.Core.Bool.{true, not}
use mathlib.Core.List.{List, Memᴰ}
use Prim.Native.Nat.{ℕ, ◌+◌, ◌-◌, ◌^◌, ◌≤◌, ◌<◌}
use lib.ListN.{get_or}
use lib.Pow.{ones_lt}
use Rattle.std.specs.Prelude.{Ok}
use Rattle.numbers.specs.Counts.{choose}
use Rattle.theory_sets.specs.Masks.{size, holds, Rising}
use Rattle.theory_sets.specs.Structures.{Covers, Semicoherent, listed, minimal_sets}
use Rattle.theory_sets.specs.Tables.{in_table, table_of}
use Rattle.theory_sets.proofs.Lists.{listed_same, minimal_listed, listed_minimal}
use Rattle.theory_sets.proofs.Structures.{minimal_sets_same}
use Rattle.theory_sets.proofs.Tables.{table_of_works, table_of_same}
use Rattle.theory_orders.specs.Counting.{count}
use Rattle.theory_orders.specs.Formulas.{path_count}
use Rattle.theory_figures.specs.Figures.{signature, importance}
use Rattle.theory_orders.proofs.Agreeing.{path_count_same, count_same}
use Rattle.theory_figures.proofs.Importances.{importance_same}
use Rattle.theory_cuts.specs.Cuts.{remaining, cut, minimal_cuts, by_cuts, dual, dual_table, from_last}
use Rattle.theory_cuts.proofs.Cuts.{remaining_below, dual_is_cut, cut_twice, cut_by_cuts, cut_same, cut_semicoherent, dual_semicoherent}
use Rattle.theory_cuts.proofs.Counts.{dual_path_count, dual_path_count_sum, dual_signature}
use Rattle.theory_cuts.proofs.Orders.{dual_count, dual_orders, dual_importance}
use Rattle.structure.specs.Checks.{list_refusal, table_refusal}
use Rattle.structure.proofs.Acceptance.{accepted_table, accepted_list, table_of_accepted, listed_coherent, minimal_accepted, table_back}

-- ---- a list of cut sets

-- a set is a cut set of the list's table exactly if it holds a listed one
pub cut_list_exactly : (n : ℕ) (cuts : List ℕ) (a : ℕ) → a < 2 ^ n → cut n (in_table (table_of n (by_cuts n cuts))) a ≡ listed cuts a
cut_list_exactly n cuts a h = cut_same n (in_table (table_of n (by_cuts n cuts))) (by_cuts n cuts) (table_of_works n (by_cuts n cuts)) a ∙ cut_by_cuts n cuts a h

-- an accepted list's table is accepted
pub cut_list_table : (n : ℕ) (cuts : List ℕ) → list_refusal n cuts ≡ Ok tt → table_refusal n (table_of n (by_cuts n cuts)) ≡ Ok tt
unfolding by_cuts cut
cut_list_table n cuts h =
    let l = accepted_list n cuts h in
    table_of_accepted n (cut n (listed cuts)) l.some l.few (cut_semicoherent n (listed cuts) (listed_coherent n cuts l))

-- repeats, nesting and order in a list do not matter
pub cut_list_same : (n : ℕ) (xs ys : List ℕ) → Covers xs ys → Covers ys xs → table_of n (by_cuts n xs) ≡ table_of n (by_cuts n ys)
unfolding by_cuts
cut_list_same n xs ys there back = ap (table_of n) (fun_ext (λ a. ap not (listed_same xs ys there back (remaining n a))))

-- it is the dual of the table that the same list gives as path sets
pub cut_list_dual : (n : ℕ) (cuts : List ℕ) → table_of n (by_cuts n cuts) ≡ dual_table n (table_of n (listed cuts))
unfolding by_cuts cut
cut_list_dual n cuts =
    table_of_same n (cut n (listed cuts)) (dual n (in_table (table_of n (listed cuts)))) (λ a h.
    sym (dual_is_cut n (in_table (table_of n (listed cuts))) a h ∙ cut_same n (in_table (table_of n (listed cuts))) (listed cuts) (table_of_works n (listed cuts)) a))

-- a rising list of sets none of which holds another is the minimal cut sets of its table
pub cut_list_minimal : (n : ℕ) (cuts : List ℕ) → list_refusal n cuts ≡ Ok tt → Rising cuts
    → ((a b : ℕ) → Memᴰ a cuts → Memᴰ b cuts → holds a b ≡ true → a ≡ b) → minimal_cuts n (in_table (table_of n (by_cuts n cuts))) ≡ cuts
cut_list_minimal n cuts h rising apart =
    minimal_sets_same n (cut n (in_table (table_of n (by_cuts n cuts)))) (listed cuts) (cut_list_exactly n cuts)
    ∙ listed_minimal n cuts rising (λ b m. ((accepted_list n cuts h).sets b m).0) apart

-- ---- the dual of a table, whether or not that is accepted

module _ (n : ℕ) (table : List ℕ) where
  -- its path sets are the cut sets
  pub dual_paths : (a : ℕ) → a < 2 ^ n → in_table (dual_table n table) a ≡ cut n (in_table table) a
  dual_paths a h = table_of_works n (dual n (in_table table)) a h ∙ dual_is_cut n (in_table table) a h

  -- and its minimal path sets the minimal cut sets
  pub dual_minimal : minimal_sets n (in_table (dual_table n table)) ≡ minimal_cuts n (in_table table)
  dual_minimal = minimal_sets_same n (in_table (dual_table n table)) (cut n (in_table table)) dual_paths

  same : (a : ℕ) → a < 2 ^ n → dual n (in_table table) a ≡ in_table (dual_table n table) a
  same a h = sym (table_of_works n (dual n (in_table table)) a h)

  -- φ*(j) = C(n,j) - φ(n-j), where nothing is cut off: φ*(j) + φ(n-j) = C(n,j)
  pub dual_path_counts : (j : ℕ) → j ≤ n → path_count n (in_table (dual_table n table)) j ≡ choose n j - path_count n (in_table table) (n - j)
  dual_path_counts j most =
      sym (path_count_same n (dual n (in_table table)) (in_table (dual_table n table)) same j) ∙ dual_path_count n (in_table table) j most

  pub dual_path_sums : (j : ℕ) → j ≤ n → path_count n (in_table (dual_table n table)) j + path_count n (in_table table) (n - j) ≡ choose n j
  dual_path_sums j most =
      ap (λ (u : ℕ). u + path_count n (in_table table) (n - j)) (sym (path_count_same n (dual n (in_table table)) (in_table (dual_table n table)) same j))
      ∙ dual_path_count_sum n (in_table table) j most

  -- the signature reversed, of the figure
  pub dual_signature_reversed : (k : ℕ) → 1 ≤ k → k ≤ n
      → signature n (path_count n (in_table (dual_table n table))) k ≡ signature n (path_count n (in_table table)) (from_last n k)
  dual_signature_reversed k some most =
      ap (λ (φ : ℕ → ℕ). signature n φ k) (sym (fun_ext (path_count_same n (dual n (in_table table)) (in_table (dual_table n table)) same)))
      ∙ dual_signature n (in_table table) k some most

-- ---- an accepted table

module _ (n : ℕ) (table : List ℕ) (accepted : table_refusal n table ≡ Ok tt) where
  coherent : Semicoherent n (in_table table)
  coherent = (accepted_table n table accepted).semicoherent

  dual_coherent : Semicoherent n (dual n (in_table table))
  dual_coherent = dual_semicoherent n (in_table table) coherent

  -- the dual is accepted
  pub dual_accepted : table_refusal n (dual_table n table) ≡ Ok tt
  dual_accepted =
      let t = accepted_table n table accepted in
      table_of_accepted n (dual n (in_table table)) t.some t.few dual_coherent

  -- the dual's dual is the table, byte for byte
  pub dual_twice : ((b : ℕ) → get_or table b 0 < 256) → dual_table n (dual_table n table) ≡ table
  dual_twice bytes =
      table_back n table (dual n (in_table (dual_table n table))) bytes accepted (λ a h.
      dual_is_cut n (in_table (dual_table n table)) a h ∙ cut_same n (in_table (dual_table n table)) (cut n (in_table table)) (dual_paths n table) a
      ∙ cut_twice n (in_table table) a h)

  -- the minimal cut sets are an accepted list
  pub minimal_cuts_accepted : list_refusal n (minimal_cuts n (in_table table)) ≡ Ok tt
  minimal_cuts_accepted = ap (list_refusal n) (sym (dual_minimal n table)) ∙ minimal_accepted n (dual_table n table) dual_accepted

  -- and give the same table back
  pub minimal_cuts_table : ((b : ℕ) → get_or table b 0 < 256) → table_of n (by_cuts n (minimal_cuts n (in_table table))) ≡ table
  unfolding by_cuts cut
  minimal_cuts_table bytes =
      table_back n table (by_cuts n (minimal_cuts n (in_table table))) bytes accepted (λ a h.
      ap not (minimal_listed n (cut n (in_table table)) (cut_semicoherent n (in_table table) coherent) (remaining n a) (remaining_below n a))
      ∙ cut_twice n (in_table table) a h)

  -- the signature reversed, of the count of failure orders
  pub dual_orders_reversed : (k : ℕ) → 1 ≤ k → k ≤ n
      → count n (in_table (dual_table n table)) (2 ^ n - 1) k ≡ count n (in_table table) (2 ^ n - 1) (from_last n k)
  dual_orders_reversed k some most =
      sym (count_same n (dual n (in_table table)) (in_table (dual_table n table)) (same n table) dual_coherent (2 ^ n - 1) (ones_lt n) k)
      ∙ dual_orders n (in_table table) coherent k some most

  -- so are the counts of every group
  pub dual_groups_reversed : (group : ℕ) → group < 2 ^ n → (k : ℕ) → 1 ≤ k → k ≤ size group
      → count n (in_table (dual_table n table)) group k ≡ count n (in_table table) group (from_last (size group) k)
  dual_groups_reversed group within k some most =
      sym (count_same n (dual n (in_table table)) (in_table (dual_table n table)) (same n table) dual_coherent group within k)
      ∙ dual_count n (in_table table) group within k some most coherent

  -- and each part has the same importance
  pub dual_importances : (i : ℕ) → 1 ≤ i → i ≤ n → importance n (in_table (dual_table n table)) i ≡ importance n (in_table table) i
  dual_importances i some most =
      sym (importance_same n (dual n (in_table table)) (in_table (dual_table n table)) (same n table) i some most)
      ∙ dual_importance n (in_table table) coherent i some most
