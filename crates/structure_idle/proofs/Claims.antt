-- Idle parts of an accepted table (02, §9), by positions: exactly those with no failure order in which their failure stops the machine, with a
-- Barlow-Proschan count of 0, and in no minimal set; and no part where d(n) is not 0. Assumes nothing.
use mathlib.Core.Path.{◌≡◌, sym, ap, ◌∙◌}
use mathlib.Core.Bool.{true, false}
use mathlib.Core.List.{List, Memᴰ}
use mathlib.Core.Logic.{◌↔◌}
use Prim.Native.Nat.{ℕ, suc, ◌-◌, ◌^◌, ◌≤◌, ◌<◌, min}
use native.Mathlib.Nat.{lt_of_lt_of_le, min-eq_left}
use native.Mathlib.Omega.{arith}
use lib.Dec.{eqb}
use lib.IntN.{pos}
use Rattle.std.specs.Prelude.{Ok}
use Rattle.theory_sets.specs.Masks.{has}
use Rattle.theory_sets.specs.Structures.{minimal_sets}
use Rattle.theory_sets.specs.Tables.{packed, in_table}
use Rattle.theory_sets.specs.Idle.{idle, idle_parts}
use Rattle.theory_sets.proofs.Tables.{packed_same}
use Rattle.theory_sets.proofs.Idle.{idle_same, idle_beyond, idle_exactly, has_idle_parts}
use Rattle.theory_orders.specs.Counting.{count}
use Rattle.theory_orders.specs.Formulas.{path_count}
use Rattle.theory_figures.specs.Figures.{importance, domination}
use Rattle.theory_idle.proofs.Counts.{idle_importance, idle_count}
use Rattle.theory_idle.proofs.Dominations.{full_domination}
use Rattle.structure_words.specs.Words.{in_words, words_of}
use Rattle.structure_words.proofs.Words.{in_words_words_of}
use Rattle.structure.specs.Accepted.{AcceptedTable}
use Rattle.structure.specs.Checks.{table_refusal}
use Rattle.structure.proofs.Acceptance.{accepted_table, table_beyond}

-- what the words say of 16 parts is the mask of the table's own parts
pub words_idle : (n : ℕ) (table : List ℕ) → AcceptedTable n table → packed (min n 16) (idle 16 (in_words (words_of (in_table table)))) ≡ idle_parts n (in_table table)
unfolding idle_parts
words_idle n table accepted =
    ap (λ (k : ℕ). packed k (idle 16 (in_words (words_of (in_table table))))) (min-eq_left accepted.few)
    ∙ packed_same n (idle 16 (in_words (words_of (in_table table)))) (idle n (in_table table)) (λ part l.
    idle_same 16 (in_words (words_of (in_table table))) (in_table table) (in_words_words_of (in_table table)) part (lt_of_lt_of_le l accepted.few)
    ∙ idle_beyond n 16 (in_table table) accepted.few (table_beyond n table accepted.long accepted.clear) part)

module _ (n : ℕ) (table : List ℕ) (accepted : table_refusal n table ≡ Ok tt) (i : ℕ) (some : 1 ≤ i) (most : i ≤ n) where
  inside : i - 1 < n
  inside = omega arith

  back : suc (i - 1) ≡ i
  back = omega arith

  -- the part at position i is idle exactly if its Barlow-Proschan count is 0
  pub idle_without_importance : has (idle_parts n (in_table table)) (i - 1) ≡ eqb (importance n (in_table table) i) 0
  idle_without_importance =
      has_idle_parts n (in_table table) (i - 1) inside
      ∙ idle_importance n (in_table table) (i - 1) (accepted_table n table accepted).semicoherent inside
      ∙ ap (λ (j : ℕ). eqb (importance n (in_table table) j) 0) back

  -- exactly if there is no failure order in which its failure stops the machine
  pub idle_without_order : has (idle_parts n (in_table table)) (i - 1) ≡ eqb (count n (in_table table) (2 ^ (i - 1)) 1) 0
  idle_without_order =
      has_idle_parts n (in_table table) (i - 1) inside ∙ idle_count n (in_table table) (i - 1) (accepted_table n table accepted).semicoherent inside

  -- exactly if no minimal set names it
  pub idle_in_no_set : (has (idle_parts n (in_table table)) (i - 1) ≡ true) ↔ ((a : ℕ) → Memᴰ a (minimal_sets n (in_table table)) → has a (i - 1) ≡ false)
  idle_in_no_set =
      let same = has_idle_parts n (in_table table) (i - 1) inside in
      let named = idle_exactly n (in_table table) (accepted_table n table accepted).semicoherent (i - 1) inside in
      (λ h. named.0 (sym same ∙ h), λ none. same ∙ named.1 none)

-- no part is idle where d(n) is not 0; the reverse is false (theory_idle/proofs/Counterexample.antt)
pub no_part_idle : (n : ℕ) (table : List ℕ) → (domination n (path_count n (in_table table)) n ≡ pos 0 → ⊥) → idle_parts n (in_table table) ≡ 0
no_part_idle n table = full_domination n (in_table table)
