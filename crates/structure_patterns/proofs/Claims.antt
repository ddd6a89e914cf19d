-- 02, §6, of tables: one proof that the table of each pattern is accepted, what designers would ask of the patterns, and where all n! orders of
-- at least k of n stand. Assumes nothing.
use mathlib.Core.Path.{◌≡◌, sym, ap, ◌∙◌, fun_ext}
use mathlib.Core.Bool.{cond, not, ◌&&◌}
use Prim.Native.Nat.{ℕ, suc, ◌+◌, ◌-◌, ◌^◌, ◌≤◌, ◌<◌}
use native.Mathlib.Omega.{arith}
use lib.Dec.{eqb, leb}
use lib.IntN.{pos}
use lib.Pow.{ones_lt}
use borrow.Author.Tests.{leb-true, not-false}
use Rattle.std.specs.Prelude.{Ok}
use Rattle.answer.specs.declared.Reason.TheVariants.{WrongThreshold}
use Rattle.answer.proofs.Checks.{parts_right}
use Rattle.answer.proofs.Outcomes.{refuse_accepted}
use Rattle.numbers.specs.Counts.{factorial}
use Rattle.numbers.specs.Tables.{tabulate}
use Rattle.numbers.proofs.Bools.{and_left, and_right}
use Rattle.numbers.proofs.Tables.{tabulate_same}
use Rattle.theory_sets.specs.Structures.{Semicoherent}
use Rattle.theory_sets.specs.Tables.{in_table, table_of}
use Rattle.theory_sets.proofs.Tables.{table_of_same, table_of_works}
use Rattle.theory_orders.specs.Counting.{count}
use Rattle.theory_orders.proofs.Agreeing.{count_same, path_count_same}
use Rattle.theory_figures.specs.Figures.{signature, signatures}
use Rattle.theory_cuts.specs.Cuts.{dual_table}
use Rattle.theory_cuts.proofs.Cuts.{cut_same, dual_is_cut}
use Rattle.theory_patterns.specs.Patterns.{at_least, series, parallel, StoppedBy}
use Rattle.theory_patterns.proofs.Counts.{at_least_count, at_least_signature}
use Rattle.theory_patterns.proofs.Families.{stopped_semicoherent, at_least_stopped, row_stopped, ring_stopped}
use Rattle.theory_patterns.proofs.Laws.{at_least_all, at_least_one, at_least_dual, row_all, row_one, ring_all, ring_one}
use Rattle.structure.specs.Checks.{table_refusal}
use Rattle.structure.proofs.Acceptance.{table_of_accepted}
use Rattle.structure_patterns.specs.Patterns.{patterned, family_of, pattern_refusal}
use Rattle.structure_patterns.specs.declared.Pattern.{Pattern}
use Rattle.structure_patterns.specs.declared.Pattern.TheVariants.{AtLeast, Row, Ring}

-- ---- what is not refused

pub record AcceptedPattern (n k : ℕ) : Type 0 where
  pub few : n ≤ 16
  pub some : 1 ≤ k
  pub most : k ≤ n

pub accepted_pattern : (n k : ℕ) → pattern_refusal n k ≡ Ok tt → AcceptedPattern n k
unfolding pattern_refusal
accepted_pattern n k h =
    let parts = parts_right 0 n _ h in
    let passed = refuse_accepted (not (leb 1 k && leb k n)) WrongThreshold 0 (Ok tt) parts.2 in
    let both = not-false (leb 1 k && leb k n) passed.0 in
    record {
      few = parts.1;
      some = leb-true 1 k (and_left (leb 1 k) (leb k n) both);
      most = leb-true k n (and_right (leb 1 k) (leb k n) both);
    }

-- ---- one proof for all patterns

module _ (pattern : Pattern) (n k : ℕ) (accepted : pattern_refusal n k ≡ Ok tt) where
  -- each pattern is stopped exactly by its family of sets, none of them empty and at least one of them there
  pub pattern_stopped : StoppedBy n (family_of pattern n k) (patterned pattern n k)
  pattern_stopped = cases pattern
    where
      p : AcceptedPattern n k
      p = accepted_pattern n k accepted

      cases : (pattern : Pattern) → StoppedBy n (family_of pattern n k) (patterned pattern n k)
      cases AtLeast = at_least_stopped n k p.some p.most
      cases Row = row_stopped n k p.some p.most
      cases Ring = ring_stopped n k p.some p.most

  -- so it is semicoherent
  pub pattern_semicoherent : Semicoherent n (patterned pattern n k)
  pattern_semicoherent = stopped_semicoherent n (family_of pattern n k) (patterned pattern n k) pattern_stopped

  -- and its table is accepted
  pub pattern_accepted : table_refusal n (table_of n (patterned pattern n k)) ≡ Ok tt
  pattern_accepted =
      let p = accepted_pattern n k accepted in
      table_of_accepted n (patterned pattern n k) (omega (arith, p.some, p.most)) p.few pattern_semicoherent

-- ---- at least k of n

module _ (n k : ℕ) (accepted : pattern_refusal n k ≡ Ok tt) where
  same : (a : ℕ) → a < 2 ^ n → at_least k a ≡ in_table (table_of n (patterned AtLeast n k)) a
  same a h = sym (table_of_works n (at_least k) a h)

  -- all n! orders stand at N(n-k+1), of the count of failure orders
  pub at_least_orders : (m : ℕ) → 1 ≤ m → m ≤ n → count n (in_table (table_of n (patterned AtLeast n k))) (2 ^ n - 1) m ≡ cond (eqb m (n + 1 - k)) (factorial n) 0
  at_least_orders m first last =
      let p = accepted_pattern n k accepted in
      sym (count_same n (at_least k) _ same (pattern_semicoherent AtLeast n k accepted) (2 ^ n - 1) (ones_lt n) m)
      ∙ at_least_count n k p.some p.most m first last

  -- and so of the figure
  pub at_least_signatures : signatures n (in_table (table_of n (patterned AtLeast n k))) ≡ tabulate n (λ m. pos (cond (eqb (suc m) (n + 1 - k)) (factorial n) 0))
  at_least_signatures =
      let p = accepted_pattern n k accepted in
      tabulate_same n _ (λ m. pos (cond (eqb (suc m) (n + 1 - k)) (factorial n) 0)) (λ m l.
      ap (λ (φ : ℕ → ℕ). signature n φ (suc m)) (sym (fun_ext (path_count_same n (at_least k) _ same)))
      ∙ at_least_signature n k p.some p.most (suc m) (omega arith) (omega arith))

  -- the dual is at least n - k + 1
  pub at_least_dual_table : dual_table n (table_of n (patterned AtLeast n k)) ≡ table_of n (patterned AtLeast n (n + 1 - k))
  at_least_dual_table =
      let p = accepted_pattern n k accepted in
      table_of_same n _ (at_least (n + 1 - k)) (λ a h.
      dual_is_cut n _ a h ∙ cut_same n _ (at_least k) (λ b l. sym (same b l)) a
      ∙ sym (dual_is_cut n (at_least k) a h) ∙ at_least_dual n k p.most a h)

-- ---- the series and the parallel machine

module _ (n : ℕ) where
  pub at_least_all_series : table_of n (patterned AtLeast n n) ≡ table_of n (series n)
  at_least_all_series = table_of_same n (at_least n) (series n) (at_least_all n)

  pub at_least_one_parallel : table_of n (patterned AtLeast n 1) ≡ table_of n (parallel n)
  at_least_one_parallel = table_of_same n (at_least 1) (parallel n) (at_least_one n)

  pub row_all_parallel : table_of n (patterned Row n n) ≡ table_of n (parallel n)
  row_all_parallel = ap (table_of n) (fun_ext (row_all n))

  pub ring_all_parallel : 1 ≤ n → table_of n (patterned Ring n n) ≡ table_of n (parallel n)
  ring_all_parallel some = ap (table_of n) (fun_ext (λ a. ring_all n a some))

  pub row_one_series : table_of n (patterned Row n 1) ≡ table_of n (series n)
  row_one_series = ap (table_of n) (fun_ext (row_one n))

  pub ring_one_series : table_of n (patterned Ring n 1) ≡ table_of n (series n)
  ring_one_series = ap (table_of n) (fun_ext (ring_one n))
