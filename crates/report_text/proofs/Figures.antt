-- From the cells that the figures' call leaves in four arrays to the text of a structure, and from the text of a record's table to the
-- report of its design: the figures of the table are those of the listed sets, and these are counts of failure orders.
-- Assumes nothing.
use mathlib.Core.Path.{◌≡◌, sym, ap, ap₂, ◌∙◌, fun_ext}
use mathlib.Core.Bool.{Bool}
use mathlib.Core.List.{List, ◌++◌}
use Prim.Native.Nat.{ℕ, suc, ◌+◌, ◌-◌, ◌^◌, ◌≤◌, ◌<◌}
use native.Mathlib.Omega.{arith}
use lib.IntN.{ℤ, pos}
use lib.ListN.{length, get_or, take, drop, replicate, get_or-append}
use lib.Seq.{get_or-take, get_or-drop}
use Rattle.std.specs.Prelude.{Ok, Err}
use Rattle.numbers.specs.Tables.{tabulate}
use Rattle.numbers.proofs.Tables.{tabulate_length, tabulate_at}
use Rattle.theory_sets.specs.Structures.{Semicoherent, listed}
use Rattle.theory_sets.specs.Tables.{in_table, table_of}
use Rattle.theory_sets.proofs.Structures.{semicoherent_same}
use Rattle.theory_orders.specs.Formulas.{path_count}
use Rattle.answer.specs.Outcome.{outcome}
use Rattle.answer.proofs.Outcomes.{then_passed, settled_given}
use Rattle.structure.specs.Checks.{table_refusal}
use Rattle.structure.proofs.Acceptance.{accepted_table, list_works}
use Rattle.record_parts.specs.declared.PartList.{PartList}
use Rattle.theory_figures.specs.Figures.{signature, domination, importance, signatures, dominations, importances}
use Rattle.figures.specs.All.{Buffers, buffers_of, all_in_front, all_figures}
use Rattle.figures.proofs.Rooms.{room_enough}
use Rattle.theory_figures.proofs.Tails.{signature_is_count}
use Rattle.theory_orders.proofs.Agreeing.{path_count_same}
use Rattle.theory_figures.proofs.Importances.{importance_is_count, importance_same}
use Rattle.record.specs.Records.{Design}
use Rattle.record.specs.RecordBytes.{DesignRules}
use Rattle.record.proofs.MinimalSets.{design_table_lem}
use Rattle.text.specs.Texts.{decimal, signed, lines}
use Rattle.report_text.specs.Reports.{first_line, order_line, dom_line, part_line, report_of}
use Rattle.report_lines.specs.Lines.{head_line, figure_line}
use Rattle.report_figures.specs.FiguresText.{cell_line, count_line, lines_by, text_by}
use Rattle.report_figures.proofs.Blocks.{lines_same, few_parts}
use Rattle.report_text.specs.Inside.{table_text}

-- ---- the cells of a vector in front of an array

front_cell : {A : Type 0} (n : ℕ) (f : ℕ → A) (rest : List A) (i : ℕ) (d : A) → i < n → get_or (tabulate n f ++ rest) i d ≡ f i
front_cell n f rest i d h = get_or-append (tabulate n f) rest d i (omega (arith, tabulate_length n f)) ∙ tabulate_at n f i d h

one_back : (k : ℕ) → 1 ≤ k → suc (k - 1) ≡ k
one_back k h = omega arith

-- what the figures' call leaves of 17 zeros in each array, where the table is accepted
module _ (n : ℕ) (table : List ℕ) (accepted : table_refusal n table ≡ Ok tt) where
  few : n ≤ 16
  few = (accepted_table n table accepted).few

  abbrev zeros : Buffers
  zeros = buffers_of (replicate 17 (pos 0)) (replicate 17 (pos 0)) (replicate 17 (pos 0)) (replicate 17 0)

  pub all_figures_lem : all_figures n table zeros ≡ outcome (Ok tt) (all_in_front n (in_table table) zeros)
  unfolding all_figures
  all_figures_lem =
      sym (settled_given _ Err zeros _
      (then_passed _ accepted ∙ sym (room_enough n 17 17 17 17 (omega (arith, few)) (omega (arith, few)) (omega (arith, few)) (omega (arith, few)))))

-- the text by these cells is the text of the structure
module _ (list : PartList) (sets : ℕ) (works : ℕ → Bool) (few : list.count ≤ 16) where
  pub figures_text : (orders dominated : List ℤ) (parts : List ℕ) (r1 r2 : List ℤ) (r3 : List ℕ) → orders ≡ signatures list.count works ++ r1
      → dominated ≡ dominations list.count works ++ r2 → parts ≡ importances list.count works ++ r3
      → text_by list sets orders (take 16 (drop 1 dominated)) parts ≡ table_text list sets works
  unfolding lines_by table_text cell_line count_line
  figures_text orders dominated parts r1 r2 r3 e1 e2 e3 =
      let n : ℕ = list.count in
      let φ : ℕ → ℕ = path_count n works in
      let one : lines (λ k. figure_line "order" k (signed (get_or orders (k - 1) (pos 0)))) n ≡ lines (λ k. figure_line "order" k (signed (signature n φ k))) n =
      lines_same _ _ n (λ k low high. ap (λ (z : ℤ). figure_line "order" k (signed z))
      (ap (λ (cells : List ℤ). get_or cells (k - 1) (pos 0)) e1 ∙ front_cell n (λ i. signature n φ (suc i)) r1 (k - 1) (pos 0) (omega arith) ∙ ap (signature n φ) (one_back k low))) in
      let two : lines (λ k. figure_line "dom" k (signed (get_or (take 16 (drop 1 dominated)) (k - 1) (pos 0)))) n ≡ lines (λ k. figure_line "dom" k (signed (domination n φ k))) n =
      lines_same _ _ n (λ k low high. ap (λ (z : ℤ). figure_line "dom" k (signed z))
      (get_or-take 16 (drop 1 dominated) (k - 1) (pos 0) (omega arith) ∙ get_or-drop 1 dominated (k - 1) (pos 0)
      ∙ ap₂ (λ (cells : List ℤ) (i : ℕ). get_or cells i (pos 0)) e2 (omega arith) ∙ front_cell (n + 1) (domination n φ) r2 k (pos 0) (omega arith))) in
      let three : lines (λ i. figure_line "part" (get_or list.numbers (i - 1) 0) (decimal (get_or parts (i - 1) 0))) n
      ≡ lines (λ i. figure_line "part" (get_or list.numbers (i - 1) 0) (decimal (importance n works i))) n =
      lines_same _ _ n (λ i low high. ap (λ (x : ℕ). figure_line "part" (get_or list.numbers (i - 1) 0) (decimal x))
      (ap (λ (cells : List ℕ). get_or cells (i - 1) 0) e3 ∙ front_cell n (λ j. importance n works (suc j)) r3 (i - 1) 0 (omega arith) ∙ ap (importance n works) (one_back i low))) in
      few_parts list sets orders (take 16 (drop 1 dominated)) parts few ∙ ap₂ (λ (x y : List ℕ). head_line n sets list.mark ++ (x ++ y)) one (ap₂ (λ (x y : List ℕ). x ++ y) two three)

-- ---- the report of a design

module _ (d : Design) (rules : DesignRules d) where
  abbrev n : ℕ
  n = d.parts.count

  abbrev table : List ℕ
  table = table_of n (listed d.sets)

  works_same : (a : ℕ) → a < 2 ^ n → in_table table a ≡ listed d.sets a
  works_same = list_works n d.sets

  coherent : Semicoherent n (listed d.sets)
  coherent = semicoherent_same n (in_table table) (listed d.sets) works_same (accepted_table n table (design_table_lem d rules)).semicoherent

  counts_same : path_count n (in_table table) ≡ path_count n (listed d.sets)
  counts_same = fun_ext (path_count_same n (in_table table) (listed d.sets) works_same)

  pub design_text : table_text d.parts (length d.sets) (in_table table) ≡ report_of d
  unfolding table_text report_of first_line order_line dom_line part_line signed
  design_text =
      let works : ℕ → Bool = listed d.sets in
      let one = lines_same (λ k. figure_line "order" k (signed (signature n (path_count n (in_table table)) k))) (order_line d) n (λ k low high.
      ap (λ (z : ℤ). figure_line "order" k (signed z))
      (ap (λ (φ : ℕ → ℕ). signature n φ k) counts_same ∙ signature_is_count n works coherent k low high)) in
      let two = lines_same (λ k. figure_line "dom" k (signed (domination n (path_count n (in_table table)) k))) (dom_line d) n (λ k low high.
      ap (λ (φ : ℕ → ℕ). figure_line "dom" k (signed (domination n φ k))) counts_same) in
      let three = lines_same (λ i. figure_line "part" (get_or d.parts.numbers (i - 1) 0) (decimal (importance n (in_table table) i))) (part_line d) n (λ i low high.
      ap₂ (λ (number figure : ℕ). figure_line "part" number (decimal figure))
      (sym (get_or-take n d.parts.numbers (i - 1) 0 (omega arith)))
      (importance_same n (in_table table) works works_same i low high ∙ importance_is_count n works coherent i low high)) in
      ap₂ (λ (x y : List ℕ). first_line d ++ (x ++ y)) one (ap₂ (λ (x y : List ℕ). x ++ y) two three)
