-- `report_text::report` meets its contract: the table of an accepted record and the text of its figures are made in local arrays, and then handed
-- out.
-- Assumes nothing.
use mathlib.Core.Path.{◌≡◌, sym, ap, ap₂, ◌∙◌, subst}
use mathlib.Core.List.{List}
use Prim.Native.Nat.{ℕ, ◌≤◌}
use native.Mathlib.Omega.{arith}
use lib.ListN.{length, take, replicate}
use lib.Seq.{length-take-le}
use Rattle.record_parts.specs.declared.PartList.{PartList}
use Rattle.theory_sets.specs.Tables.{in_table}
use Rattle.structure.specs.Checks.{table_refusal}
use Rattle.codec.specs.Reads.{Read}
use Rattle.record.specs.Records.{Design}
use Rattle.record.proofs.MinimalSets.{design_table_lem}
use Rattle.report_text.specs.Reports.{report_of}
use Rattle.report_text.specs.Reporting.{handed_out, reported_read, reported}
use Rattle.report_text.specs.Inside.{table_text}
use Rattle.answer.proofs.Forms.{Wrote, wrote_first, wrote_same, wrote_front, wrote_inside}
use Rattle.report_text.proofs.Figures.{design_text}
use Rattle.report_text.proofs.Built.{design_table, Built, built_given, built_refused, design_in_lem}
use Rattle.report_text.proofs.Printed.{no_report}
use Rattle.std.proofs.lemmas.Result.{err_from_is_err_and}
use Rattle.report_text.proofs.report.Goals as goal

pub slice_bounds-own_table-end : goal.slice_bounds-own_table-end
slice_bounds-own_table-end c =
    -- what the table's call was
    let built : Built c.args.bytes.now c.whole_with_words-read.result.contents c.store_table.new.table c.in_ok-size.size =
    built_given c.args.bytes.now (λ i. omega (arith, c.type_inv.bytes i)) _ c.whole_with_words-read.ensures _ _ c.store_table.ensures c.in_ok-size.size c.in_ok-size.was in
    omega (arith, built.most)

pub put_table-end-requires : goal.put_table-end-requires
put_table-end-requires c =
    -- what the table's call was
    let built : Built c.args.bytes.now c.whole_with_words-read.result.contents c.store_table.new.table c.in_ok-size.size =
    built_given c.args.bytes.now (λ i. omega (arith, c.type_inv.bytes i)) _ c.whole_with_words-read.ensures _ _ c.store_table.ensures c.in_ok-size.size c.in_ok-size.was in
    let b = built in
    ap₂ (λ (list : PartList) (table : List ℕ). table_refusal list.count table) b.parts b.front ∙ design_table_lem b.design b.rules

pub slice_bounds-own_table-end-2 : goal.slice_bounds-own_table-end-2
slice_bounds-own_table-end-2 c =
    -- what the table's call was
    let built : Built c.args.bytes.now c.whole_with_words-read.result.contents c.store_table.new.table c.in_ok-size.size =
    built_given c.args.bytes.now (λ i. omega (arith, c.type_inv.bytes i)) _ c.whole_with_words-read.ensures _ _ c.store_table.ensures c.in_ok-size.size c.in_ok-size.was in
    omega (arith, built.most)

pub slice_bounds-hand_out_both-end : goal.slice_bounds-hand_out_both-end
slice_bounds-hand_out_both-end c =
    -- what the table's call was
    let built : Built c.args.bytes.now c.whole_with_words-read.result.contents c.store_table.new.table c.in_ok-size.size =
    built_given c.args.bytes.now (λ i. omega (arith, c.type_inv.bytes i)) _ c.whole_with_words-read.ensures _ _ c.store_table.ensures c.in_ok-size.size c.in_ok-size.was in
    built.counted ∙ ap length (sym built.front)

pub slice_bounds-own_text-end : goal.slice_bounds-own_text-end
slice_bounds-own_text-end c =
    -- what the table's call was
    let built : Built c.args.bytes.now c.whole_with_words-read.result.contents c.store_table.new.table c.in_ok-size.size =
    built_given c.args.bytes.now (λ i. omega (arith, c.type_inv.bytes i)) _ c.whole_with_words-read.ensures _ _ c.store_table.ensures c.in_ok-size.size c.in_ok-size.was in
    -- the text in front of 4,096 zeros
    let text : Wrote (replicate 4096 0) 0 (report_of built.design) 4096 c.put_table-end.new.text c.put_table-end.result =
    let b = built in
    let contents = c.whole_with_words-read.result.contents in
    let same : table_text contents.list contents.sets (in_table (take c.in_ok-size.size c.store_table.new.table)) ≡ report_of b.design =
    ap (λ (table : List ℕ). table_text contents.list contents.sets (in_table table)) b.front
    ∙ ap₂ (λ (list : PartList) (sets : ℕ). table_text list sets (in_table (design_table b.design))) b.parts b.sets
    ∙ design_text b.design b.rules in
    wrote_same (wrote_first (replicate 4096 0) 0 _ 4096 _ _ c.put_table-end.ensures.table_len_bound (omega arith) c.put_table-end.ensures.text_after) _ same in
    wrote_inside text

pub slice_bounds-hand_out_both-end-2 : goal.slice_bounds-hand_out_both-end-2
slice_bounds-hand_out_both-end-2 c =
    -- what the table's call was
    let built : Built c.args.bytes.now c.whole_with_words-read.result.contents c.store_table.new.table c.in_ok-size.size =
    built_given c.args.bytes.now (λ i. omega (arith, c.type_inv.bytes i)) _ c.whole_with_words-read.ensures _ _ c.store_table.ensures c.in_ok-size.size c.in_ok-size.was in
    -- the text in front of 4,096 zeros
    let text : Wrote (replicate 4096 0) 0 (report_of built.design) 4096 c.put_table-end.new.text c.put_table-end.result =
    let b = built in
    let contents = c.whole_with_words-read.result.contents in
    let same : table_text contents.list contents.sets (in_table (take c.in_ok-size.size c.store_table.new.table)) ≡ report_of b.design =
    ap (λ (table : List ℕ). table_text contents.list contents.sets (in_table table)) b.front
    ∙ ap₂ (λ (list : PartList) (sets : ℕ). table_text list sets (in_table (design_table b.design))) b.parts b.sets
    ∙ design_text b.design b.rules in
    wrote_same (wrote_first (replicate 4096 0) 0 _ 4096 _ _ c.put_table-end.ensures.table_len_bound (omega arith) c.put_table-end.ensures.text_after) _ same in
    sym (length-take-le _ _ (wrote_inside text))

pub returns-in_err-size : goal.returns-in_err-size
unfolding reported
returns-in_err-size c =
    let a = c.args in
    let refusal = built_refused a.bytes.now (λ i. omega (arith, c.type_inv.bytes i)) _ c.whole_with_words-read.ensures _ _ c.store_table.ensures _ c.in_err-size.was in
    let p = err_from_is_err_and c.from_residual.result c.from_residual.ensures.1 in
    rw (p.1, p.2) record { text_after = ap (λ (c : Read Design). reported_read c a.table.now a.text.now) (sym refusal); bytes_len_bound = no_report a.bytes.now _ refusal }

pub returns : goal.returns
unfolding reported
returns c =
    -- what the table's call was
    let built : Built c.args.bytes.now c.whole_with_words-read.result.contents c.store_table.new.table c.in_ok-size.size =
    built_given c.args.bytes.now (λ i. omega (arith, c.type_inv.bytes i)) _ c.whole_with_words-read.ensures _ _ c.store_table.ensures c.in_ok-size.size c.in_ok-size.was in
    -- the text in front of 4,096 zeros
    let text : Wrote (replicate 4096 0) 0 (report_of built.design) 4096 c.put_table-end.new.text c.put_table-end.result =
    let b = built in
    let contents = c.whole_with_words-read.result.contents in
    let same : table_text contents.list contents.sets (in_table (take c.in_ok-size.size c.store_table.new.table)) ≡ report_of b.design =
    ap (λ (table : List ℕ). table_text contents.list contents.sets (in_table table)) b.front
    ∙ ap₂ (λ (list : PartList) (sets : ℕ). table_text list sets (in_table (design_table b.design))) b.parts b.sets
    ∙ design_text b.design b.rules in
    wrote_same (wrote_first (replicate 4096 0) 0 _ 4096 _ _ c.put_table-end.ensures.table_len_bound (omega arith) c.put_table-end.ensures.text_after) _ same in
    let b = built in
    let a = c.args in record {
      text_after = c.hand_out_both.ensures
          ∙ ap₂ (λ (table text : List ℕ). handed_out table text a.table.now a.text.now) b.front (wrote_front text)
          ∙ ap (λ (read : Read Design). reported_read read a.table.now a.text.now) (sym b.read);
      bytes_len_bound = subst (λ (d : Design). length (report_of d) ≤ 4096) (sym (design_in_lem a.bytes.now b.design b.end b.read)) text.short;
    }
