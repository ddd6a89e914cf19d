-- `record_changes::entered_record` meets its contract: the list's minimal sets fit the local array, and with these numbers and this mark they are
-- the design that is entered.
-- Assumes nothing.
use mathlib.Core.Path.{◌≡◌, sym, ap, ◌∙◌, subst}
use mathlib.Core.List.{List}
use Prim.Native.Nat.{ℕ, ◌≤◌}
use native.Mathlib.Omega.{arith}
use lib.ListN.{length, replicate, length-replicate}
use Rattle.std.specs.Prelude.{Ok}
use Rattle.answer.specs.Outcome.{outcome, delivered, Numbered, Verdict}
use Rattle.answer.proofs.Outcomes.{then_passed, then_refused}
use Rattle.answer.proofs.Deliveries.{refused_kept, Given, given, refused_by}
use Rattle.theory_orders.proofs.Sperner.{minimal_sets_most}
use Rattle.theory_sets.specs.Structures.{listed, minimal_sets}
use Rattle.structure.specs.Checks.{list_refusal}
use Rattle.structure.proofs.Acceptance.{accepted_list}
use Rattle.record_numbers.specs.Numbering.{numbers_refusal, part_list_refusal}
use Rattle.record_numbers.proofs.Refusals.{refusal_counted}
use Rattle.record_parts.specs.PartLists.{list_of}
use Rattle.record.specs.Records.{design}
use Rattle.record.specs.RecordBytes.{record_bytes}
use Rattle.record_lines.specs.Changes.{entered_design}
use Rattle.record_lines.specs.Records.{entered_refusal, entered_record}
use Rattle.std.proofs.lemmas.Result.{err_from_is_err_and}
use Rattle.record_changes.proofs.entered_record.Goals as goal

pub slice_bounds-sets-end : goal.slice_bounds-sets-end
slice_bounds-sets-end c =
    let numbers : List ℕ =
    c.args.numbers.now in
    let list : List ℕ =
    c.args.list.now in
    let minimal : List ℕ =
    minimal_sets (length numbers) (listed list) in
    let built : Given (list_refusal (length numbers) list) minimal (replicate 12870 0) c.minimal_of_list.new.sets c.in_ok-count.count =
    given _ _ (replicate 12870 0) c.minimal_of_list.new.sets c.in_ok-count.count
    (ap (λ (x : Numbered). outcome x c.minimal_of_list.new.sets) (sym c.in_ok-count.was) ∙ c.minimal_of_list.ensures) in
    let few : length numbers ≤ 16 =
    (accepted_list (length numbers) list built.accepted).few in
    let most : c.in_ok-count.count ≤ 12870 =
    omega (arith, built.counted, minimal_sets_most (length numbers) (listed list) few) in
    omega (arith, most)

pub slice_bounds-write_record-end : goal.slice_bounds-write_record-end
slice_bounds-write_record-end c =
    let numbers : List ℕ =
    c.args.numbers.now in
    let list : List ℕ =
    c.args.list.now in
    let minimal : List ℕ =
    minimal_sets (length numbers) (listed list) in
    let built : Given (list_refusal (length numbers) list) minimal (replicate 12870 0) c.minimal_of_list.new.sets c.in_ok-count.count =
    given _ _ (replicate 12870 0) c.minimal_of_list.new.sets c.in_ok-count.count
    (ap (λ (x : Numbered). outcome x c.minimal_of_list.new.sets) (sym c.in_ok-count.was) ∙ c.minimal_of_list.ensures) in
    built.counted ∙ ap length (sym built.front)

pub write_record-requires : goal.write_record-requires
write_record-requires c =
    let numbers : List ℕ =
    c.args.numbers.now in
    let list : List ℕ =
    c.args.list.now in
    let minimal : List ℕ =
    minimal_sets (length numbers) (listed list) in
    let built : Given (list_refusal (length numbers) list) minimal (replicate 12870 0) c.minimal_of_list.new.sets c.in_ok-count.count =
    given _ _ (replicate 12870 0) c.minimal_of_list.new.sets c.in_ok-count.count
    (ap (λ (x : Numbered). outcome x c.minimal_of_list.new.sets) (sym c.in_ok-count.was) ∙ c.minimal_of_list.ensures) in
    let few : length numbers ≤ 16 =
    (accepted_list (length numbers) list built.accepted).few in
    let most : c.in_ok-count.count ≤ 12870 =
    omega (arith, built.counted, minimal_sets_most (length numbers) (listed list) few) in
    record { numbers_len_bound = few; sets_len_bound = omega (arith, built.counted, ap length built.front, most) }

pub returns-in_err-count : goal.returns-in_err-count
unfolding entered_record
returns-in_err-count c =
    let list : List ℕ =
    c.args.list.now in
    let a = c.args in
    let n : ℕ = length a.numbers.now in
    let list = a.list.now in
    let refused =
    refused_by (list_refusal n list) (minimal_sets n (listed list)) (replicate 12870 0) c.minimal_of_list.new.sets _
    (λ accepted. subst (λ (k : ℕ). length (minimal_sets n (listed list)) ≤ k) (sym (length-replicate {A = ℕ} 12870 0))
    (minimal_sets_most n (listed list) (accepted_list n list accepted).few))
    (ap (λ (x : Numbered). outcome x c.minimal_of_list.new.sets) (sym c.in_err-count.was) ∙ c.minimal_of_list.ensures) in
    let p = err_from_is_err_and c.from_residual.result c.from_residual.ensures.1 in
    rw (p.1, p.2) (refused_kept (entered_refusal a.mark a.numbers.now list) (record_bytes (entered_design a.mark a.numbers.now list)) a.buffer.now _
    (then_refused (numbers_refusal 0 a.mark 0 a.numbers.now) refused))

pub returns-in_err-judge : goal.returns-in_err-judge
unfolding entered_record
returns-in_err-judge c =
    let numbers : List ℕ =
    c.args.numbers.now in
    let list : List ℕ =
    c.args.list.now in
    let mark : ℕ =
    c.args.mark in
    let minimal : List ℕ =
    minimal_sets (length numbers) (listed list) in
    let built : Given (list_refusal (length numbers) list) minimal (replicate 12870 0) c.minimal_of_list.new.sets c.in_ok-count.count =
    given _ _ (replicate 12870 0) c.minimal_of_list.new.sets c.in_ok-count.count
    (ap (λ (x : Numbered). outcome x c.minimal_of_list.new.sets) (sym c.in_ok-count.was) ∙ c.minimal_of_list.ensures) in
    let few : length numbers ≤ 16 =
    (accepted_list (length numbers) list built.accepted).few in
    -- so the numbers alone are left to be judged
    let judged : part_list_refusal (length numbers) mark numbers ≡ entered_refusal mark numbers list =
    refusal_counted (length numbers) mark numbers (λ none. omega (arith, (accepted_list (length numbers) list built.accepted).some)) few
    ∙ sym (then_passed (numbers_refusal 0 mark 0 numbers) built.accepted) in
    let a = c.args in
    let p = err_from_is_err_and c.from_residual-in_err-judge.result c.from_residual-in_err-judge.ensures.1 in
    rw (p.1, p.2) (refused_kept (entered_refusal mark numbers list) (record_bytes (entered_design mark numbers list)) a.buffer.now _
    (sym judged ∙ sym c.judge.ensures ∙ c.in_err-judge.was))

pub returns : goal.returns
unfolding entered_record
returns c =
    let numbers : List ℕ =
    c.args.numbers.now in
    let list : List ℕ =
    c.args.list.now in
    let mark : ℕ =
    c.args.mark in
    let minimal : List ℕ =
    minimal_sets (length numbers) (listed list) in
    let built : Given (list_refusal (length numbers) list) minimal (replicate 12870 0) c.minimal_of_list.new.sets c.in_ok-count.count =
    given _ _ (replicate 12870 0) c.minimal_of_list.new.sets c.in_ok-count.count
    (ap (λ (x : Numbered). outcome x c.minimal_of_list.new.sets) (sym c.in_ok-count.was) ∙ c.minimal_of_list.ensures) in
    let few : length numbers ≤ 16 =
    (accepted_list (length numbers) list built.accepted).few in
    -- so the numbers alone are left to be judged
    let judged : part_list_refusal (length numbers) mark numbers ≡ entered_refusal mark numbers list =
    refusal_counted (length numbers) mark numbers (λ none. omega (arith, (accepted_list (length numbers) list built.accepted).some)) few
    ∙ sym (then_passed (numbers_refusal 0 mark 0 numbers) built.accepted) in
    let a = c.args in
    let accepted = sym judged ∙ sym c.judge.ensures ∙ c.in_ok-judge.was in
    c.write_record.ensures
    ∙ ap (λ (sets : List ℕ). delivered (Ok tt) (record_bytes (design (list_of mark numbers) sets)) a.buffer.now) built.front
    ∙ ap (λ (v : Verdict). delivered v (record_bytes (entered_design mark numbers list)) a.buffer.now) (sym accepted)
