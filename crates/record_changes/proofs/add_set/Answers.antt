-- `record_changes::add_set` meets its contract: the old sets are a list that nothing refuses, so 4 and 5 of the new one are what is left, and the
-- minimal sets of them all fit the local array.
-- Assumes nothing.
use mathlib.Core.Path.{◌≡◌, refl, sym, ap, ap₂, ◌∙◌, subst}
use mathlib.Core.List.{List, ◌∷◌}
use Prim.Native.Nat.{ℕ, ◌≤◌}
use native.Mathlib.Omega.{arith}
use lib.ListN.{length, take, replicate, length-replicate}
use Rattle.std.specs.Prelude.{Ok}
use Rattle.answer.specs.Outcome.{outcome, delivered, Numbered, Verdict}
use Rattle.record_parts.specs.declared.PartList.{PartList}
use Rattle.theory_sets.specs.Structures.{listed, minimal_sets}
use Rattle.record_sets.specs.Lists.{with_set_refusal}
use Rattle.record_lines.specs.Changes.{add_set, change_refusal, changed}
use Rattle.record_lines.proofs.Rules.{changed_rules}
use Rattle.answer.proofs.Deliveries.{given, refused_by}
use Rattle.record_opening.specs.declared.Opened.{Opened}
use Rattle.record_opening.proofs.Designs.{RecordOpened, opened_record, sets_front, sets_counted}
use Rattle.record_lines.proofs.Refusals.{unconverted_refusal}
use Rattle.record_changes.proofs.Answers.{d, design_kept, retired_few, retired_inside, kept_retired, opened_refused, change_refused, change_rules, change_made, with_set}
use Rattle.std.proofs.lemmas.Result.{err_from_is_err_and}
use Rattle.record_changes.proofs.add_set.Goals as goal

-- what the call for the minimal sets answers: those of the changed design, or what refuses the change
module _ (set : ℕ) {bytes : List ℕ} {o : Opened} (r : RecordOpened bytes o) where
  found_is : (result : Numbered) (sets : List ℕ)
      → outcome result sets ≡ delivered (with_set_refusal o.list.count (take o.count o.sets) set) (minimal_sets o.list.count (listed (set ∷ take o.count o.sets))) (replicate 12870 0)
      → outcome result sets ≡ delivered (change_refusal (add_set set) (d r)) (changed (add_set set) (d r)).sets (replicate 12870 0)
  found_is result sets e =
      e
      ∙ ap₂ (λ (n : ℕ) (l : List ℕ). delivered (with_set_refusal n l set) (minimal_sets n (listed (set ∷ l))) (replicate 12870 0)) (ap (λ (l : PartList). l.count) r.list) (sets_front r)
      ∙ ap (λ (v : Verdict). delivered v (changed (add_set set) (d r)).sets (replicate 12870 0)) (with_set (d r) (design_kept r) set)

  most : change_refusal (add_set set) (d r) ≡ Ok tt → length (changed (add_set set) (d r)).sets ≤ 12870
  most accepted = (changed_rules (add_set set) (d r) (design_kept r) accepted).sets.most

pub slice_bounds-minimal_with-end : goal.slice_bounds-minimal_with-end
slice_bounds-minimal_with-end c =
    let a = c.args in
    let r = opened_record a.bytes.now _ c.open_record-opened.ensures (λ i. omega (arith, c.shared_slice_known-1.given i)) c.in_ok-opened.was in
    sets_counted r ∙ ap length (sym (sets_front r))

pub slice_bounds-minimal-end : goal.slice_bounds-minimal-end
slice_bounds-minimal-end c =
    let a = c.args in
    let r = opened_record a.bytes.now _ c.open_record-opened.ensures (λ i. omega (arith, c.shared_slice_known-1.given i)) c.in_ok-opened.was in
    let found = found_is a.set r c.minimal_with.result c.minimal_with.new.sets c.minimal_with.ensures in
    let built = given (change_refusal (add_set a.set) (d r)) (changed (add_set a.set) (d r)).sets (replicate 12870 0) c.minimal_with.new.sets c.in_ok-left.left
    (ap (λ (x : Numbered). outcome x c.minimal_with.new.sets) (sym c.in_ok-left.was) ∙ found) in
    omega (arith, built.counted, most a.set r built.accepted)

pub slice_bounds-write_stored-end : goal.slice_bounds-write_stored-end
slice_bounds-write_stored-end c =
    let a = c.args in
    let r = opened_record a.bytes.now _ c.open_record-opened.ensures (λ i. omega (arith, c.shared_slice_known-1.given i)) c.in_ok-opened.was in
    let found = found_is a.set r c.minimal_with.result c.minimal_with.new.sets c.minimal_with.ensures in
    let built = given (change_refusal (add_set a.set) (d r)) (changed (add_set a.set) (d r)).sets (replicate 12870 0) c.minimal_with.new.sets c.in_ok-left.left
    (ap (λ (x : Numbered). outcome x c.minimal_with.new.sets) (sym c.in_ok-left.was) ∙ found) in
    built.counted ∙ ap length (sym built.front)

pub write_stored-requires : goal.write_stored-requires
write_stored-requires c =
    let a = c.args in
    let r = opened_record a.bytes.now _ c.open_record-opened.ensures (λ i. omega (arith, c.shared_slice_known-1.given i)) c.in_ok-opened.was in
    let found = found_is a.set r c.minimal_with.result c.minimal_with.new.sets c.minimal_with.ensures in
    let built = given (change_refusal (add_set a.set) (d r)) (changed (add_set a.set) (d r)).sets (replicate 12870 0) c.minimal_with.new.sets c.in_ok-left.left
    (ap (λ (x : Numbered). outcome x c.minimal_with.new.sets) (sym c.in_ok-left.was) ∙ found) in
    record {
      design_rules = change_rules r (add_set a.set) built.accepted _ _ r.list built.front;
      count_le_most_retired = retired_few r;
      count_in_bounds = retired_inside r;
    }

pub returns-in_err-opened : goal.returns-in_err-opened
returns-in_err-opened c =
    let a = c.args in
    let p = err_from_is_err_and c.from_residual.result c.from_residual.ensures.1 in
    rw (p.1, p.2) (opened_refused a.bytes.now c.open_record-opened.result c.open_record-opened.ensures _ c.in_err-opened.was (add_set a.set) a.buffer.now)

pub returns-in_err-left : goal.returns-in_err-left
returns-in_err-left c =
    let a = c.args in
    let r = opened_record a.bytes.now _ c.open_record-opened.ensures (λ i. omega (arith, c.shared_slice_known-1.given i)) c.in_ok-opened.was in
    let found = found_is a.set r c.minimal_with.result c.minimal_with.new.sets c.minimal_with.ensures in
    let p = err_from_is_err_and c.from_residual-in_err-left.result c.from_residual-in_err-left.ensures.1 in
    rw (p.1, p.2) (change_refused r (add_set a.set) _
    (refused_by (change_refusal (add_set a.set) (d r)) (changed (add_set a.set) (d r)).sets (replicate 12870 0) c.minimal_with.new.sets _
    (λ accepted. subst (λ (k : ℕ). length (changed (add_set a.set) (d r)).sets ≤ k) (sym (length-replicate {A = ℕ} 12870 0)) (most a.set r accepted))
    (ap (λ (x : Numbered). outcome x c.minimal_with.new.sets) (sym c.in_err-left.was) ∙ found))
    a.buffer.now)

pub returns : goal.returns
returns c =
    let a = c.args in
    let r = opened_record a.bytes.now _ c.open_record-opened.ensures (λ i. omega (arith, c.shared_slice_known-1.given i)) c.in_ok-opened.was in
    let found = found_is a.set r c.minimal_with.result c.minimal_with.new.sets c.minimal_with.ensures in
    let built = given (change_refusal (add_set a.set) (d r)) (changed (add_set a.set) (d r)).sets (replicate 12870 0) c.minimal_with.new.sets c.in_ok-left.left
    (ap (λ (x : Numbered). outcome x c.minimal_with.new.sets) (sym c.in_ok-left.was) ∙ found) in
    c.write_stored.ensures
    ∙ change_made r (add_set a.set) (unconverted_refusal (add_set a.set) r.s refl ∙ built.accepted) _ _ _ _ a.buffer.now r.edition r.list built.front (kept_retired r)
