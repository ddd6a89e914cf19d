-- `record_changes::write_without` meets its contract: the part list answers for the group, 18 is said where no set is left without it, and
-- the numbers of the group are filed.
-- Assumes nothing.
use mathlib.Core.Path.{◌≡◌, sym, ap, ap₂, ◌∙◌, subst}
use mathlib.Core.List.{List}
use Prim.Native.Nat.{ℕ, ◌-◌, ◌≤◌}
use native.Mathlib.Omega.{arith}
use lib.ListN.{length, replicate, length-append}
use lib.Seq.{length-take-le}
use Rattle.std.specs.Prelude.{Ok, Err}
use Rattle.answer.specs.declared.Reason.TheVariants.{InEverySet}
use Rattle.answer.specs.Outcome.{at, outcome, delivered, Numbered, Verdict}
use Rattle.answer.proofs.Deliveries.{given, refused_kept}
use Rattle.record_parts.specs.declared.Listed.{Listed}
use Rattle.record_parts.specs.declared.PartList.{PartList}
use Rattle.record_parts.specs.Changes.{list_without, group_taken_out}
use Rattle.record.specs.Records.{Design, design}
use Rattle.record.specs.RecordBytes.{DesignRules}
use Rattle.record_numbers.specs.Numbering.{named}
use Rattle.record_parts.specs.PartLists.{numbers_of}
use Rattle.record_retired.specs.declared.Retired.{Retired}
use Rattle.record_retired.specs.Retired.{most_retired, filed_all, retired_of}
use Rattle.record_retired.proofs.Cells.{numbers_back}
use Rattle.record_retired.proofs.Filing.{filed_all_most}
use Rattle.record_editions.specs.EditionBytes.{stored_bytes}
use Rattle.record_lines.specs.Records.{in_edition}
use Rattle.record_changes.specs.Inside.{retired_numbers}
use Rattle.record_lines.specs.Changes.{sets_without, design_without, take_out_group_refusal}
use Rattle.record_lines.proofs.TakenOut.{without_fewer}
use Rattle.record_lines.proofs.Rules.{without_rules, group_out_accepted}
use Rattle.record_changes.proofs.Answers.{out_refused, out_list, out_none, out_some}
use borrow.Author.Rules.{rules}
use Rattle.std.proofs.lemmas.Result.{err_from_is_err_and}
use Rattle.record_changes.proofs.write_without.Goals as goal

-- what the part list answered is the verdict on the group
verdict_same : (list : PartList) (group : ℕ) (listed : Listed) → listed ≡ group_taken_out list group → (v : Verdict) → listed.verdict ≡ v → (group_taken_out list group).verdict ≡ v
verdict_same list group listed e v is = sym (ap (λ (l : Listed). l.verdict) e) ∙ is

-- the list that is left
list_left : (d : Design) → DesignRules d → (group : ℕ) (listed : Listed) → listed ≡ group_taken_out d.parts group → (group_taken_out d.parts group).verdict ≡ Ok tt → listed.list ≡ list_without group d.parts
list_left d rules group listed e let_go = ap (λ (l : Listed). l.list) e ∙ out_list d rules group let_go

-- the retired numbers that are handed on
filed_few : (group : ℕ) (list : PartList) (retired filed : Retired) → retired.count ≤ most_retired → retired.count ≤ length retired.numbers
    → filed ≡ retired_of (filed_all (named (numbers_of list) group) (retired_numbers retired)) → (filed.count ≤ most_retired) × (filed.count ≤ length filed.numbers)
filed_few group list retired filed few inside e =
    let gone : List ℕ = filed_all (named (numbers_of list) group) (retired_numbers retired) in
    let earlier = length-take-le retired.count retired.numbers inside in
    let most = filed_all_most (named (numbers_of list) group) (retired_numbers retired) (omega (arith, earlier, few)) in
    subst (λ (r : Retired). (r.count ≤ most_retired) × (r.count ≤ length r.numbers)) (sym e)
    (most, omega (arith, length-append gone (replicate (most_retired - length gone) 0)))

pub returns-in_err-listed : goal.returns-in_err-listed
returns-in_err-listed c =
    let a = c.args in
    let d = design a.list a.sets.now in
    let p = err_from_is_err_and c.from_residual.result c.from_residual.ensures.1 in
    rw (p.1, p.2) (refused_kept (take_out_group_refusal a.group d) (stored_bytes (in_edition a.edition (design_without a.group d) (filed_all (named (numbers_of a.list) a.group) (retired_numbers a.retired)))) a.buffer.now _
    (out_refused d c.requires.design_rules a.group _ (verdict_same a.list a.group _ c.take_out_group-listed.ensures _ c.in_err-listed.was)))

pub returns-then-left-eq0 : goal.returns-then-left-eq0
returns-then-left-eq0 c =
    let a = c.args in
    let old = design a.list a.sets.now in
    let built = given (Ok tt) (sets_without a.group a.sets.now) (replicate 12870 0) c.sets_left-left.new.kept c.sets_left-left.result c.sets_left-left.ensures in
    let let_go = verdict_same a.list a.group _ c.take_out_group-listed.ensures _ c.in_ok-listed.was in
    ap (λ (x : Numbered). outcome x a.buffer.now) (ap Err c.at.ensures)
    ∙ refused_kept (take_out_group_refusal a.group old) (stored_bytes (in_edition a.edition (design_without a.group old) (filed_all (named (numbers_of a.list) a.group) (retired_numbers a.retired)))) a.buffer.now (at InEverySet 0)
    (out_none old c.requires.design_rules a.group let_go (omega (arith, c.if-left-eq0.true, built.counted)))

pub file_group-filed-requires : goal.file_group-filed-requires
file_group-filed-requires c =
    record {
      well_formed = c.requires.design_rules.parts;
      count_le_most_retired = c.requires.count_le_most_retired;
      count_in_bounds = c.requires.count_in_bounds;
    }

pub slice_bounds-kept-end : goal.slice_bounds-kept-end
slice_bounds-kept-end c =
    let a = c.args in
    let old = design a.list a.sets.now in
    let built = given (Ok tt) (sets_without a.group a.sets.now) (replicate 12870 0) c.sets_left-left.new.kept c.sets_left-left.result c.sets_left-left.ensures in
    omega (arith, built.counted, without_fewer a.group a.sets.now, c.requires.design_rules.sets.most)

pub slice_bounds-write_stored-end : goal.slice_bounds-write_stored-end
slice_bounds-write_stored-end c =
    let a = c.args in
    let old = design a.list a.sets.now in
    let built = given (Ok tt) (sets_without a.group a.sets.now) (replicate 12870 0) c.sets_left-left.new.kept c.sets_left-left.result c.sets_left-left.ensures in
    built.counted ∙ ap length (sym built.front)

pub write_stored-requires : goal.write_stored-requires
write_stored-requires c =
    let a = c.args in
    let old = design a.list a.sets.now in
    let built = given (Ok tt) (sets_without a.group a.sets.now) (replicate 12870 0) c.sets_left-left.new.kept c.sets_left-left.result c.sets_left-left.ensures in
    let let_go = verdict_same a.list a.group _ c.take_out_group-listed.ensures _ c.in_ok-listed.was in
    let made : take_out_group_refusal a.group old ≡ Ok tt =
    out_some old c.requires.design_rules a.group let_go (λ none. omega (arith, c.if-left-eq0.false, built.counted)) in
    let kept = filed_few a.group a.list a.retired c.file_group-filed.result c.requires.count_le_most_retired c.requires.count_in_bounds c.file_group-filed.ensures in
    let left = list_left old c.requires.design_rules a.group _ c.take_out_group-listed.ensures let_go in
    record {
      design_rules = subst DesignRules (sym (ap₂ design left built.front)) (without_rules a.group old c.requires.design_rules (group_out_accepted a.group old made).2);
      count_le_most_retired = kept.0;
      count_in_bounds = kept.1;
    }

pub returns : goal.returns
returns c =
    let a = c.args in
    let old = design a.list a.sets.now in
    let built = given (Ok tt) (sets_without a.group a.sets.now) (replicate 12870 0) c.sets_left-left.new.kept c.sets_left-left.result c.sets_left-left.ensures in
    let let_go = verdict_same a.list a.group _ c.take_out_group-listed.ensures _ c.in_ok-listed.was in
    let made : take_out_group_refusal a.group old ≡ Ok tt =
    out_some old c.requires.design_rules a.group let_go (λ none. omega (arith, c.if-left-eq0.false, built.counted)) in
    let gone : List ℕ = filed_all (named (numbers_of a.list) a.group) (retired_numbers a.retired) in
    let left = list_left old c.requires.design_rules a.group _ c.take_out_group-listed.ensures let_go in
    c.write_stored.ensures
    ∙ ap₂ (λ (x : Design) (l : List ℕ). delivered (Ok tt) (stored_bytes (in_edition a.edition x l)) a.buffer.now) (ap₂ design left built.front) (ap retired_numbers c.file_group-filed.ensures ∙ numbers_back gone)
    ∙ ap (λ (v : Verdict). delivered v (stored_bytes (in_edition a.edition (design_without a.group old) gone)) a.buffer.now) (sym made)
