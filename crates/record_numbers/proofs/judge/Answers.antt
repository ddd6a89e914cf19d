-- `record_numbers::judge` meets its contract. The loop's invariant: the numbers passed are right, so what refuses those left, under the last one
-- passed, is what refuses all.
-- Assumes nothing.
use mathlib.Core.Path.{sym, ◌∙◌, ap}
use native.Mathlib.Nat.{pos_of_ne-zero}
use native.Mathlib.Omega.{arith}
use borrow.Author.Tests.{lt-ltb, le-ltb}
use lib.ListN.{length}
use Rattle.std.specs.Prelude.{Err}
use Rattle.answer.proofs.Checks.{parts_none, parts_over}
use Rattle.record_numbers.specs.Numbering.{part_list_refusal}
use Rattle.record_numbers.proofs.Refusals.{refusal_counted, refusal_past, refusal_here, refusal_end}
use Rattle.record_numbers.proofs.judge.Goals as goal

pub returns-then-count-eq0 : goal.returns-then-count-eq0
unfolding part_list_refusal
returns-then-count-eq0 c = (ap Err c.at.ensures) ∙ sym (parts_none 0 (length c.args.numbers.now) _ c.if-count-eq0.true)

pub returns-then-count-gt-MOST_PARTS : goal.returns-then-count-gt-MOST_PARTS
unfolding part_list_refusal
returns-then-count-gt-MOST_PARTS c =
    (ap Err c.at-then-count-gt-MOST_PARTS.ensures)
    ∙ sym (parts_over 0 (length c.args.numbers.now) _ (pos_of_ne-zero c.if-count-eq0.false) c.if-count-gt-MOST_PARTS.true)

pub loop-index-init : goal.loop-index-init
loop-index-init c = (omega arith, sym (refusal_counted (length c.args.numbers.now) c.args.mark c.args.numbers.now c.if-count-eq0.false c.if-count-gt-MOST_PARTS.false))

pub returns-then-misnumbered : goal.returns-then-misnumbered
returns-then-misnumbered c =
    let w = c.before.before in
    let l = w.before.before.before in
    let a = l.args in
    let wrong = sym w.misnumbered.ensures ∙ c.if-misnumbered.true in
    (ap Err c.at-then-misnumbered.ensures)
    ∙ sym (refusal_here a.numbers.now a.mark l.loop-index.previous l.loop-index.index w.loop-index-test.true wrong)
    ∙ l.loop-index.invariant.1

pub loop-index-preserved : goal.loop-index-preserved
loop-index-preserved c =
    let w = c.before in
    let l = w.before.before.before in
    let a = l.args in
    let right = sym w.misnumbered.ensures ∙ c.if-misnumbered.false in (
      omega arith,
      sym (refusal_past a.numbers.now a.mark l.loop-index.previous l.loop-index.index w.loop-index-test.true right)
          ∙ l.loop-index.invariant.1,
    )

pub returns-then-mark-gt-TOP_NUMBER : goal.returns-then-mark-gt-TOP_NUMBER
returns-then-mark-gt-TOP_NUMBER c =
    let l = c.before.before.before in
    let a = l.args in
    (ap Err c.at-then-mark-gt-TOP_NUMBER.ensures)
    ∙ sym (refusal_end a.numbers.now a.mark l.loop-index.previous l.loop-index.index (omega arith) ∙ simp (lt-ltb _ _ c.if-mark-gt-TOP_NUMBER.true))
    ∙ l.loop-index.invariant.1

pub returns : goal.returns
returns c =
    let l = c.before.before in
    let a = l.args in
    sym (refusal_end a.numbers.now a.mark l.loop-index.previous l.loop-index.index (omega arith) ∙ simp (le-ltb _ _ c.if-mark-gt-TOP_NUMBER.false))
    ∙ l.loop-index.invariant.1
