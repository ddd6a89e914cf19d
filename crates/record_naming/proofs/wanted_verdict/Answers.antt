-- `record_naming::wanted_verdict` meets its contract: the checks stand in the definition's order.
-- Assumes nothing.
use mathlib.Core.Path.{◌≡◌, sym, ◌∙◌, ap}
use mathlib.Core.Bool.{true, false}
use native.Mathlib.Nat.{pos_of_ne-zero}
use lib.ListN.{length}
use Rattle.std.specs.Prelude.{Err}
use Rattle.answer.proofs.Checks.{parts_none, parts_over}
use Rattle.record_lines.specs.Changes.{every}
use Rattle.record_lines.specs.Names.{repeated}
use Rattle.record_numbers.specs.Numbering.{names}
use Rattle.record_naming.specs.Naming.{wanted_refusal}
use Rattle.record_naming.proofs.Refusals.{wanted_unknown, wanted_twice, wanted_right, mask_counted}
use Rattle.record_naming.proofs.wanted_verdict.Goals as goal

pub returns-then-count-eq0 : goal.returns-then-count-eq0
returns-then-count-eq0 c =
    let a = c.args in
    (ap Err c.at.ensures) ∙ sym (parts_none 0 (length a.numbers.now) (wanted_refusal a.numbers.now a.wanted.now) c.if-count-eq0.true)

pub returns-then-count-gt-MOST_PARTS : goal.returns-then-count-gt-MOST_PARTS
returns-then-count-gt-MOST_PARTS c =
    let a = c.args in
    (ap Err c.at-then-count-gt-MOST_PARTS.ensures)
    ∙ sym (parts_over 0 (length a.numbers.now) (wanted_refusal a.numbers.now a.wanted.now) (pos_of_ne-zero c.if-count-eq0.false) c.if-count-gt-MOST_PARTS.true)

pub returns-then-not-all_stand : goal.returns-then-not-all_stand
returns-then-not-all_stand c =
    let a = c.args in
    let unknown : every (λ number. names number a.numbers.now) a.wanted.now ≡ false = sym c.all_stand.ensures ∙ c.if-not-all_stand.true in
    (ap Err c.at-then-not-all_stand.ensures)
    ∙ sym (mask_counted a.numbers.now a.wanted.now (pos_of_ne-zero c.if-count-eq0.false) c.if-count-gt-MOST_PARTS.false ∙ wanted_unknown a.numbers.now a.wanted.now unknown)

pub returns-then-repeats : goal.returns-then-repeats
returns-then-repeats c =
    let a = c.args in
    let known : every (λ number. names number a.numbers.now) a.wanted.now ≡ true = sym c.all_stand.ensures ∙ c.if-not-all_stand.false in
    let twice : repeated a.wanted.now ≡ true = sym c.repeats.ensures ∙ c.if-repeats.true in
    (ap Err c.at-then-repeats.ensures)
    ∙ sym (mask_counted a.numbers.now a.wanted.now (pos_of_ne-zero c.if-count-eq0.false) c.if-count-gt-MOST_PARTS.false ∙ wanted_twice a.numbers.now a.wanted.now known twice)

pub returns : goal.returns
returns c =
    let a = c.args in
    let known : every (λ number. names number a.numbers.now) a.wanted.now ≡ true = sym c.all_stand.ensures ∙ c.if-not-all_stand.false in
    let once : repeated a.wanted.now ≡ false = sym c.repeats.ensures ∙ c.if-repeats.false in
    sym (mask_counted a.numbers.now a.wanted.now (pos_of_ne-zero c.if-count-eq0.false) c.if-count-gt-MOST_PARTS.false ∙ wanted_right a.numbers.now a.wanted.now known once)
