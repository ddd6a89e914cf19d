-- `record::read_set` meets its contract: 21 and 22 come from the number, and then 4, 5 and the rising are asked.
-- Assumes nothing.
use mathlib.Core.Path.{◌≡◌, ap, ◌∙◌, subst}
use Prim.Native.Nat.{ℕ, ◌^◌, ◌≤◌, ◌<◌}
use borrow.Author.Tests.{eq-eqb, ne_eqb, le-leb, lt-leb}
use Rattle.std.specs.Prelude.{Err}
use Rattle.answer.specs.declared.Reason.TheVariants.{UnknownPart, EmptySet, WrongSet}
use Rattle.answer.specs.Outcome.{at}
use Rattle.answer.proofs.Outcomes.{refuse_held, refuse_passed}
use Rattle.numbers.proofs.Counts.{up_to_16_given}
use Rattle.codec.specs.declared.Field.TheVariants.{Set}
use Rattle.codec.specs.Reads.{reading_of}
use Rattle.record.specs.Inside.{rising_refusal}
use Rattle.codec.proofs.Found.{field_ended, field_passed, field_held}
use Rattle.record.proofs.read_set.Goals as goal
use Rattle.record.proofs.read_set.Goals.{After-power_of_two}

-- the power of 2 that a set of n parts stays below
whole : (c : After-power_of_two) → c.power_of_two.result ≡ 2 ^ c.args.n
whole c = c.power_of_two.ensures ∙ up_to_16_given c.args.n (2 ^ c.args.n) c.requires

pub returns-then-power_of_two-value : goal.returns-then-power_of_two-value
returns-then-power_of_two-value c =
    let a = c.args in
    let v : ℕ = c.in-Ok.field-0.value in
    let unknown : 2 ^ a.n ≤ v = subst (λ (x : ℕ). x ≤ v) (whole (goal.at.returns-then-power_of_two-value c).After-power_of_two) c.if-power_of_two-value.true in
    (ap Err c.at.ensures)
    ∙ ap reading_of (field_held a.bytes.now a.start Set (rising_refusal a.n a.previous a.start) c.read_number-number.ensures _ _ (at UnknownPart a.start) c.in-Ok.is
    (refuse_held _ UnknownPart a.start _ (le-leb (2 ^ a.n) v unknown)))

pub returns-then-value-eq0 : goal.returns-then-value-eq0
returns-then-value-eq0 c =
    let a = c.args in
    let v : ℕ = c.in-Ok.field-0.value in
    let known : v < 2 ^ a.n = subst (λ (x : ℕ). v < x) (whole (goal.at.returns-then-value-eq0 c).After-power_of_two) c.if-power_of_two-value.false in
    (ap Err c.at-then-value-eq0.ensures)
    ∙ ap reading_of (field_held a.bytes.now a.start Set (rising_refusal a.n a.previous a.start) c.read_number-number.ensures _ _ (at EmptySet a.start) c.in-Ok.is
    (refuse_passed _ UnknownPart a.start _ (lt-leb (2 ^ a.n) v known) ∙ refuse_held _ EmptySet a.start _ (eq-eqb v 0 c.if-value-eq0.true)))

pub returns-then-value-previous : goal.returns-then-value-previous
returns-then-value-previous c =
    let a = c.args in
    let v : ℕ = c.in-Ok.field-0.value in
    let known : v < 2 ^ a.n = subst (λ (x : ℕ). v < x) (whole (goal.at.returns-then-value-previous c).After-power_of_two) c.if-power_of_two-value.false in
    (ap Err c.at-then-value-previous.ensures)
    ∙ ap reading_of (field_held a.bytes.now a.start Set (rising_refusal a.n a.previous a.start) c.read_number-number.ensures _ _ (at WrongSet a.start) c.in-Ok.is
    (refuse_passed _ UnknownPart a.start _ (lt-leb (2 ^ a.n) v known) ∙ refuse_passed _ EmptySet a.start _ (ne_eqb v 0 c.if-value-eq0.false)
    ∙ refuse_held _ WrongSet a.start _ (le-leb v a.previous c.if-value-previous.true)))

pub returns-in-Err : goal.returns-in-Err
returns-in-Err c =
    let a = c.args in
    ap reading_of (field_ended a.bytes.now a.start Set (rising_refusal a.n a.previous a.start) c.read_number-number.ensures _ c.in-Err.is)

pub returns-else-value-previous : goal.returns-else-value-previous
returns-else-value-previous c =
    let a = c.args in
    let v : ℕ = c.in-Ok.field-0.value in
    let known : v < 2 ^ a.n = subst (λ (x : ℕ). v < x) (whole (goal.at.returns-else-value-previous c).After-power_of_two) c.if-power_of_two-value.false in
    ap reading_of (field_passed a.bytes.now a.start Set (rising_refusal a.n a.previous a.start) c.read_number-number.ensures _ _ c.in-Ok.is
    (refuse_passed _ UnknownPart a.start _ (lt-leb (2 ^ a.n) v known) ∙ refuse_passed _ EmptySet a.start _ (ne_eqb v 0 c.if-value-eq0.false)
    ∙ refuse_passed _ WrongSet a.start _ (lt-leb v a.previous c.if-value-previous.false)))
