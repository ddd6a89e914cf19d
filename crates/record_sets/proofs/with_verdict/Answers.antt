-- `record_sets::with_verdict` meets its contract: the list is judged, and then 4 and 5 are asked of the set.
-- Assumes nothing.
use mathlib.Core.Path.{◌≡◌, sym, ◌∙◌, subst, ap}
use Prim.Native.Nat.{ℕ, ◌^◌, ◌≤◌, ◌<◌}
use Rattle.std.specs.Prelude.{Ok, Err}
use Rattle.numbers.proofs.Counts.{up_to_16_given}
use Rattle.structure.specs.Checks.{list_refusal}
use Rattle.structure.proofs.Acceptance.{accepted_list}
use Rattle.record_sets.proofs.ListSets.{with_refused, with_unknown, with_empty, with_accepted}
use Rattle.record_sets.proofs.with_verdict.Goals as goal
use Rattle.record_sets.proofs.with_verdict.Goals.{After-power_of_two, Else-power_of_two-set, In_default}

pub returns-in-Err : goal.returns-in-Err
returns-in-Err c =
    let a = c.args in
    sym (with_refused a.n a.list.now a.set _ (sym c.list_verdict-verdict.ensures ∙ c.in-Err.is))

-- the list, which is accepted
accepted : (c : In_default) → list_refusal c.args.n c.args.list.now ≡ Ok tt
accepted c = sym c.list_verdict-verdict.ensures ∙ c.in_default.is

-- the power of 2 that a set of n parts stays below
whole : (c : After-power_of_two) → c.power_of_two.result ≡ 2 ^ c.args.n
whole c =
    let a = c.args in
    c.power_of_two.ensures ∙ up_to_16_given a.n (2 ^ a.n) (accepted_list a.n a.list.now (sym c.list_verdict-verdict.ensures ∙ c.in_default.is)).few

known : (c : Else-power_of_two-set) → c.args.set < 2 ^ c.args.n
known c =
    let a = c.args in
    let few = (accepted_list a.n a.list.now (sym c.list_verdict-verdict.ensures ∙ c.in_default.is)).few in
    subst (λ (k : ℕ). a.set < k) (c.power_of_two.ensures ∙ up_to_16_given a.n (2 ^ a.n) few) c.if-power_of_two-set.false

pub returns-then-power_of_two-set : goal.returns-then-power_of_two-set
returns-then-power_of_two-set c =
    let a = c.args in
    (ap Err c.at.ensures)
    ∙ sym (with_unknown a.n a.list.now a.set (accepted (goal.at.returns-then-power_of_two-set c).In_default) (subst (λ (k : ℕ). k ≤ a.set) (whole (goal.at.returns-then-power_of_two-set c).After-power_of_two) c.if-power_of_two-set.true))

pub returns-then-set-eq0 : goal.returns-then-set-eq0
returns-then-set-eq0 c =
    let a = c.args in
    (ap Err c.at-then-set-eq0.ensures) ∙ sym (with_empty a.n a.list.now a.set (accepted (goal.at.returns-then-set-eq0 c).In_default) (known (goal.at.returns-then-set-eq0 c).Else-power_of_two-set) c.if-set-eq0.true)

pub returns : goal.returns
returns c =
    let a = c.args in
    sym (with_accepted a.n a.list.now a.set (accepted (goal.at.returns c).In_default) (known (goal.at.returns c).Else-power_of_two-set) c.if-set-eq0.false)
