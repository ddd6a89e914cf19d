-- `record_sets::minimal_with` meets its contract: what nothing refuses is some sets of n parts, the added one behind the others.
-- Assumes nothing.
use mathlib.Core.Path.{◌≡◌, sym, ap, ◌∙◌}
use mathlib.Core.List.{List, ◌∷◌}
use Prim.Native.Nat.{ℕ}
use Rattle.std.specs.Prelude.{Ok}
use Rattle.answer.specs.Outcome.{delivered, Verdict}
use Rattle.answer.proofs.Deliveries.{refused_kept}
use Rattle.theory_sets.specs.Structures.{listed, minimal_sets}
use Rattle.record_sets.specs.Lists.{with_set_refusal}
use Rattle.record_sets.specs.Inside.{least_of}
use Rattle.record_sets.proofs.ListSets.{with_walk}
use Rattle.record_sets.proofs.minimal_with.Goals as goal
use Rattle.record_sets.proofs.minimal_with.Goals.{In-Ok}

-- nothing refuses
accepted : (c : In-Ok) → with_set_refusal c.args.n c.args.list.now c.args.set ≡ Ok tt
accepted c = sym c.with_verdict-verdict.ensures ∙ c.in-Ok.is

pub returns-in-Err : goal.returns-in-Err
returns-in-Err c =
    let a = c.args in
    refused_kept (with_set_refusal a.n a.list.now a.set) (minimal_sets a.n (listed (a.set ∷ a.list.now))) a.sets.now _ (sym c.with_verdict-verdict.ensures ∙ c.in-Err.is)

pub returns-in-Ok : goal.returns-in-Ok
returns-in-Ok c =
    let here = (goal.at.returns-in-Ok c).In-Ok in
    let a = c.args in
    c.minimal_of_marks.ensures
    ∙ ap (λ (l : List ℕ). delivered (Ok tt) l a.sets.now) (ap (least_of a.n) c.marked_with-marks.ensures ∙ with_walk a.n a.list.now a.set (accepted here))
    ∙ ap (λ (v : Verdict). delivered v (minimal_sets a.n (listed (a.set ∷ a.list.now))) a.sets.now) (sym (accepted here))
