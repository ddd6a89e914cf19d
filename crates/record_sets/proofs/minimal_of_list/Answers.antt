-- `record_sets::minimal_of_list` meets its contract: a list that nothing refuses is some sets of n parts.
-- Assumes nothing.
use mathlib.Core.Path.{◌≡◌, sym, ap, ◌∙◌}
use mathlib.Core.List.{List}
use Prim.Native.Nat.{ℕ}
use Rattle.std.specs.Prelude.{Ok}
use Rattle.answer.specs.Outcome.{delivered, Verdict}
use Rattle.answer.proofs.Deliveries.{refused_kept}
use Rattle.theory_sets.specs.Structures.{listed, minimal_sets}
use Rattle.structure.specs.Checks.{list_refusal}
use Rattle.record_sets.specs.Inside.{least_of}
use Rattle.record_sets.proofs.ListSets.{sets_walk, list_some}
use Rattle.record_sets.proofs.minimal_of_list.Goals as goal
use Rattle.record_sets.proofs.minimal_of_list.Goals.{In-Ok}

-- nothing refuses
accepted : (c : In-Ok) → list_refusal c.args.n c.args.list.now ≡ Ok tt
accepted c = sym c.list_verdict-checked.ensures ∙ c.in-Ok.is

pub returns-in-Err : goal.returns-in-Err
returns-in-Err c =
    let a = c.args in
    refused_kept (list_refusal a.n a.list.now) (minimal_sets a.n (listed a.list.now)) a.sets.now _ (sym c.list_verdict-checked.ensures ∙ c.in-Err.is)

pub returns-in-Ok : goal.returns-in-Ok
returns-in-Ok c =
    let here = (goal.at.returns-in-Ok c).In-Ok in
    let a = c.args in
    c.minimal_of_marks.ensures
    ∙ ap (λ (l : List ℕ). delivered (Ok tt) l a.sets.now) (ap (least_of a.n) c.marked-marks.ensures ∙ sets_walk a.n a.list.now (list_some a.n a.list.now (accepted here)))
    ∙ ap (λ (v : Verdict). delivered v (minimal_sets a.n (listed a.list.now)) a.sets.now) (sym (accepted here))
