-- What a function leaves is left by the call that passes on to it, with its answer in the host's form.
-- Assumes nothing.
use mathlib.Core.Path.{◌≡◌, ap, ◌∙◌}
use Rattle.answer.specs.Outcome.{Outcome, outcome, retold}

pub handed_on : {A B C : Type 0} (form : A → C) {a : A} {b : B} {o : Outcome A B} {handed : C} → outcome a b ≡ o → handed ≡ form a
    → outcome handed b ≡ retold form o
handed_on {C = C} form {b = b} done told = ap (λ (x : C). outcome x b) told ∙ ap (retold form) done
