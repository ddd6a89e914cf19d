-- What refuses a list of sets to which a set is added (01, "Records on disk": the new one is tested with 4 and 5, place 0).
use Rattle.std.specs.Prelude.{ℕ, List}
use Rattle.answer.specs.Outcome.{and_then, Verdict}
use Rattle.structure.specs.Checks.{list_refusal}
use Rattle.record_lines.specs.Changes.{new_set_refusal}

-- what refuses the list, and then 4 and 5 of the set
abbrev pub with_set_refusal : ℕ → List ℕ → ℕ → Verdict
with_set_refusal n list set = and_then (list_refusal n list) (new_set_refusal n set)
