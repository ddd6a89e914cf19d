-- What refuses a call with two tables (02, §5): "The second table is checked after the first, by the same refusals."
use Rattle.std.specs.Prelude.{List, ℕ}
use Rattle.answer.specs.Outcome.{and_then, Verdict}
use Rattle.structure.specs.Checks.{table_refusal}

unfoldable pub joint_refusal : ℕ → List ℕ → List ℕ → Verdict
joint_refusal n first second = and_then (table_refusal n first) (table_refusal n second)
