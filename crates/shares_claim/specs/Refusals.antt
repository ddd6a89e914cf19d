-- The first refusal of a table with a group (01, "Where each refusal is found").
use Rattle.std.specs.Prelude.{List, ℕ, Ok}
use Rattle.answer.specs.Outcome.{and_then, Verdict}
use Rattle.answer.specs.Checks.{group_refusal}
use Rattle.structure.specs.Checks.{table_refusal}

-- 1 and 6 to 10, then 15 and 16
unfoldable pub shares_refusal : ℕ → List ℕ → ℕ → Verdict
shares_refusal n table group = and_then (table_refusal n table) (group_refusal n group (Ok tt))
