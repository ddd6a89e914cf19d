-- What the call that gives all figures at once leaves behind, on every input.
use Rattle.std.specs.Prelude.{Bool, List, ℕ, ◌+◌, ℤ, length, Ok, Err}
use Rattle.answer.specs.Outcome.{and_then, room, front, Outcome, outcome, settled, Verdict}
use Rattle.theory_sets.specs.Tables.{in_table}
use Rattle.structure.specs.Checks.{table_refusal}
use Rattle.theory_figures.specs.Figures.{path_counts, signatures, dominations, importances}

-- the four lent buffers
pub record Buffers : Type 0 where
  pub counts : List ℤ
  pub signature : List ℤ
  pub domination : List ℤ
  pub importance : List ℕ

abbrev pub buffers_of : List ℤ → List ℤ → List ℤ → List ℕ → Buffers
buffers_of counts signature domination importance =
    record { counts = counts; signature = signature; domination = domination; importance = importance }

-- 11 for each buffer in this order, by their lengths
abbrev pub room_refusal : ℕ → ℕ → ℕ → ℕ → ℕ → Verdict
room_refusal n counts signature domination importance =
    and_then (room (n + 1) counts) (and_then (room n signature) (and_then (room (n + 1) domination) (room n importance)))

-- each result in front of its buffer
abbrev pub all_in_front : ℕ → (ℕ → Bool) → Buffers → Buffers
all_in_front n works buffers =
    buffers_of (front (path_counts n works) buffers.counts) (front (signatures n works) buffers.signature)
    (front (dominations n works) buffers.domination) (front (importances n works) buffers.importance)

-- The checks of the table, then those of the buffers.
unfoldable pub all_figures : ℕ → List ℕ → Buffers → Outcome Verdict Buffers
all_figures n table buffers =
    settled
    (and_then (table_refusal n table)
    (room_refusal n (length buffers.counts) (length buffers.signature) (length buffers.domination) (length buffers.importance)))
    Err buffers (outcome (Ok tt) (all_in_front n (in_table table) buffers))
