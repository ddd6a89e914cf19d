-- What a call that makes a report leaves behind, on every input.
use Rattle.std.specs.Prelude.{List, ℕ, length, Ok, Err}
use Rattle.answer.specs.Outcome.{and_then, room, front, Outcome, outcome, settled, Numbered}
use Rattle.theory_sets.specs.Structures.{listed}
use Rattle.theory_sets.specs.Tables.{table_of}
use Rattle.codec.specs.Reads.{Read, found, refused}
use Rattle.record.specs.Records.{Design}
use Rattle.record_editions.specs.Editions.{whole_record}
use Rattle.report_text.specs.Reports.{report_of}

-- the two lent buffers
pub record ReportBuffers : Type 0 where
  pub table : List ℕ
  pub text : List ℕ

abbrev pub report_buffers : List ℕ → List ℕ → ReportBuffers
report_buffers table text = record { table = table; text = text }

-- A table and a text for two lent buffers: 11 is asked of the table's first and then of the text's, and what is given is each result in front,
-- with the text's length as the answer.
abbrev pub handed_out : List ℕ → List ℕ → List ℕ → List ℕ → Outcome Numbered ReportBuffers
handed_out own_table own_text table text =
    settled (and_then (room (length own_table) (length table)) (room (length own_text) (length text))) Err (report_buffers table text)
    (outcome (Ok (length own_text)) (report_buffers (front own_table table) (front own_text text)))

-- A refused record leaves both buffers as they were; the table and the report of a design are handed out.
abbrev pub reported_read : Read Design → List ℕ → List ℕ → Outcome Numbered ReportBuffers
reported_read (refused r) table text = outcome (Err r) (report_buffers table text)
reported_read (found d next) table text = handed_out (table_of d.parts.count (listed d.sets)) (report_of d) table text

unfoldable pub reported : List ℕ → List ℕ → List ℕ → Outcome Numbered ReportBuffers
reported bytes table text = reported_read (whole_record bytes) table text
