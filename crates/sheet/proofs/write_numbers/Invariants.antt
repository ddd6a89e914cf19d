-- `sheet::write_numbers` meets its contract: each number is placed behind those before it, and together they are the sheet.
-- Assumes nothing.
use lib.ListN.{take}
use Rattle.answer.proofs.Outcomes.{InFront}
use Rattle.sheet.specs.Sheets.{sheet_bytes}
use Rattle.sheet.proofs.write_numbers.Given as goal

abbrev pub invariant-loop-entry : goal.invariant-loop-entry
invariant-loop-entry l = InFront l.initial.buffer (sheet_bytes l.kind l.n (take l.entry-index l.entries)) l.buffer l.next
