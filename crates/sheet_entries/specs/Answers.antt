-- What reading a sheet into a lent buffer answers and leaves (01, "Records on disk").
use Rattle.std.specs.Prelude.{List, ℕ, ℤ, Result, Ok, Err}
use Rattle.answer.specs.Outcome.{Outcome, outcome, retold, delivered, Numbered}
use Rattle.answer.specs.declared.Refusal.{Refusal}
use Rattle.vector_kind.specs.declared.Kind.{Kind}
use Rattle.codec.specs.Reads.{Read, found, refused}
use Rattle.sheet.specs.Sheets.{Sheet}
use Rattle.sheet_entries.specs.declared.EntriesRead.{EntriesRead}

-- what is told of a sheet with the answer to handing its entries out: its kind and n, and how many they are
abbrev pub entries_read : Kind → ℕ → Numbered → Result EntriesRead Refusal
entries_read kind n (Ok count) = Ok (record { kind = kind; n = n; length = count })
entries_read kind n (Err r) = Err r

-- a sheet's entries for a lent buffer
abbrev pub entries_delivered : Read Sheet → List ℤ → Outcome (Result EntriesRead Refusal) (List ℤ)
entries_delivered (refused r) cells = outcome (Err r) cells
entries_delivered (found sheet end) cells = retold (entries_read sheet.kind sheet.n) (delivered (Ok tt) sheet.entries cells)
