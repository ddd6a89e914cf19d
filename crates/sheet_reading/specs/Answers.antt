-- What reading a sheet answers (01, "Records on disk"): a vector in a struct.
use Rattle.std.specs.Prelude.{Result, Ok, Err}
use Rattle.answer.specs.declared.Refusal.{Refusal}
use Rattle.codec.specs.Reads.{Read, found, refused}
use Rattle.vector.specs.InStruct.{vector_holding}
use Rattle.vector.specs.declared.Vector.{Vector}
use Rattle.sheet.specs.Sheets.{Sheet}

-- a sheet's vector, with 0 in its spare cells; or the refusal
abbrev pub sheet_read : Read Sheet → Result Vector Refusal
sheet_read (found sheet end) = Ok (vector_holding sheet.kind sheet.n sheet.entries)
sheet_read (refused why) = Err why
