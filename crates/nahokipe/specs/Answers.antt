-- What a host is handed. A call leaves what the function behind it leaves, with its answer told in this form: number 0 where the call is given,
-- with the length written or the number asked for; else the refusal's number, with its place.
use Rattle.std.specs.Prelude.{ℕ, ◌-◌, Result, Ok, Err, Option, Some, None}
use Rattle.answer.specs.Refusals.{number_of}
use Rattle.answer.specs.Outcome.{Numbered, Verdict}
use Rattle.answer.specs.declared.Refusal.{Refusal}
use Rattle.record.specs.declared.Contents.{Contents}
use Rattle.record.specs.declared.Step.{Step}
use Rattle.nahokipe.specs.declared.Answer.{Answer}
use Rattle.nahokipe.specs.declared.Record.{Record}
use Rattle.vector_kind.specs.Kinds.{kind_number}
use Rattle.sheet_entries.specs.declared.EntriesRead.{EntriesRead}
use Rattle.nahokipe.specs.declared.NextSet.{NextSet}
use Rattle.nahokipe.specs.declared.Sheet.{Sheet}

abbrev pub answer : ℕ → ℕ → Answer
answer number value = record { number = number; value = value }

abbrev pub of_verdict : Verdict → Answer
of_verdict (Ok _) = answer 0 0
of_verdict (Err r) = answer (number_of r.reason) r.place

-- of a call that gives a number, or the length that it wrote
abbrev pub of_number : Numbered → Answer
of_number (Ok n) = answer 0 n
of_number (Err r) = answer (number_of r.reason) r.place

-- what reading a record hands out: the refusal, or 0; the part list; the sets; the stretch of their bytes as offset and length
abbrev pub of_contents : Contents → Record
of_contents contents =
    record {
      number = (of_verdict contents.verdict).number;
      value = (of_verdict contents.verdict).value;
      parts = contents.list.count;
      mark = contents.list.mark;
      numbers = contents.list.numbers;
      sets = contents.sets;
      offset = contents.begin;
      length = contents.end - contents.begin;
    }

-- what a step along a record's sets hands out
abbrev pub of_step : Option Step → NextSet
of_step None = record { given = 0; set = 0; next = 0; left = 0 }
of_step (Some taken) = record { given = 1; set = taken.set; next = taken.cursor.next; left = taken.cursor.left }

-- what reading a sheet hands out: 0, how many entries were written, the kind's number and n; of a refused sheet the refusal, kind 1 and n = 0
abbrev pub of_entries_read : Result EntriesRead Refusal → Sheet
of_entries_read (Ok read) = record { number = 0; value = read.length; kind = kind_number read.kind; n = read.n }
of_entries_read (Err r) = record { number = number_of r.reason; value = r.place; kind = 1; n = 0 }
