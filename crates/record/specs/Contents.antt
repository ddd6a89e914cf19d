-- What the reading functions answer: the contents of a record, the stretch of its sets, and a walk along them.
use Rattle.std.specs.Prelude.{◌&&◌, List, [], ◌∷◌, ℕ, zero, suc, ◌-◌, ◌^◌, ltb, length, take, drop, Ok, Err, Option, Some, None}
use Rattle.answer.specs.declared.Refusal.{Refusal}
use Rattle.codec.specs.declared.Field.TheVariants as field
use Rattle.codec.specs.Reads.{Read, found, refused}
use Rattle.codec.specs.Reading.{number_at}
use Rattle.numbers.specs.Counts.{up_to_16}
use Rattle.theory_sets.specs.Structures.{listed}
use Rattle.theory_sets.specs.Tables.{table_length}
use Rattle.structure_words.specs.Words.{words_of, bytes_in}
use Rattle.record_parts.specs.PartLists.{list_of}
use Rattle.record.specs.declared.Contents.{Contents}
use Rattle.record.specs.declared.Cursor.{Cursor}
use Rattle.record.specs.declared.Step.{Step}
use Rattle.record.specs.declared.WithWords.{WithWords}
use Rattle.record.specs.Records.{DesignAt}

-- of a refused record: the refusal, a list of no parts and an empty stretch
abbrev pub nothing : Refusal → Contents
nothing refusal = record { list = list_of 0 []; sets = 0; begin = 0; end = 0; next = 0; verdict = Err refusal }

-- The contents of a record: its part list, the number of its sets, from where to where their bytes stand, and the position after the record.
abbrev pub contents_of : Read DesignAt → Contents
contents_of (found here next) = record {
  list = here.design.parts;
  sets = length here.design.sets;
  begin = here.begin;
  end = here.end;
  next = next;
  verdict = (Ok tt);
}
contents_of (refused refusal) = nothing refusal

-- the words of the structure that sets of n parts give: the bit of each set of these parts that holds one of them, and no other
abbrev pub structure_words : ℕ → List ℕ → List ℕ
structure_words n sets = words_of (λ a. ltb a (2 ^ n) && listed sets a)

-- the contents of a record and the words of its structure, of a refused one all 0
abbrev pub with_words_of : Read DesignAt → WithWords
with_words_of (found here next) =
    record { contents = contents_of (found here next); words = structure_words here.design.parts.count here.design.sets }
with_words_of (refused refusal) = record { contents = nothing refusal; words = structure_words 0 [] }

-- the table that words give for n parts; empty where no structure has so many
abbrev pub table_of_words : ℕ → List ℕ → List ℕ
table_of_words n words = bytes_in (up_to_16 n (table_length n)) words

-- the bytes that carry the sets, from the first set's first byte to the last set's last; empty for a refused record
abbrev pub stretch_of : Contents → List ℕ → List ℕ
stretch_of contents bytes = take (contents.end - contents.begin) (drop contents.begin bytes)

-- ---- a walk along the sets

-- where a walk is: the position of the next set, and how many sets are left
abbrev pub cursor : ℕ → ℕ → Cursor
cursor next left = record { next = next; left = left }

-- one step: the set at the cursor and the cursor behind it. Where no set is left, or no number stands there, the walk is at its end.
abbrev pub step : ℕ → Cursor → Step
step set behind = record { set = set; cursor = behind }

abbrev pub step_on : Read ℕ → ℕ → Option Step
step_on (found value next) left = Some (step value (cursor next left))
step_on (refused refusal) left = None

abbrev pub step_from : List ℕ → ℕ → ℕ → Option Step
step_from bytes next zero = None
step_from bytes next (suc left) = step_on (number_at bytes next field.Set) left

unfoldable pub step_at : List ℕ → Cursor → Option Step
step_at bytes at = step_from bytes at.next at.left

-- the sets that a walk meets in at most so many steps
abbrev pub met_in : ℕ → List ℕ → Option Step → List ℕ
met_in zero bytes taken = []
met_in (suc more) bytes None = []
met_in (suc more) bytes (Some taken) = taken.set ∷ met_in more bytes (step_at bytes taken.cursor)
