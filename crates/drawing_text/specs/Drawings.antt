-- What a text of the drawing tool says, and which refusal it meets first, at which line (02, §1).
use Rattle.std.specs.Prelude.{not, List, [], ◌∷◌, map, ℕ, suc, ◌+◌, eqb, get_or, drop, length, Ok, Err}
use Rattle.answer.specs.declared.Reason.TheVariants.{EmptyList, LongList, UnknownPosition, WrongLine, RepeatedPosition}
use Rattle.answer.specs.Outcome.{Outcome, at, refuse, delivered, Numbered, Verdict}
use Rattle.answer.specs.Checks.{part_count_refusal}
use Rattle.theory_orders.specs.Antichains.{most_sets}
use Rattle.record.specs.RecordBytes.{record_bytes}
use Rattle.record_lines.specs.Changes.{every, first_design}
use Rattle.drawing_text.specs.Lines.{lines_of, first_line}
use Rattle.drawing_text.specs.Forms.{numbers_in, is_parts_line, is_set_line}
use Rattle.record_lines.specs.Names.{repeated}
use Rattle.drawing_text.specs.Sets.{set_of, within}

-- ---- the first refusal; the place is the line's number, from 1

-- the positions on a set line of n parts, 17: one that is not 1 to n; 28: one that stands twice
abbrev pub positions_refusal : ℕ → ℕ → List ℕ → Verdict → Verdict
positions_refusal n place positions later =
    refuse (not (every (within n) positions)) UnknownPosition place (refuse (repeated positions) RepeatedPosition place later)

-- The lines behind the first, of which the next has that number. 3 at line 12,872, if there is one, before it is read; 27: a line of another
-- form; then 17 and 28.
unfoldable pub set_lines_refusal : ℕ → ℕ → List (List ℕ) → Verdict
set_lines_refusal n place [] = (Ok tt)
set_lines_refusal n place (line ∷ lines) =
    refuse (eqb place (most_sets + 2)) LongList place
    (refuse (not (is_set_line line)) WrongLine place
    (positions_refusal n place (numbers_in line) (set_lines_refusal n (suc place) lines)))

-- the number on a first line, and the set on any other
abbrev pub number_on : List ℕ → ℕ
number_on line = get_or (numbers_in line) 0 0

abbrev pub set_on : List ℕ → ℕ
set_on line = set_of (numbers_in line)

-- All lines. An empty text has none: 27 at line 1. The first line, 27: another form; 1; 2: the text ends there.
abbrev pub lines_refusal : List (List ℕ) → Verdict
lines_refusal [] = Err (at WrongLine 1)
lines_refusal (first ∷ lines) =
    refuse (not (is_parts_line first)) WrongLine 1
    (part_count_refusal 1 (number_on first) (refuse (eqb (length lines) 0) EmptyList 1 (set_lines_refusal (number_on first) 2 lines)))

-- the first refusal of a text
unfoldable pub drawing_refusal : List ℕ → Verdict
drawing_refusal text = lines_refusal (lines_of text)

-- ---- what the lines say

-- the number of parts, from the first line, and the sets, one from each of the others
abbrev pub drawn_parts : List ℕ → ℕ
drawn_parts text = number_on (first_line text)

abbrev pub drawn_sets : List ℕ → List ℕ
drawn_sets text = map set_on (drop 1 (lines_of text))

-- the record of a text, for a lent buffer: one of edition 1, with part numbers 1 to n, mark n, the minimal sets
unfoldable pub record_of_drawing : List ℕ → List ℕ → Outcome Numbered (List ℕ)
record_of_drawing text buffer = delivered (drawing_refusal text) (record_bytes (first_design (drawn_parts text) (drawn_sets text))) buffer
