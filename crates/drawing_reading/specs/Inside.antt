-- What the private functions answer on the way to a drawing's record: a reader of the promises may pass this file over.
use Rattle.answer.specs.Outcome.{Verdict}
use Rattle.std.specs.Prelude.{Bool, true, false, not, cond, List, [], ◌∷◌, ℕ, ◌+◌, ◌-◌, ◌^◌, min, length, get_or, Option, Some, None, Result, Ok, Err}
use Rattle.answer.specs.declared.Reason.{Reason}
use Rattle.answer.specs.declared.Reason.TheVariants.{UnknownPosition, WrongLine, RepeatedPosition}
use Rattle.theory_sets.specs.Masks.{has}
use Rattle.record_lines.specs.Changes.{every}
use Rattle.record_opening.specs.Opening.{set_cells}
use Rattle.text.specs.Texts.{decimal}
use Rattle.drawing_text.specs.Lines.{first_line}
use Rattle.drawing_text.specs.Forms.{digit, value_from, numbers_in, same_bytes, is_parts_line, is_set_line}
use Rattle.record_lines.specs.Names.{repeated}
use Rattle.drawing_text.specs.Sets.{set_of, within}
use Rattle.drawing_text.specs.Drawings.{number_on}
use Rattle.codec.specs.declared.Standing.{Standing}
use Rattle.drawing_reading.specs.declared.Drawn.{Drawn}
use Rattle.drawing_reading.specs.declared.Gathered.{Gathered}

-- ---- numbers

-- what a digit stands for, and 10 where no digit stands
abbrev pub digit_at : List ℕ → ℕ → ℕ
digit_at text i = cond (digit (get_or text i 0)) (get_or text i 0 - 48) 10

-- the digits in front of some bytes
unfoldable pub digits_in : List ℕ → List ℕ
digits_in [] = []
digits_in (byte ∷ bytes) = elim (digit byte) [ true ↦ byte ∷ digits_in bytes | false ↦ [] ]

-- a number as the code holds it: no machine has a position above 16, so that from 100 on they are all alike
abbrev pub held : ℕ → ℕ
held value = min value 100

-- a number that stands there, with the position after it, or none
abbrev pub Numeral : Type 0
Numeral = Option (Standing ℕ)

abbrev pub numeral : ℕ → ℕ → Numeral
numeral value next = Some (record { value = value; next = next })

-- a number where a test passes
abbrev pub pick_numeral : Bool → Numeral → Numeral
pick_numeral true number = number
pick_numeral false number = None

-- the number in front of some bytes that stand at a position
unfoldable pub numeral_at : List ℕ → ℕ → Numeral
numeral_at bytes start =
    pick_numeral (same_bytes (digits_in bytes) (decimal (value_from 0 (digits_in bytes))))
    (numeral (held (value_from 0 (digits_in bytes))) (start + length (digits_in bytes)))

-- ---- one line

-- the number on the first line of a text, and the position behind that line
unfoldable pub parts_at : List ℕ → Numeral
parts_at text = pick_numeral (is_parts_line (first_line text)) (numeral (held (number_on (first_line text))) (length (first_line text)))

-- one of two by a test
abbrev pub pick_gathered : Bool → Gathered → Gathered → Gathered
pick_gathered true a b = a
pick_gathered false a b = b

-- One position more beside those of a line so far: their set, whether one of them is none of n, and whether one of n stood twice.
abbrev pub with_position : ℕ → Gathered → ℕ → Gathered
with_position n g position =
    pick_gathered (within n position)
    (pick_gathered (has g.set (position - 1)) (record { set = g.set; unknown = g.unknown; repeated = true })
    (record { set = g.set + 2 ^ (position - 1); unknown = g.unknown; repeated = g.repeated }))
    (record { set = g.set; unknown = true; repeated = g.repeated })

-- the set of a line and the position behind it, or why the line is refused
abbrev pub Line : Type 0
Line = Result (Standing ℕ) Reason

abbrev pub line_read : ℕ → ℕ → Line
line_read set next = Ok (record { value = set; next = next })

-- one check of a line: where it holds it refuses the line for its reason, and else what comes later decides
abbrev pub refuse_line : Bool → Reason → Line → Line
refuse_line true reason later = Err reason
refuse_line false reason later = later

-- what was gathered on a line of the form, behind which that position is
abbrev pub gathered_line : Gathered → ℕ → Line
gathered_line g next = refuse_line g.unknown UnknownPosition (refuse_line g.repeated RepeatedPosition (line_read g.set next))

-- a set line that stands at a position
abbrev pub set_line_of : ℕ → List ℕ → ℕ → Line
set_line_of n bytes start =
    refuse_line (not (is_set_line bytes)) WrongLine
    (refuse_line (not (every (within n) (numbers_in bytes))) UnknownPosition
    (refuse_line (repeated (numbers_in bytes)) RepeatedPosition (line_read (set_of (numbers_in bytes)) (start + length bytes))))

-- ---- all lines

-- what was read: the number of parts and the sets, or the refusal, with no sets
abbrev pub drawn_or : Verdict → ℕ → List ℕ → Drawn
drawn_or (Ok _) parts sets = record { parts = parts; count = length sets; sets = set_cells sets; verdict = (Ok tt) }
drawn_or (Err why) parts sets = record { parts = 0; count = 0; sets = set_cells []; verdict = Err why }
