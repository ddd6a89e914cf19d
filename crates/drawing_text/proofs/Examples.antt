-- The definitions on texts of the drawing tool: they compute.
-- Assumes nothing.
use mathlib.Core.Path.{◌≡◌, refl}
use mathlib.Core.List.{List, [], ◌∷◌, map}
use Prim.Native.Nat.{ℕ}
use Prim.Native.String.{String}
use Rattle.std.specs.Prelude.{Ok, Err}
use Rattle.answer.specs.declared.Reason.{Reason}
use Rattle.answer.specs.declared.Reason.TheVariants.{WrongPartCount, EmptyList, UnknownPosition, WrongLine, RepeatedPosition}
use Rattle.answer.specs.Outcome.{at}
use Rattle.text.specs.Texts.{ascii, decimal, spelled}
use Rattle.theory_sums.specs.Sums.{some}
use Rattle.theory_sets.specs.Masks.{has, those}
use Rattle.theory_sets.specs.Tables.{packed}
use Rattle.record_parts.specs.PartLists.{list_of}
use Rattle.record.specs.Records.{design}
use Rattle.drawing_text.specs.Lines.{lines_of}
use Rattle.drawing_text.specs.Forms.{spaced, line_of, set_lines, value_from, numbers_in, is_parts_line, is_set_line}
use Rattle.drawing_text.specs.Sets.{set_of, positions_of}
use Rattle.drawing_text.specs.Drawings.{set_lines_refusal, drawing_refusal, drawn_parts, drawn_sets}
use Rattle.drawing_text.specs.Writing.{drawing_of}

-- ---- the bridge, with its positions in any order

abbrev bridge : List ℕ
bridge = ascii "parts 5\nset 4 1\nset 2 3 4\nset 5 2\nset 1 3 5\n"

bridge_accepted : drawing_refusal bridge ≡ Ok tt
unfolding drawing_refusal lines_of is_parts_line is_set_line line_of spaced decimal spelled numbers_in value_from set_lines_refusal some
bridge_accepted = refl

bridge_parts : drawn_parts bridge ≡ 5
unfolding lines_of numbers_in value_from
bridge_parts = refl

bridge_sets : drawn_sets bridge ≡ 9 ∷ 14 ∷ 18 ∷ 21 ∷ []
unfolding lines_of numbers_in value_from set_of packed some
bridge_sets = refl

bridge_written : drawing_of (design (list_of 5 (1 ∷ 2 ∷ 3 ∷ 4 ∷ 5 ∷ [])) (9 ∷ 14 ∷ 18 ∷ 21 ∷ [])) ≡ ascii "parts 5\nset 1 4\nset 2 3 4\nset 2 5\nset 1 3 5\n"
unfolding drawing_of set_lines line_of spaced decimal spelled positions_of those has
bridge_written = refl

-- ---- refusals

-- a text, and the reason and the line that refuse it
record Example : Type 0 where
  text : String
  reason : Reason
  line : ℕ

abbrev says : String → Reason → ℕ → Example
says text reason line = record { text = text; reason = reason; line = line }

abbrev refusals : List Example
refusals =
    -- 27 stands before 1 and 17 on its own line, and behind what refuses an earlier one
    says "parts 17\nset x\n" WrongPartCount 1 ∷
    says "parts 5\nset 9 x\n" WrongLine 2 ∷
    -- 28 stands behind 17, line by line
    says "parts 5\nset 1 1 9\n" UnknownPosition 2 ∷
    says "parts 5\nset 1 1\n" RepeatedPosition 2 ∷
    says "parts 5\nset 1\nset 2 9\n" UnknownPosition 3 ∷
    -- a number of any length is well formed, and so is 0
    says "parts 18446744073709551617\n" WrongPartCount 1 ∷
    says "parts 5\nset 4294967297\n" UnknownPosition 2 ∷
    says "parts 0\n" WrongPartCount 1 ∷
    says "parts 5\nset 0\n" UnknownPosition 2 ∷
    says "parts 5\nset 00\n" WrongLine 2 ∷
    says "parts 05\n" WrongLine 1 ∷
    -- a last line without its line feed is of another form,
    says "parts 5" WrongLine 1 ∷
    says "parts 5\nset 1" WrongLine 2 ∷
    -- and so are an empty line, a space too many, a carriage return, a tab, a line without a number and one with too many
    says "parts 5\n\n" WrongLine 2 ∷
    says "parts 5\nset 1 \n" WrongLine 2 ∷
    says "parts 5\nset 1  2\n" WrongLine 2 ∷
    says "parts 5\nset 1\r\n" WrongLine 2 ∷
    says "parts 5\nset\t1\n" WrongLine 2 ∷
    says "parts 5\nset\n" WrongLine 2 ∷
    says "parts 5 5\n" WrongLine 1 ∷
    -- an empty text, one without a set, and 1 before 2
    says "" WrongLine 1 ∷
    says "parts 5\n" EmptyList 1 ∷
    says "parts 17\n" WrongPartCount 1 ∷
    []

refusals_hold : map (λ (e : Example). drawing_refusal (ascii e.text)) refusals ≡ map (λ (e : Example). Err (at e.reason e.line)) refusals
unfolding drawing_refusal lines_of is_parts_line is_set_line line_of spaced decimal spelled numbers_in value_from set_lines_refusal some
refusals_hold = refl
