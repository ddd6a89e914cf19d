-- How a record is written as a text of the drawing tool, and what comes back of it (02, §1).
use Rattle.std.specs.Prelude.{List, [], ◌∷◌, ◌++◌, map, ℕ, ◌+◌, take, Ok, Err}
use Rattle.answer.specs.Outcome.{Outcome, delivered, Numbered}
use Rattle.numbers.specs.Tables.{tabulate}
use Rattle.codec.specs.Reads.{Read, found, refused}
use Rattle.record_parts.specs.PartLists.{list_of}
use Rattle.record.specs.Records.{Design, design}
use Rattle.record_editions.specs.Editions.{whole_record}
use Rattle.drawing_text.specs.Forms.{parts_word, line_of, set_lines}
use Rattle.drawing_text.specs.Sets.{positions_of}
use Rattle.drawing_text.specs.Drawings.{record_of_drawing}

-- the lines of sets, each with its positions ascending
abbrev pub lines_of_sets : List ℕ → List ℕ
lines_of_sets sets = set_lines (map positions_of sets)

-- the text of n parts and these sets
abbrev pub text_of : ℕ → List ℕ → List ℕ
text_of n sets = line_of parts_word (n ∷ []) ++ lines_of_sets sets

-- the text of a design: its sets ascend as the design has them
unfoldable pub drawing_of : Design → List ℕ
drawing_of d = text_of d.parts.count d.sets

-- the text of a record of either edition, for a lent buffer: the reader's refusal, or the text of its design or 11
abbrev pub drawing_read : Read Design → List ℕ → Outcome Numbered (List ℕ)
drawing_read (refused r) buffer = delivered (Err r) [] buffer
drawing_read (found d next) buffer = delivered (Ok tt) (drawing_of d) buffer

unfoldable pub drawing_of_record : List ℕ → List ℕ → Outcome Numbered (List ℕ)
drawing_of_record bytes buffer = drawing_read (whole_record bytes) buffer

-- ---- there and back

-- what stands in front of the buffer of a call that wrote so many bytes
abbrev pub wrote : Outcome Numbered (List ℕ) → ℕ → List ℕ
wrote left count = take count left.buffer

-- the text that a call wrote of a record, and the record that a second call wrote of that text
abbrev pub text_there : List ℕ → List ℕ → ℕ → List ℕ
text_there bytes text_buffer text_bytes = wrote (drawing_of_record bytes text_buffer) text_bytes

abbrev pub record_back : List ℕ → List ℕ → ℕ → List ℕ → ℕ → List ℕ
record_back bytes text_buffer text_bytes record_buffer record_bytes = wrote (record_of_drawing (text_there bytes text_buffer text_bytes) record_buffer) record_bytes

-- what is read back of a design's text: the same sets, and the parts numbered 1 to n again, with mark n
abbrev pub renumbered : Design → Design
renumbered d = design (list_of d.parts.count (tabulate d.parts.count (λ i. i + 1))) d.sets
