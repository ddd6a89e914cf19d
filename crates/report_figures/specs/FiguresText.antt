-- The text of a report, by the part list, the number of minimal sets and the figures (01, "The report program").
use Rattle.std.specs.Prelude.{cond, List, [], ◌++◌, ℕ, ◌-◌, leb, ℤ, pos, get_or}
use Rattle.record_numbers.specs.Numbering.{most_parts}
use Rattle.record_parts.specs.declared.PartList.{PartList}
use Rattle.text.specs.Texts.{ascii, decimal, signed, lines}
use Rattle.report_lines.specs.Lines.{head_line, rest_of_line}

-- line k of a vector, whose first cell has the index 0
unfoldable pub cell_line : List ℕ → List ℤ → ℕ → List ℕ
cell_line word cells k = word ++ rest_of_line k (signed (get_or cells (k - 1) (pos 0)))

-- the line of a position, by the importances
unfoldable pub count_line : PartList → List ℕ → ℕ → List ℕ
count_line list counts i = ascii "part" ++ rest_of_line (get_or list.numbers (i - 1) 0) (decimal (get_or counts (i - 1) 0))

-- the first line, and the lines of the orders, of the dominations and of the parts
unfoldable pub lines_by : PartList → ℕ → List ℤ → List ℤ → List ℕ → List ℕ
lines_by list sets orders dominations parts =
    head_line list.count sets list.mark
    ++ (lines (cell_line (ascii "order") orders) list.count
    ++ (lines (cell_line (ascii "dom") dominations) list.count ++ lines (count_line list parts) list.count))

-- the whole text; a list of more than 16 parts has none
unfoldable pub text_by : PartList → ℕ → List ℤ → List ℤ → List ℕ → List ℕ
text_by list sets orders dominations parts = cond (leb list.count most_parts) (lines_by list sets orders dominations parts) []
