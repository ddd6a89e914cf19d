-- The report of a design record (01, "The report program"), byte for byte. Each figure of an order or a part is the number of failure orders that
-- 01, "Counting", defines; none is stated by a formula.
use Rattle.std.specs.Prelude.{List, ◌++◌, ℕ, ◌-◌, ◌^◌, length, get_or}
use Rattle.answer.specs.Refusals.{number_of}
use Rattle.theory_sets.specs.Structures.{listed}
use Rattle.theory_orders.specs.Counting.{count}
use Rattle.theory_orders.specs.Formulas.{path_count}
use Rattle.record_parts.specs.PartLists.{numbers_of}
use Rattle.theory_figures.specs.Figures.{domination}
use Rattle.codec.specs.Reads.{Read, found, refused}
use Rattle.record.specs.Records.{Design}
use Rattle.record_editions.specs.Editions.{whole_record}
use Rattle.text.specs.Texts.{decimal, signed, lines}
use Rattle.report_lines.specs.Lines.{head_line, figure_line, refused_line}

-- n, the count of minimal sets and the mark
unfoldable pub first_line : Design → List ℕ
first_line d = head_line d.parts.count (length d.sets) d.parts.mark

-- `order k`: in how many failure orders the k-th failure stops the machine
unfoldable pub order_line : Design → ℕ → List ℕ
order_line d k =
    figure_line "order" k (decimal (count d.parts.count (listed d.sets) (2 ^ d.parts.count - 1) k))

-- `dom k`: d(k)
unfoldable pub dom_line : Design → ℕ → List ℕ
dom_line d k =
    figure_line "dom" k (signed (domination d.parts.count (path_count d.parts.count (listed d.sets)) k))

-- `part`, for position i: its part number, and in how many failure orders its failure stops the machine
unfoldable pub part_line : Design → ℕ → List ℕ
part_line d i =
    figure_line "part" (get_or (numbers_of d.parts) (i - 1) 0) (decimal (count d.parts.count (listed d.sets) (2 ^ (i - 1)) 1))

-- the report of a design
unfoldable pub report_of : Design → List ℕ
report_of d =
    first_line d ++ (lines (order_line d) d.parts.count ++ (lines (dom_line d) d.parts.count ++ lines (part_line d) d.parts.count))

-- what is printed for what was read
abbrev pub printed_for : Read Design → List ℕ
printed_for (found d next) = report_of d
printed_for (refused r) = refused_line (number_of r.reason) r.place

-- what is printed for bytes: a record of either edition prints the report of its design, which says nothing of edition and retired numbers
unfoldable pub printed : List ℕ → List ℕ
printed bytes = printed_for (whole_record bytes)
