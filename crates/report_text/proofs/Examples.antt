-- 01's bridge report, the reports of a record in both editions, and the line of a refusal, computed by the definitions alone: the failure orders
-- are listed and counted.
-- Assumes nothing.
use mathlib.Core.Path.{◌≡◌, refl}
use mathlib.Core.List.{List, [], ◌∷◌, flat_map}
use Prim.Native.Nat.{ℕ}
use lib.Count.{ones, ones_in}
use lib.IntN.{pow, one}
use Rattle.numbers.specs.Counts.{choose}
use Rattle.numbers.specs.Tables.{tabulate}
use Rattle.theory_sums.specs.Sums.{sum, some, sum_below, sum_belowℤ}
use Rattle.theory_sets.specs.Masks.{has, holds}
use Rattle.theory_sets.specs.Structures.{listed}
use Rattle.theory_orders.specs.Orders.{inserted, orders, mask}
use Rattle.theory_orders.specs.Counting.{entries, stops, in_group, stops_as_kth, count}
use Rattle.theory_orders.specs.Formulas.{path_count}
use Rattle.codec.specs.Reading.{number_in, number_at}
use Rattle.theory_figures.specs.Figures.{domination}
use Rattle.codec.specs.FieldReads.{field_at, fields_at}
use Rattle.record_head.specs.Headings.{parts_at, head_at}
use Rattle.record_tail.specs.Tails.{retired_at, tail_at}
use Rattle.record.specs.Records.{misplaced, record_at}
use Rattle.record_editions.specs.Editions.{fresh_counts, second_there, stored_at, only_stored, only_record, whole_record}
use Rattle.text.specs.Texts.{ascii, spelled, decimal, signed, lines}
use Rattle.report_lines.specs.Lines.{head_line, rest_of_line, refused_line}
use Rattle.report_text.specs.Reports.{first_line, order_line, dom_line, part_line, report_of, printed}

-- 05 05 01 02 03 04 05 04 09 0E 12 15
abbrev bridge : List ℕ
bridge = 5 ∷ 5 ∷ 1 ∷ 2 ∷ 3 ∷ 4 ∷ 5 ∷ 4 ∷ 9 ∷ 14 ∷ 18 ∷ 21 ∷ []

bridge_report : printed bridge
    ≡ ascii "parts 5 sets 4 mark 5\norder 1 0\norder 2 24\norder 3 72\norder 4 24\norder 5 0\ndom 1 0\ndom 2 2\ndom 3 2\ndom 4 -5\ndom 5 2\npart 1 28\npart 2 28\npart 3 8\npart 4 28\npart 5 28\n"
unfolding printed report_of first_line head_line rest_of_line order_line dom_line part_line lines decimal spelled signed whole_record only_record only_stored stored_at second_there record_at head_at parts_at fields_at field_at misplaced holds number_at number_in count orders inserted flat_map stops_as_kth in_group has stops entries mask sum some listed domination path_count sum_below sum_belowℤ choose ones ones_in pow one
bridge_report = refl

-- two parts with the numbers 2 and 5 under the mark 7, and both are needed
numbers_report : printed (2 ∷ 7 ∷ 2 ∷ 5 ∷ 1 ∷ 3 ∷ [])
    ≡ ascii "parts 2 sets 1 mark 7\norder 1 2\norder 2 0\ndom 1 0\ndom 2 1\npart 2 1\npart 5 1\n"
unfolding printed report_of first_line head_line rest_of_line order_line dom_line part_line lines decimal spelled signed whole_record only_record only_stored stored_at second_there record_at head_at parts_at fields_at field_at misplaced holds number_at number_in count orders inserted flat_map stops_as_kth in_group has stops entries mask sum some listed domination path_count sum_below sum_belowℤ choose ones ones_in pow one
numbers_report = refl

-- the same record in edition 2, where parts 1 and 6 left: the text says nothing of that
edition_2_report : printed (0 ∷ 2 ∷ 2 ∷ 7 ∷ 2 ∷ 5 ∷ 1 ∷ 3 ∷ 2 ∷ 1 ∷ 6 ∷ 0 ∷ 0 ∷ 1 ∷ [])
    ≡ ascii "parts 2 sets 1 mark 7\norder 1 2\norder 2 0\ndom 1 0\ndom 2 1\npart 2 1\npart 5 1\n"
unfolding printed report_of first_line head_line rest_of_line order_line dom_line part_line lines decimal spelled signed whole_record only_record only_stored stored_at second_there record_at head_at parts_at fields_at field_at misplaced holds number_at number_in tail_at retired_at fresh_counts tabulate count orders inserted flat_map stops_as_kth in_group has stops entries mask sum some listed domination path_count sum_below sum_belowℤ choose ones ones_in pow one
edition_2_report = refl

-- the mark is 4 and a part number 5
refused_line_lem : printed (5 ∷ 4 ∷ 1 ∷ 2 ∷ 3 ∷ 4 ∷ 5 ∷ 4 ∷ 9 ∷ 14 ∷ 18 ∷ 21 ∷ []) ≡ ascii "refused 23 6\n"
unfolding printed refused_line decimal spelled whole_record only_record only_stored stored_at second_there record_at head_at parts_at fields_at field_at misplaced holds number_at number_in
refused_line_lem = refl
