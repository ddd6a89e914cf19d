-- `report_figures::put_lines` meets its contract: the first line and the three blocks of lines are put one after the other.
-- Assumes nothing.
use mathlib.Core.Path.{◌≡◌}
use mathlib.Core.List.{List, ◌++◌}
use Prim.Native.Nat.{ℕ, ◌+◌, ◌*◌, ◌^◌, ◌≤◌, ◌<◌}
use native.Mathlib.Omega.{arith}
use lib.IntN.{ℤ}
use lib.ListN.{length}
use mir.Syntax.{w64}
use mir.Val.{Fits}
use Rattle.record_numbers.specs.Numbering.{most_parts}
use Rattle.record_parts.specs.declared.PartList.{PartList}
use Rattle.answer.specs.Outcome.{outcome}
use Rattle.answer.specs.Placed.{placed}
use Rattle.text.specs.Texts.{ascii, lines}
use Rattle.report_lines.specs.Lines.{head_line}
use Rattle.report_lines.proofs.Lines.{head_few}
use Rattle.answer.proofs.Forms.{Wrote, wrote_first, wrote_more, wrote_same, wrote_room}
use Rattle.report_figures.specs.FiguresText.{cell_line, count_line, lines_by}
use Rattle.report_figures.proofs.Blocks.{blocks_joined}
use Rattle.report_figures.proofs.put_lines.Goals as goal

module _ (text : List ℕ) (list : PartList) (sets : ℕ) (signature domination : List ℤ) (few : list.count ≤ most_parts) (room : 4096 ≤ length text) where
  -- what is put after each call
  headed : (one : ℕ) (first : List ℕ) → Fits w64 sets → list.mark < 2 ^ 64 → outcome one first ≡ placed text 0 (head_line list.count sets list.mark)
      → Wrote text 0 (head_line list.count sets list.mark) 79 first one
  headed one first sets-fit mark-fits put =
      wrote_first text 0 (head_line list.count sets list.mark) 79 first one (head_few list.count sets list.mark (omega arith) sets-fit (omega (arith, mark-fits))) (omega arith) put

  ordered : (one two : ℕ) (first second : List ℕ) → Wrote text 0 (head_line list.count sets list.mark) 79 first one
      → outcome two second ≡ placed first one (lines (cell_line (ascii "order") signature) list.count)
      → length (lines (cell_line (ascii "order") signature) list.count) ≤ 64 * list.count
      → Wrote text 0 (head_line list.count sets list.mark ++ lines (cell_line (ascii "order") signature) list.count) (79 + 64 * list.count) second two
  ordered one two first second before put short = wrote_more before _ _ _ _ short (omega arith) put

  dominated : (two three : ℕ) (second third : List ℕ)
      → Wrote text 0 (head_line list.count sets list.mark ++ lines (cell_line (ascii "order") signature) list.count) (79 + 64 * list.count) second two
      → outcome three third ≡ placed second two (lines (cell_line (ascii "dom") domination) list.count)
      → length (lines (cell_line (ascii "dom") domination) list.count) ≤ 64 * list.count
      → Wrote text 0 (head_line list.count sets list.mark ++ lines (cell_line (ascii "order") signature) list.count ++ lines (cell_line (ascii "dom") domination) list.count)
      (79 + 64 * list.count + 64 * list.count) third three
  dominated two three second third before put short = wrote_more before _ _ _ _ short (omega arith) put

pub put_cells-dominations-requires : goal.put_cells-dominations-requires
put_cells-dominations-requires c =
    let a = c.args in
    let head = headed a.text.now a.list a.sets a.signature.now a.domination.now c.requires.count_le_most_parts c.requires.in_bounds _ _ c.ranges.sets (omega arith) c.put_first_line-orders.ensures in
    (omega arith, (omega arith, (c.requires.count_le_most_parts, wrote_room head (64 * a.list.count) (omega arith))))

pub put_cells-parts-requires : goal.put_cells-parts-requires
put_cells-parts-requires c =
    let a = c.args in
    let head = headed a.text.now a.list a.sets a.signature.now a.domination.now c.requires.count_le_most_parts c.requires.in_bounds _ _ c.ranges.sets (omega arith) c.put_first_line-orders.ensures in
    let orders = ordered a.text.now a.list a.sets a.signature.now a.domination.now c.requires.count_le_most_parts c.requires.in_bounds _ _ _ _ head
    c.put_cells-dominations.ensures.text_after c.put_cells-dominations.ensures.count_len_bound in
    (omega arith, (omega arith, (c.requires.count_le_most_parts, wrote_room orders (64 * a.list.count) (omega arith))))

pub put_counts-requires : goal.put_counts-requires
put_counts-requires c =
    let a = c.args in
    let head = headed a.text.now a.list a.sets a.signature.now a.domination.now c.requires.count_le_most_parts c.requires.in_bounds _ _ c.ranges.sets (omega arith) c.put_first_line-orders.ensures in
    let orders = ordered a.text.now a.list a.sets a.signature.now a.domination.now c.requires.count_le_most_parts c.requires.in_bounds _ _ _ _ head
    c.put_cells-dominations.ensures.text_after c.put_cells-dominations.ensures.count_len_bound in
    let parts = dominated a.text.now a.list a.sets a.signature.now a.domination.now c.requires.count_le_most_parts c.requires.in_bounds _ _ _ _ orders
    c.put_cells-parts.ensures.text_after c.put_cells-parts.ensures.count_len_bound in
    record { count_le_most_parts = c.requires.count_le_most_parts; count_in_bounds = wrote_room parts (64 * a.list.count) (omega arith) }

pub returns : goal.returns
unfolding lines_by
returns c =
    let a = c.args in
    let n = a.list.count in
    let head = headed a.text.now a.list a.sets a.signature.now a.domination.now c.requires.count_le_most_parts c.requires.in_bounds _ _ c.ranges.sets (omega arith) c.put_first_line-orders.ensures in
    let orders = ordered a.text.now a.list a.sets a.signature.now a.domination.now c.requires.count_le_most_parts c.requires.in_bounds _ _ _ _ head
    c.put_cells-dominations.ensures.text_after c.put_cells-dominations.ensures.count_len_bound in
    let parts = dominated a.text.now a.list a.sets a.signature.now a.domination.now c.requires.count_le_most_parts c.requires.in_bounds _ _ _ _ orders
    c.put_cells-parts.ensures.text_after c.put_cells-parts.ensures.count_len_bound in
    let s4 = wrote_more parts (lines (count_line a.list a.importance.now) n) (64 * n) _ _ c.put_counts.ensures.count_len_bound
    (omega (arith, c.requires.count_le_most_parts, c.requires.in_bounds)) c.put_counts.ensures.text_after in
    let whole = wrote_same s4 _ (blocks_joined (head_line n a.sets a.list.mark) (lines (cell_line (ascii "order") a.signature.now) n) (lines (cell_line (ascii "dom") a.domination.now) n) (lines (count_line a.list a.importance.now) n)) in
    record { text_after = whole.wrote; importance_len_bound = omega (arith, whole.short, c.requires.count_le_most_parts) }
