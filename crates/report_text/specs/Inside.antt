-- What the private functions do: a reader of the promises may pass this file over.
use Rattle.std.specs.Prelude.{Bool, List, ◌++◌, ℕ, ◌-◌, get_or}
use Rattle.theory_orders.specs.Formulas.{path_count}
use Rattle.record_parts.specs.declared.PartList.{PartList}
use Rattle.theory_figures.specs.Figures.{signature, domination, importance}
use Rattle.text.specs.Texts.{decimal, signed, lines}
use Rattle.report_lines.specs.Lines.{head_line, figure_line}

-- the text of a structure, with a part list and the number of its minimal sets
unfoldable pub table_text : PartList → ℕ → (ℕ → Bool) → List ℕ
table_text list sets works =
    head_line list.count sets list.mark
    ++ (lines (λ k. figure_line "order" k (signed (signature list.count (path_count list.count works) k))) list.count
    ++ (lines (λ k. figure_line "dom" k (signed (domination list.count (path_count list.count works) k))) list.count
    ++ lines (λ i. figure_line "part" (get_or list.numbers (i - 1) 0) (decimal (importance list.count works i))) list.count))
