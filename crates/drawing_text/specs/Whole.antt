-- A text of the drawing tool described as a whole, and not line by line (02, §1).
use Rattle.std.specs.Prelude.{◌≡◌, true, false, ℕ, ◌≤◌, drop, length}
use mathlib.Core.List.{List, [], ◌∷◌, ◌++◌, Memᴰ}
use Rattle.theory_orders.specs.Antichains.{most_sets}
use Rattle.record_lines.specs.Changes.{every}
use Rattle.record_lines.specs.Names.{repeated}
use Rattle.record_numbers.specs.Numbering.{names}
use Rattle.drawing_text.specs.Lines.{lines_of}
use Rattle.drawing_text.specs.Forms.{parts_word, line_of, set_lines, numbers_in}
use Rattle.drawing_text.specs.Sets.{within}

-- what is right on a set line of n parts: at least one position, each of them 1 to n, and none twice
abbrev pub RightPositions : ℕ → List ℕ → Type 0
RightPositions n positions = (1 ≤ length positions) × (every (within n) positions ≡ true) × (repeated positions ≡ false)

-- A text that is accepted: the line `parts n`, for 1 to 16 parts, and then 1 to 12,870 set lines, each with right positions.
pub record WellDrawn (text : List ℕ) : Type 0 where
  pub parts : ℕ
  pub sets : List (List ℕ)
  pub some : 1 ≤ parts
  pub few : parts ≤ 16
  pub any_set : 1 ≤ length sets
  pub most : length sets ≤ most_sets
  pub right : (positions : List ℕ) → Memᴰ positions sets → RightPositions parts positions
  pub whole : text ≡ line_of parts_word (parts ∷ []) ++ set_lines sets

-- each set line of a text stands in another text too, its positions in whatever order
abbrev pub Redrawn : List ℕ → List ℕ → Type 0
Redrawn text other =
    (line : List ℕ) → Memᴰ line (drop 1 (lines_of text))
    → (same : List ℕ) × Memᴰ same (drop 1 (lines_of other)) × ((position : ℕ) → names position (numbers_in line) ≡ names position (numbers_in same))
