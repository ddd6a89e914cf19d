-- `figures_counts::add_rows` meets its contract: row after row gets the sets of the word that have its part.
-- Assumes nothing.
use mathlib.Core.Path.{◌≡◌}
use mathlib.Core.List.{List}
use Prim.Native.Nat.{ℕ, ◌+◌, ◌*◌, ◌/◌, ◌%◌}
use lib.ListN.{get_or}
use Rattle.numbers.proofs.Tables.{filled}
use Rattle.theory_sets.specs.Masks.{size, meet}
use Rattle.structure_words.specs.Words.{word_of}
use Rattle.figures_counts.specs.Rows.{has_part}
use Rattle.figures_counts.specs.Inside.{in_word}
use Rattle.figures_counts.proofs.add_rows.Given as goal

-- what a count becomes
unfoldable pub more : List ℕ → ℕ → ℕ → ℕ → ℕ
more rows word at i = get_or rows i 0 + in_word (meet word (word_of (has_part (i / 17)) at)) (size at) (i % 17)

abbrev pub invariant-loop-part : goal.invariant-loop-part
invariant-loop-part l = l.rows ≡ filled (more l.initial.rows l.word l.at) l.initial.rows (17 * l.part)
