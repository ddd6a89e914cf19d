-- Blocks that nothing refuses: the rows made of them are rows of both states, and what is worked out by their rows and words is what their vectors
-- and table say. Assumes nothing.
use mathlib.Core.Path.{◌≡◌, refl, ap, ap₂, ◌∙◌}
use mathlib.Core.List.{List}
use Prim.Native.Nat.{ℕ, ◌+◌, ◌-◌, ◌≤◌, ◌<◌}
use native.Mathlib.Nat.{le_trans, le_of_eq, add-zero, zero-sub}
use native.Mathlib.Omega.{arith}
use lib.IntN.{ℤ, pos}
use lib.ListN.{length, take}
use Rattle.std.specs.Prelude.{Ok}
use Rattle.numbers.specs.Counts.{choose}
use Rattle.numbers.specs.Tables.{tabulate}
use Rattle.numbers.proofs.Counts.{choose_above}
use Rattle.numbers.proofs.Tables.{take_tabulate}
use Rattle.theory_sets.specs.Tables.{in_table}
use Rattle.structure_words.specs.Words.{in_words, words_of}
use Rattle.structure_words.proofs.Words.{words_say}
use Rattle.structure.proofs.Acceptance.{accepted_table}
use Rattle.theory_blocks.specs.Blocks.{count_of_blocks, parts_in}
use Rattle.theory_blocks.proofs.Whole.{whole_same, whole_given}
use Rattle.blocks_checks.specs.Given.{size_at, start_of, block_counts}
use Rattle.blocks_checks.specs.Refusals.{blocks_refusal}
use Rattle.blocks_checks.specs.Accepted.{AcceptedBlocks}
use Rattle.blocks_checks.proofs.Claims.{blocks_accepted, count_beyond, vector_rises}
use Rattle.blocks.specs.Whole.{counts_of_blocks}
use Rattle.blocks.specs.Inside.{rows_of, row_at, stopped_of, stopped_at, BothRows}
use Rattle.blocks.proofs.Rows.{rows_row}
use Rattle.blocks.proofs.Folds.{counts_over, over}

module _ (table sizes : List ℕ) (vectors : List ℤ) (judged : blocks_refusal (length sizes) table sizes vectors ≡ Ok tt) where
  accepted : AcceptedBlocks (length sizes) table sizes vectors
  accepted = blocks_accepted (length sizes) table sizes vectors judged

  pub blocks_few : length sizes ≤ 16
  blocks_few = (accepted_table (length sizes) table accepted.table).few

  pub sizes_few : (b : ℕ) → b < length sizes → size_at sizes b ≤ 16
  sizes_few b below = (accepted.sized b below).1

  pub vectors_long : length vectors ≡ start_of sizes (length sizes)
  vectors_long = accepted.long

  module _ (running : List (List ℕ)) (is-running : running ≡ rows_of (length sizes) (block_counts sizes vectors)) where
    running_row : (b : ℕ) → b < length sizes → (j : ℕ) → row_at running b j ≡ block_counts sizes vectors b j
    running_row b below =
        rows_row (length sizes) (block_counts sizes vectors) blocks_few running is-running b below (λ j h.
        count_beyond sizes vectors b j (omega (arith, sizes_few b below)))

    pub running_most : (b : ℕ) → b < length sizes → (j : ℕ) → row_at running b j ≤ choose (size_at sizes b) j
    running_most b below j = le_trans (le_of_eq (running_row b below j)) ((vector_rises accepted b below).most j)

    pub both_rows : (stopped : List (List ℕ)) → stopped ≡ rows_of (length sizes) (stopped_at sizes running) → BothRows sizes running stopped
    unfolding stopped_at stopped_of
    both_rows stopped is-stopped = record {
      blocks = blocks_few;
      few = accepted.few;
      most = running_most;
      rest = λ b below.
          rows_row (length sizes) _ blocks_few stopped is-stopped b below (λ j h.
          ap (λ (u : ℕ). u - row_at running b j) (choose_above (size_at sizes b) j (omega (arith, sizes_few b below))) ∙ zero-sub (row_at running b j));
    }

    -- the counts by the rows and the words
    pub counts_whole : (words : List ℕ) → words ≡ words_of (in_table table) → (j : ℕ)
        → counts_over sizes running (length sizes) (over words 0) j ≡ count_of_blocks (size_at sizes) (block_counts sizes vectors) (length sizes) (in_table table) j
    counts_whole words is-words j =
        whole_same (size_at sizes) (row_at running) (length sizes) (over words 0) (in_table table) (λ a h.
        ap (in_words words) (add-zero a) ∙ words_say (length sizes) (in_table table) words blocks_few is-words a h) j
        ∙ whole_given (size_at sizes) (size_at sizes) (row_at running) (block_counts sizes vectors) (length sizes) (λ b below. refl) running_row (in_table table) j

-- the first of the counts, up to all parts
pub counts_handed : (r : ℕ) (table sizes : List ℕ) (vectors : List ℤ) → AcceptedBlocks r table sizes vectors → (counts : List ℤ)
    → counts ≡ tabulate 17 (λ j. pos (count_of_blocks (size_at sizes) (block_counts sizes vectors) (length sizes) (in_table table) j))
    → (end : ℕ) → end ≡ parts_in (size_at sizes) r + 1 → take end counts ≡ counts_of_blocks r table sizes vectors
counts_handed r table sizes vectors accepted counts is end all =
    ap (take end) is
    ∙ take_tabulate end 17 _ (omega (arith, accepted.few))
    ∙ ap₂ (λ (k n : ℕ). tabulate k (λ j. pos (count_of_blocks (size_at sizes) (block_counts sizes vectors) n (in_table table) j))) all accepted.enough
