-- What is promised of a machine made of blocks, of tables, sizes and vectors that are accepted: every machine assembled so has the path counts that are
-- written, these are what 003's equations (12) and (13) give, and they are accepted as path counts again. Assumes nothing.
use mathlib.Core.Path.{◌≡◌, refl, sym, ap, ◌∙◌, subst}
use mathlib.Core.Bool.{Bool, false}
use mathlib.Core.List.{List, [], ◌∷◌}
use mathlib.Core.Logic.{◌⊎◌, inl, inr}
use Prim.Native.Nat.{ℕ, ◌+◌, ◌≤◌, ◌<◌}
use native.Mathlib.Nat.{le_trans, zero-add, zero-lt-suc}
use native.Mathlib.Omega.{arith}
use lib.IntN.{ℤ, pos, nat_abs}
use lib.ListN.{get_or, length, take, drop}
use lib.Seq.{take-length}
use Rattle.std.specs.Prelude.{Ok}
use Rattle.numbers.specs.Counts.{choose}
use Rattle.numbers.specs.Tables.{tabulate}
use Rattle.numbers.proofs.Bounds.{below_or_above}
use Rattle.numbers.proofs.Tables.{tabulate_at, tabulate_same, tabulate_unique}
use Rattle.theory_sums.specs.Sums.{sum_below}
use Rattle.theory_sums.proofs.Sums.{sum_below_same, sum_below_ones, sum_below_term}
use Rattle.theory_sets.specs.Masks.{has}
use Rattle.theory_sets.specs.Structures.{Semicoherent}
use Rattle.theory_sets.specs.Tables.{in_table}
use Rattle.theory_orders.specs.Formulas.{path_count}
use Rattle.theory_figures.specs.Figures.{path_counts}
use Rattle.theory_figures.proofs.Sizes.{path_count_beyond}
use Rattle.theory_blocks.specs.Assembly.{Assembly, assembled}
use Rattle.theory_blocks.specs.Blocks.{product, in_state, RisingCounts}
use Rattle.theory_blocks.specs.Formula.{reflected, decomposed}
use Rattle.theory_blocks.proofs.Whole.{whole_given}
use Rattle.theory_blocks.proofs.Rising.{whole_rises}
use Rattle.theory_blocks.proofs.Formula.{rising_decomposed, rising_only}
use Rattle.theory_blocks.proofs.Assembled.{assembled_counts}
use Rattle.theory_blocks.proofs.Machines.{assembled_parts, assembled_semicoherent}
use Rattle.theory_blocks.proofs.Cases.{whole_block, in_series, in_parallel, single_parts}
use Rattle.structure.proofs.Acceptance.{accepted_table}
use Rattle.vector_kind.specs.declared.Kind.TheVariants.{PathCounts}
use Rattle.vector_conversion.specs.Vectors.{figure, vector_refusal}
use Rattle.vector_conversion.proofs.Acceptance.{vector_accepted}
use Rattle.vector_conversion.proofs.Conversions.{figures_accepted}
use Rattle.blocks_checks.specs.Accepted.{AcceptedBlocks}
use Rattle.blocks_checks.specs.Given.{size_at, start_of, block_vector, block_counts}
use Rattle.blocks_checks.specs.Refusals.{blocks_refusal}
use Rattle.blocks_checks.proofs.Claims.{blocks_accepted, vector_rises, entry_count_lem, count_beyond}
use Rattle.blocks.specs.Whole.{parts_of_blocks, count_given, counts_of_blocks, HaveCounts}

module _ (r : ℕ) (table sizes : List ℕ) (vectors : List ℤ) (accepted : blocks_refusal r table sizes vectors ≡ Ok tt) where
  right : AcceptedBlocks r table sizes vectors
  right = blocks_accepted r table sizes vectors accepted

  coherent : Semicoherent r (in_table table)
  coherent = (accepted_table r table right.table).semicoherent

  -- ---- every machine that is assembled

  -- a machine that has a block's path counts, size by size
  same_counts : (blocks : ℕ → ℕ → Bool) → HaveCounts r sizes vectors blocks → (b : ℕ) → b < r → (j : ℕ)
      → block_counts sizes vectors b j ≡ path_count (size_at sizes b) (blocks b) j
  same_counts blocks have b l j = cases (below_or_above (size_at sizes b) j)
    where
      cases : (size_at sizes b < j) ⊎ (j ≤ size_at sizes b) → block_counts sizes vectors b j ≡ path_count (size_at sizes b) (blocks b) j
      cases (inl beyond) =
          count_beyond sizes vectors b j beyond
          ∙ sym (path_count_beyond (size_at sizes b) (blocks b) j beyond)
      cases (inr within) =
          ap nat_abs (sym (entry_count_lem right b l j within) ∙ ap (λ (xs : List ℤ). get_or xs j (pos 0)) (sym (have b l))
          ∙ tabulate_at (size_at sizes b + 1) (λ i. pos (path_count (size_at sizes b) (blocks b) i)) j (pos 0) (omega arith))

  -- "The answer must be that of every machine assembled from that table and any blocks having those counts, the blocks sharing no part."
  pub every_assembly : (n : ℕ) (assembly : Assembly n r (size_at sizes)) (blocks : ℕ → ℕ → Bool) → HaveCounts r sizes vectors blocks
      → counts_of_blocks r table sizes vectors ≡ path_counts n (assembled assembly (in_table table) blocks)
  every_assembly n assembly blocks have =
      ap (λ (m : ℕ). tabulate (m + 1) (λ j. pos (count_given r table sizes vectors j))) (sym (assembled_parts assembly))
      ∙ tabulate_same (n + 1) _ _ (λ j l. ap pos
      (whole_given (size_at sizes) (size_at sizes) (block_counts sizes vectors) (λ b. path_count (size_at sizes b) (blocks b)) r (λ b k. refl)
      (same_counts blocks have) (in_table table) j
      ∙ sym (assembled_counts assembly blocks (in_table table) j)))

  -- it is a machine: semicoherent, if every block is
  pub every_semicoherent : (n : ℕ) (assembly : Assembly n r (size_at sizes)) (blocks : ℕ → ℕ → Bool)
      → ((b : ℕ) → b < r → Semicoherent (size_at sizes b) (blocks b)) → Semicoherent n (assembled assembly (in_table table) blocks)
  every_semicoherent n assembly blocks each = assembled_semicoherent assembly (in_table table) blocks coherent each

  -- ---- equations (12) and (13), also for counts that no block has

  -- "what equations 12 and 13 there give": with u = x - 1, the sum of φ(n-k) u^k of what is written is (12), at every whole number u
  pub written_decomposed : (u : ℕ) → reflected (parts_of_blocks r sizes) (count_given r table sizes vectors) u ≡ decomposed (size_at sizes) (block_counts sizes vectors) r (in_table table) u
  written_decomposed = rising_decomposed (size_at sizes) (block_counts sizes vectors) r (λ b l. vector_rises right b l) (in_table table)

  -- and nothing else is
  pub written_only : (φ : ℕ → ℕ) → ((u : ℕ) → reflected (parts_of_blocks r sizes) φ u ≡ decomposed (size_at sizes) (block_counts sizes vectors) r (in_table table) u)
      → (j : ℕ) → j ≤ parts_of_blocks r sizes → φ j ≡ count_given r table sizes vectors j
  written_only = rising_only (size_at sizes) (block_counts sizes vectors) r (λ b l. vector_rises right b l) (in_table table)

  -- ---- what is written passes 13 and 14

  pub written_rises : RisingCounts (parts_of_blocks r sizes) (count_given r table sizes vectors)
  written_rises = whole_rises (size_at sizes) (block_counts sizes vectors) r (λ b l. vector_rises right b l) (in_table table) coherent

  some_parts : 1 ≤ parts_of_blocks r sizes
  some_parts =
      let first : 0 < r = (accepted_table r table right.table).some in
      le_trans (right.sized 0 first).0 (sum_below_term (size_at sizes) 0 r first)

  -- so it is accepted as path counts
  pub written_accepted : vector_refusal PathCounts (parts_of_blocks r sizes) (counts_of_blocks r table sizes vectors) ≡ Ok tt
  unfolding figure
  written_accepted =
      vector_accepted PathCounts (parts_of_blocks r sizes) (counts_of_blocks r table sizes vectors)
      (figures_accepted (parts_of_blocks r sizes) some_parts right.few (count_given r table sizes vectors) (record {
        most = λ j l. written_rises.most j;
        none = written_rises.none;
        all = written_rises.all;
        rises = written_rises.rises;
      }) PathCounts)

  -- ---- blocks of one part

  -- they are the parts of the table, and the counts are its own
  pub blocks_of_one : ((b : ℕ) → b < r → size_at sizes b ≡ 1) → counts_of_blocks r table sizes vectors ≡ path_counts r (in_table table)
  blocks_of_one one =
      ap (λ (m : ℕ). tabulate (m + 1) (λ j. pos (count_given r table sizes vectors j))) (sum_below_same (size_at sizes) (λ b. 1) r one ∙ sum_below_ones r)
      ∙ tabulate_same (r + 1) _ _ (λ j l. ap pos
      (single_parts (size_at sizes) (block_counts sizes vectors) r one
      (λ b k. subst (λ (n : ℕ). RisingCounts n (block_counts sizes vectors b)) (one b k) (vector_rises right b k)) (in_table table) j))

-- ---- one block that is the whole

module _ (table sizes : List ℕ) (vectors : List ℤ) (accepted : blocks_refusal 1 table sizes vectors ≡ Ok tt) where
  only : AcceptedBlocks 1 table sizes vectors
  only = blocks_accepted 1 table sizes vectors accepted

  -- all entries are its vector
  only_vector : (length vectors ≡ size_at sizes 0 + 1) × (block_vector sizes vectors 0 ≡ vectors)
  unfolding start_of sum_below
  only_vector =
      let long : length vectors ≡ size_at sizes 0 + 1 = only.long ∙ zero-add _ in
      (long, ap (λ (k : ℕ). take k (drop 0 vectors)) (sym long) ∙ take-length vectors)

  -- the counts that are written are its own
  pub block_alone : counts_of_blocks 1 table sizes vectors ≡ vectors
  unfolding sum_below
  block_alone =
      let machine = (accepted_table 1 table only.table).semicoherent in
      sym (tabulate_unique (parts_of_blocks 1 sizes + 1) _ vectors (pos 0)
      (only_vector.0 ∙ ap (λ (n : ℕ). n + 1) (sym (zero-add (size_at sizes 0)))) (λ j l.
      ap (λ (xs : List ℤ). get_or xs j (pos 0)) (sym only_vector.1) ∙ entry_count_lem only 0 (zero-lt-suc 0) j (omega arith)
      ∙ ap pos (sym (whole_block (size_at sizes) (block_counts sizes vectors) (in_table table) machine.empty machine.full j))))

-- ---- two blocks

module _ (sizes : List ℕ) (vectors : List ℤ) (j : ℕ) where
  -- in series, byte 08: the product of their counts
  pub two_in_series : count_given 2 (8 ∷ []) sizes vectors j
      ≡ product (block_counts sizes vectors 1) (block_counts sizes vectors 0) j
  unfolding in_table has
  two_in_series = in_series (size_at sizes) (block_counts sizes vectors) (in_table (8 ∷ [])) refl refl refl refl j

  -- in parallel, byte 0E: all sets but those on which both are stopped
  pub two_in_parallel : blocks_refusal 2 (14 ∷ []) sizes vectors ≡ Ok tt
      → count_given 2 (14 ∷ []) sizes vectors j
      + product (in_state false (size_at sizes 1) (block_counts sizes vectors 1)) (in_state false (size_at sizes 0) (block_counts sizes vectors 0)) j
      ≡ choose (size_at sizes 0 + size_at sizes 1) j
  unfolding in_table has
  two_in_parallel accepted =
      in_parallel (size_at sizes) (block_counts sizes vectors) (λ b l. (vector_rises (blocks_accepted 2 (14 ∷ []) sizes vectors accepted) b l).most)
      (in_table (14 ∷ [])) refl refl refl refl j
