-- Laws of the definitions: blocks are refused by nothing exactly where they are accepted check by check, and what the vectors of accepted blocks
-- are. Assumes nothing.
use mathlib.Core.Path.{◌≡◌, ap, ◌∙◌}
use mathlib.Core.Bool.{not}
use mathlib.Core.List.{List}
use mathlib.Core.Logic.{⊎_elim}
use Prim.Native.Nat.{ℕ, ◌+◌, ◌/◌, ◌≤◌, ◌<◌, zero-le}
use native.Mathlib.Nat.{le_trans, le_of_eq, mul-one}
use native.Mathlib.Omega.{arith}
use borrow.Author.Tests.{eqb-true, eq-eqb, ltb-false, le-ltb, not-false}
use lib.IntN.{ℤ, pos, nat_abs}
use lib.ListN.{length, get_or, drop, length-take, get_or-eq_default}
use Rattle.std.specs.Prelude.{Ok}
use Rattle.numbers.proofs.Bounds.{below_or_above}
use Rattle.answer.specs.declared.Reason.TheVariants.{WrongVectorLength, ManyParts}
use Rattle.answer.proofs.Outcomes.{refuse_accepted, refuse_passed, then_accepted, then_passed}
use Rattle.theory_blocks.specs.Blocks.{RisingCounts}
use Rattle.vector_kind.specs.declared.Kind.TheVariants.{PathCounts}
use Rattle.vector_conversion.specs.Vectors.{scaled_count, unit_of}
use Rattle.vector_conversion.specs.Accepted.{AcceptedVector}
use Rattle.vector_conversion.proofs.Acceptance.{accepted_vector}
use Rattle.blocks_checks.specs.Given.{size_at, start_of, block_vector, block_counts}
use Rattle.blocks_checks.specs.Refusals.{block_counts_refusal, blocks_refusal}
use Rattle.blocks_checks.specs.Accepted.{AcceptedBlocks}
use Rattle.blocks_checks.proofs.Given.{sizes_right, sizes_accepted, vectors_right, vectors_accepted}

module _ (r : ℕ) (table sizes : List ℕ) (vectors : List ℤ) where
  pub blocks_accepted : blocks_refusal r table sizes vectors ≡ Ok tt → AcceptedBlocks r table sizes vectors
  unfolding blocks_refusal block_counts_refusal
  blocks_accepted h =
      let structured = then_accepted _ _ h in
      let enough = refuse_accepted _ _ _ _ structured.1 in
      let sized = then_accepted _ _ enough.1 in
      let long = refuse_accepted _ _ _ _ sized.1 in
      let judged = then_accepted _ _ long.1 in
      let few = refuse_accepted _ _ _ _ judged.1 in
      record {
        table = structured.0;
        enough = eqb-true (length sizes) r (not-false _ enough.0);
        sized = sizes_right sizes r sized.0;
        long = eqb-true (length vectors) (start_of sizes r) (not-false _ long.0);
        judged = vectors_right sizes vectors r judged.0;
        few = ltb-false 16 _ few.0;
      }

  pub accepted_blocks : AcceptedBlocks r table sizes vectors → blocks_refusal r table sizes vectors ≡ Ok tt
  unfolding blocks_refusal block_counts_refusal
  accepted_blocks a =
      then_passed _ a.table
      ∙ refuse_passed _ WrongVectorLength 0 _ (ap not (eq-eqb _ _ a.enough))
      ∙ then_passed _ (sizes_accepted sizes r a.sized)
      ∙ refuse_passed _ WrongVectorLength 0 _ (ap not (eq-eqb _ _ a.long))
      ∙ then_passed _ (vectors_accepted sizes vectors r a.judged)
      ∙ refuse_passed _ ManyParts 0 (Ok tt) (le-ltb 16 _ a.few)

-- ---- the path counts of a block

-- there are none of a size beyond the block's own
pub count_beyond : (sizes : List ℕ) (vectors : List ℤ) (b j : ℕ) → size_at sizes b < j → block_counts sizes vectors b j ≡ 0
unfolding scaled_count unit_of
count_beyond sizes vectors b j beyond =
    ap (λ (z : ℤ). nat_abs z / 1)
    (get_or-eq_default (block_vector sizes vectors b) (pos 0) (omega (arith, length-take (size_at sizes b + 1) (drop (start_of sizes b) vectors))))

module _ {r : ℕ} {table sizes : List ℕ} {vectors : List ℤ} (accepted : AcceptedBlocks r table sizes vectors) (b : ℕ) (below : b < r) where
  vector_right : AcceptedVector PathCounts (size_at sizes b) (block_vector sizes vectors b)
  vector_right = accepted_vector PathCounts (size_at sizes b) (block_vector sizes vectors b) (accepted.judged b below)

  pub vector_rises : RisingCounts (size_at sizes b) (block_counts sizes vectors b)
  vector_rises =
      let counts = vector_right.counts in
      record {
        most = λ j. ⊎_elim (λ l. le_trans (le_of_eq (count_beyond sizes vectors b j l)) zero-le) (counts.most j) (below_or_above (size_at sizes b) j);
        none = counts.none;
        all = counts.all;
        rises = counts.rises;
      }

  -- a count is the entry of its size
  pub entry_count_lem : (j : ℕ) → j ≤ size_at sizes b → get_or (block_vector sizes vectors b) j (pos 0) ≡ pos (block_counts sizes vectors b j)
  unfolding scaled_count unit_of
  entry_count_lem j inside = vector_right.whole j inside ∙ ap pos (mul-one (block_counts sizes vectors b j))
