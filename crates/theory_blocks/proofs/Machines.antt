-- Assembled machines: the whole has as many parts as its blocks together; it is semicoherent if the structure of the blocks and every block are; and
-- for blocks of any sizes there is an assembly, with the blocks in a row. Assumes nothing.
use mathlib.Core.Path.{◌≡◌, refl, sym, ap, ◌∙◌}
use mathlib.Core.Bool.{Bool, true, cond}
use mathlib.Core.Logic.{◌⊎◌, inl, inr}
use Prim.Native.Nat.{ℕ, zero, suc, ◌+◌, ◌-◌, ◌≤◌, ◌<◌}
use native.Mathlib.Nat.{not-suc-le-zero, le_of_suc-le-suc, eq-or-lt_of_le, le_refl, le_step, lt-suc_self}
use native.Mathlib.Omega.{arith}
use lib.Dec.{ltb}
use borrow.Author.Tests.{lt-ltb, le-ltb}
use Rattle.numbers.specs.Counts.{choose}
use Rattle.numbers.proofs.Bounds.{below_or_above}
use Rattle.numbers.proofs.Counts.{choose_above, choose_pos}
use Rattle.theory_sums.specs.Sums.{sum_below}
use Rattle.theory_sums.proofs.Sums.{sum_below_prefix}
use Rattle.theory_sets.specs.Structures.{Semicoherent}
use Rattle.theory_sets.proofs.Masks.{has_empty, has_full, holds_part}
use Rattle.theory_sets.proofs.Tables.{packed_below, packed_holds, packed_none, packed_full}
use Rattle.theory_orders.specs.Formulas.{path_count}
use Rattle.theory_figures.proofs.Sizes.{sets_of_size, path_count_most}
use Rattle.theory_blocks.specs.Assembly.{Assembly, assembled}
use Rattle.theory_blocks.specs.Blocks.{parts_in}
use Rattle.theory_blocks.proofs.Whole.{whole_all}
use Rattle.theory_blocks.proofs.Assembled.{assembled_counts}

-- ---- how many parts

-- the number of sets of each size tells how many parts there are
choose_decides : (n m : ℕ) → ((j : ℕ) → choose n j ≡ choose m j) → n ≡ m
choose_decides n m same = cases (below_or_above n m) (below_or_above m n)
  where
    fewer : (a b : ℕ) → a < b → choose a b ≡ choose b b → ⊥
    fewer a b l e = omega (arith, choose_above a b l, choose_pos b b (le_refl b), e)

    cases : (n < m) ⊎ (m ≤ n) → (m < n) ⊎ (n ≤ m) → n ≡ m
    cases (inl less) q = absurd (fewer n m less (same m))
    cases (inr more) (inl less) = absurd (fewer m n less (sym (same n)))
    cases (inr more) (inr less) = omega arith

module _ {n r : ℕ} {sizes : ℕ → ℕ} (assembly : Assembly n r sizes) where
  pub assembled_parts : n ≡ parts_in sizes r
  unfolding assembled
  assembled_parts =
      choose_decides n (parts_in sizes r) (λ j.
      sym (sets_of_size n j) ∙ assembled_counts assembly (λ b x. true) (λ a. true) j
      ∙ whole_all sizes (λ b. path_count (sizes b) (λ x. true)) r (λ b l i. path_count_most (sizes b) (λ x. true) i) j)

-- ---- semicoherent

module _ {n r : ℕ} {sizes : ℕ → ℕ} (assembly : Assembly n r sizes) (table : ℕ → Bool) (blocks : ℕ → ℕ → Bool)
    (coherent : Semicoherent r table) (each : (b : ℕ) → b < r → Semicoherent (sizes b) (blocks b)) where
  pub assembled_semicoherent : Semicoherent n (assembled assembly table blocks)
  unfolding assembled
  assembled_semicoherent = record {
    upward = λ a c ha hc h works.
        coherent.upward _ _ (packed_below r _) (packed_below r _) (packed_holds r _ _ (λ b l runs.
        (each b l).upward _ _ (packed_below (sizes b) _) (packed_below (sizes b) _)
        (packed_holds (sizes b) _ _ (λ p k. holds_part c a h (assembly.part b p))) runs)) works;
    empty = ap table (packed_none r _ (λ b l. ap (blocks b) (packed_none (sizes b) _ (λ p k. has_empty (assembly.part b p))) ∙ (each b l).empty)) ∙ coherent.empty;
    full =
        ap table (packed_full r _ (λ b l.
        ap (blocks b) (packed_full (sizes b) _ (λ p k. has_full n (assembly.part b p) (assembly.part_below b p l k))) ∙ (each b l).full))
        ∙ coherent.full;
  }

-- ---- blocks in a row

-- the block in which part i lies if the parts of each block stand behind those of the one before
row_block : (ℕ → ℕ) → ℕ → ℕ → ℕ
row_block sizes zero i = 0
row_block sizes (suc r) i = cond (ltb i (parts_in sizes r)) (row_block sizes r i) r

module _ (sizes : ℕ → ℕ) where
  parts_next : (b : ℕ) → parts_in sizes (suc b) ≡ parts_in sizes b + sizes b
  unfolding sum_below
  parts_next b = refl

  row_found : (r i : ℕ) → i < parts_in sizes r
      → (row_block sizes r i < r) × (parts_in sizes (row_block sizes r i) ≤ i) × (i < parts_in sizes (row_block sizes r i) + sizes (row_block sizes r i))
  unfolding row_block sum_below
  row_found zero i l = absurd (not-suc-le-zero l)
  row_found (suc r) i l = cases (below_or_above i (parts_in sizes r)) (row_found r i)
    where
      cases : (i < parts_in sizes r) ⊎ (parts_in sizes r ≤ i)
          → (i < parts_in sizes r
          → (row_block sizes r i < r) × (parts_in sizes (row_block sizes r i) ≤ i) × (i < parts_in sizes (row_block sizes r i) + sizes (row_block sizes r i)))
          → let b = cond (ltb i (parts_in sizes r)) (row_block sizes r i) r in (b < suc r) × (parts_in sizes b ≤ i) × (i < parts_in sizes b + sizes b)
      cases (inl below) ih = rw (lt-ltb i (parts_in sizes r) below) (let found = ih below in (le_step found.0, found.1, found.2))
      cases (inr above) ih = rw (le-ltb i (parts_in sizes r) above) (lt-suc_self r, above, l)

  row_block_lem : (r b p : ℕ) → b < r → p < sizes b → row_block sizes r (parts_in sizes b + p) ≡ b
  unfolding row_block
  row_block_lem zero b p l k = absurd (not-suc-le-zero l)
  row_block_lem (suc r) b p l k = cases (eq-or-lt_of_le (le_of_suc-le-suc l)) (row_block_lem r b p)
    where
      cases : (b ≡ r) ⊎ (b < r) → (b < r → p < sizes b → row_block sizes r (parts_in sizes b + p) ≡ b)
          → cond (ltb (parts_in sizes b + p) (parts_in sizes r)) (row_block sizes r (parts_in sizes b + p)) r ≡ b
      cases (inl e) ih = rw (le-ltb (parts_in sizes b + p) (parts_in sizes r) (omega (arith, ap (parts_in sizes) e))) (sym e)
      cases (inr below) ih =
          rw (lt-ltb (parts_in sizes b + p) (parts_in sizes r) (omega (arith, parts_next b, sum_below_prefix sizes (suc b) r below))) (ih below k)

  -- one way to assemble them
  pub in_row : (r : ℕ) → Assembly (parts_in sizes r) r sizes
  in_row r = record {
    part = λ b p. parts_in sizes b + p;
    block_of = row_block sizes r;
    place_of = λ i. i - parts_in sizes (row_block sizes r i);
    part_below = λ b p l k. omega (arith, parts_next b, sum_below_prefix sizes (suc b) r l);
    block_below = λ i l. (row_found r i l).0;
    place_below = λ i l. let found = row_found r i l in omega (arith, found.1, found.2);
    part_there = λ i l. let found = row_found r i l in omega (arith, found.1);
    block_back = row_block_lem r;
    place_back = λ b p l k. ap (λ (c : ℕ). parts_in sizes b + p - parts_in sizes c) (row_block_lem r b p l k) ∙ (let left : parts_in sizes b + p - parts_in sizes b ≡ p = omega arith in left);
  }
