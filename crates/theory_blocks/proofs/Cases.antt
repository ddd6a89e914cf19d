-- Blocks of which the answer is known otherwise: one block that is the whole, blocks of one part, and two blocks in series and in parallel.
-- Assumes nothing.
use mathlib.Core.Path.{◌≡◌, refl, sym, ap, ap₂, ◌∙◌}
use mathlib.Core.Bool.{Bool, true, false, cond, ◌&&◌}
use Prim.Native.Nat.{ℕ, zero, suc, ◌+◌, ◌*◌, ◌^◌, ◌≤◌, ◌<◌}
use native.Mathlib.Nat.{not-suc-le-zero, le_of_suc-le-suc, zero-add, add-zero, add_assoc}
use native.Mathlib.Omega.{arith}
use lib.Arith.{lt-one}
use lib.Dec.{eqb}
use lib.Count.{ones, ones_in}
use Rattle.numbers.specs.Counts.{choose}
use Rattle.numbers.proofs.Counts.{choose_above}
use Rattle.theory_sums.specs.Sums.{indicator, sum_below}
use Rattle.theory_sums.proofs.Sums.{sum_below_same, sum_below_zero}
use Rattle.theory_sets.specs.Masks.{has}
use Rattle.theory_sets.proofs.Tables.{has_packed, packed_unique}
use Rattle.theory_orders.specs.Formulas.{path_count}
use Rattle.theory_figures.proofs.Sizes.{path_count_most}
use Rattle.theory_blocks.specs.Assembly.{Assembly, assembled}
use Rattle.theory_blocks.specs.Blocks.{product, count_of_blocks, RisingCounts}
use Rattle.theory_blocks.proofs.Products.{product_same, product_add, product_either, product_unit, product_none, product_choose}
use Rattle.theory_blocks.proofs.Whole.{Within, with_last, stopped_in, running_or_stopped, whole_same, whole_none, whole_last, whole_all, whole_given}
use Rattle.theory_blocks.proofs.Assembled.{assembled_counts}

module _ (sizes : ℕ → ℕ) (φ : ℕ → ℕ → ℕ) where
  -- ---- one block

  -- the sets of one block are the empty one and the block
  of_one : (f g : ℕ → Bool) → f 0 ≡ g 0 → f 1 ≡ g 1 → (a : ℕ) → a < 2 ^ 1 → f a ≡ g a
  of_one f g none one zero l = none
  of_one f g none one (suc zero) l = one
  of_one f g none one (suc (suc a)) l = absurd (not-suc-le-zero (le_of_suc-le-suc (le_of_suc-le-suc l)))

  -- it is the whole: the counts are its own
  pub whole_block : (works : ℕ → Bool) → works 0 ≡ false → works 1 ≡ true → (j : ℕ) → count_of_blocks sizes φ 1 works j ≡ φ 0 j
  whole_block works none one j =
      whole_last sizes φ 0 works j
      ∙ ap₂ (λ (u v : ℕ). u + v)
      (product_same _ _ (φ 0) (λ i. indicator (eqb i 0)) j (λ i l. refl) (λ i l.
      whole_none sizes φ (with_last 0 works) i ∙ ap (λ (t : Bool). cond t (indicator (eqb i 0)) 0) one)
      ∙ product_unit (φ 0) j)
      (product_same _ _ (stopped_in sizes φ 0) (λ i. 0) j (λ i l. refl) (λ i l.
      whole_none sizes φ works i ∙ ap (λ (t : Bool). cond t (indicator (eqb i 0)) 0) none)
      ∙ product_none (stopped_in sizes φ 0) j)
      ∙ add-zero (φ 0 j)

  -- ---- two blocks

  -- in series: both have to run
  pub in_series : (works : ℕ → Bool) → works 0 ≡ false → works 1 ≡ false → works 2 ≡ false → works 3 ≡ true
      → (j : ℕ) → count_of_blocks sizes φ 2 works j ≡ product (φ 1) (φ 0) j
  unfolding count_of_blocks
  in_series works none first second both j =
      whole_last sizes φ 1 works j
      ∙ ap₂ (λ (u v : ℕ). u + v) (product_same _ _ _ (φ 0) j (λ i l. refl) (λ i l. whole_block (with_last 1 works) second both i))
      (product_same _ _ (stopped_in sizes φ 1) (λ i. 0) j (λ i l. refl) (λ i l.
      whole_same sizes φ 1 works (λ a. false) (of_one works (λ a. false) none first) i ∙ sum_below_zero (2 ^ 1))
      ∙ product_none (stopped_in sizes φ 1) j)
      ∙ add-zero (product (φ 1) (φ 0) j)

  -- in parallel: the sets on which both are stopped are the others
  pub in_parallel : Within sizes φ 2
      → (works : ℕ → Bool) → works 0 ≡ false → works 1 ≡ true → works 2 ≡ true → works 3 ≡ true
      → (j : ℕ) → count_of_blocks sizes φ 2 works j + product (stopped_in sizes φ 1) (stopped_in sizes φ 0) j ≡ choose (sizes 0 + sizes 1) j
  unfolding sum_below
  in_parallel few works none first second both j =
      ap (λ (u : ℕ). u + product (stopped_in sizes φ 1) (stopped_in sizes φ 0) j)
      (whole_last sizes φ 1 works j
      ∙ ap₂ (λ (u v : ℕ). u + v)
      (product_same _ _ _ (choose (sizes 0)) j (λ i l. refl) (λ i l.
      whole_same sizes φ 1 (with_last 1 works) (λ a. true) (of_one (with_last 1 works) (λ a. true) second both) i
      ∙ whole_all sizes φ 1 (λ b m. few b (omega (arith, m))) i ∙ ap (λ (x : ℕ). choose x i) (zero-add (sizes 0))))
      (product_same _ _ _ (φ 0) j (λ i l. refl) (λ i l. whole_block works none first i)))
      ∙ add_assoc _ _ _
      ∙ ap (λ (u : ℕ). product (φ 1) (choose (sizes 0)) j + u)
      (sym (product_either (stopped_in sizes φ 1) (φ 0) (stopped_in sizes φ 0) j)
      ∙ product_same _ _ _ (choose (sizes 0)) j (λ i l. refl) (λ i l. running_or_stopped sizes φ 2 few 0 (omega arith) i))
      ∙ sym (product_add (φ 1) (stopped_in sizes φ 1) (choose (sizes 0)) j)
      ∙ product_same _ _ (choose (sizes 1)) _ j (λ i l. running_or_stopped sizes φ 2 few 1 (omega arith) i) (λ i l. refl)
      ∙ product_choose (sizes 1) (sizes 0) j

-- ---- blocks of one part

-- the path counts of one part are 0, 1
one_part_lem : (φ ψ : ℕ → ℕ) → RisingCounts 1 φ → RisingCounts 1 ψ → (j : ℕ) → φ j ≡ ψ j
one_part_lem φ ψ a b zero = a.none ∙ sym b.none
one_part_lem φ ψ a b (suc zero) = a.all ∙ sym b.all
one_part_lem φ ψ a b (suc (suc j)) =
    omega (arith, a.most (suc (suc j)), b.most (suc (suc j)), choose_above 1 (suc (suc j)) (omega arith))

-- a part as a machine: it runs if the part works
one_part : ℕ → Bool
one_part x = has x 0

part_counts : RisingCounts 1 (path_count 1 one_part)
unfolding one_part path_count sum_below has ones ones_in choose
part_counts = record { most = path_count_most 1 one_part; none = refl; all = refl; rises = rises }
  where
    rises : (j : ℕ) → j < 1 → path_count 1 one_part j * choose 1 (suc j) ≤ path_count 1 one_part (suc j) * choose 1 j
    rises zero l = omega arith
    rises (suc j) l = absurd (not-suc-le-zero (le_of_suc-le-suc l))

-- r blocks of one part each: the parts of the whole are the blocks
singles : (r : ℕ) → Assembly r r (λ b. 1)
singles r = record {
  part = λ b p. b;
  block_of = λ i. i;
  place_of = λ i. 0;
  part_below = λ b p l k. l;
  block_below = λ i l. l;
  place_below = λ i l. omega arith;
  part_there = λ i l. refl;
  block_back = λ b p l k. refl;
  place_back = λ b p l k. sym (lt-one k);
}

-- the whole is then the machine of the table
singles_run : (r : ℕ) (table : ℕ → Bool) (a : ℕ) → a < 2 ^ r → assembled (singles r) table (λ b. one_part) a ≡ table a
unfolding singles assembled one_part
singles_run r table a l = ap table (sym (packed_unique r _ a l (λ b k. sym (has_packed 1 (λ p. has a b) 0 (omega arith)))))

pub single_parts : (sizes : ℕ → ℕ) (φ : ℕ → ℕ → ℕ) (r : ℕ) → ((b : ℕ) → b < r → sizes b ≡ 1) → ((b : ℕ) → b < r → RisingCounts 1 (φ b))
    → (works : ℕ → Bool) (j : ℕ) → count_of_blocks sizes φ r works j ≡ path_count r works j
unfolding path_count
single_parts sizes φ r one rising works j =
    whole_given sizes (λ b. 1) φ (λ b. path_count 1 one_part) r one (λ b l. one_part_lem (φ b) _ (rising b l) part_counts) works j
    ∙ sym (assembled_counts (singles r) (λ b. one_part) works j)
    ∙ sum_below_same _ _ (2 ^ r) (λ a l. ap (λ (t : Bool). cond (t && eqb (ones a) j) 1 0) (singles_run r works a l))
