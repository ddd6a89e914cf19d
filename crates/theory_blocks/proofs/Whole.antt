-- The path counts of the whole: by the last block, which is how they are worked out; none over C(n,j), none beyond n; and what structures of the blocks
-- that agree, or of which one runs wherever the other does, make of them. Assumes nothing.
use mathlib.Core.Path.{◌≡◌, refl, sym, ap, ap₂, ◌∙◌}
use mathlib.Core.Bool.{Bool, true, false, cond}
use Prim.Native.Nat.{ℕ, zero, suc, ◌+◌, ◌-◌, ◌^◌, ◌≤◌, ◌<◌}
use native.Mathlib.Nat.{le_refl, le_trans, le_of_eq, le_step, lt-suc_self, zero-add, add_comm}
use native.Mathlib.Omega.{arith}
use lib.Dec.{eqb, eqb-suc-zero}
use Rattle.numbers.specs.Counts.{choose}
use Rattle.numbers.proofs.Counts.{none_beyond}
use Rattle.theory_sums.specs.Sums.{indicator, sum_below}
use Rattle.theory_sums.proofs.Sums.{sum_below_same, sum_below_le, sum_below_masks}
use Rattle.theory_sets.specs.Masks.{has}
use Rattle.theory_sets.proofs.Masks.{has_above}
use Rattle.theory_orders.proofs.Sizes.{has_last, has_others}
use Rattle.theory_blocks.specs.Blocks.{product, in_state, ways, count_of_blocks, parts_in}
use Rattle.theory_blocks.proofs.Products.{product_same, product_add, product_sum, product_choose}

-- the structure of the blocks before the last one, where the last one runs
abbrev pub with_last : ℕ → (ℕ → Bool) → ℕ → Bool
with_last r works running = works (running + 2 ^ r)

-- no block has more path sets of a size than it has sets
abbrev pub Within : (ℕ → ℕ) → (ℕ → ℕ → ℕ) → ℕ → Type 0
Within sizes φ r = (b : ℕ) → b < r → (j : ℕ) → φ b j ≤ choose (sizes b) j

module _ (sizes : ℕ → ℕ) (φ : ℕ → ℕ → ℕ) where
  -- on how many sets of a size block b runs, and on how many it is stopped
  abbrev pub running_in : ℕ → ℕ → ℕ
  running_in b = in_state true (sizes b) (φ b)

  abbrev pub stopped_in : ℕ → ℕ → ℕ
  stopped_in b = in_state false (sizes b) (φ b)

  -- only the blocks that are counted matter
  ways_same : (r : ℕ) (a b : ℕ) → ((i : ℕ) → i < r → has a i ≡ has b i) → (j : ℕ) → ways sizes φ r a j ≡ ways sizes φ r b j
  unfolding ways
  ways_same zero a b same j = refl
  ways_same (suc r) a b same j =
      product_same _ _ _ _ j (λ i l. ap (λ (t : Bool). in_state t (sizes r) (φ r) i) (same r (lt-suc_self r)))
      (λ i l. ways_same r a b (λ k m. same k (le_step m)) i)

  pub whole_same : (r : ℕ) (f g : ℕ → Bool) → ((a : ℕ) → a < 2 ^ r → f a ≡ g a) → (j : ℕ) → count_of_blocks sizes φ r f j ≡ count_of_blocks sizes φ r g j
  unfolding count_of_blocks
  whole_same r f g same j = sum_below_same _ _ (2 ^ r) (λ a l. ap (λ (t : Bool). cond t (ways sizes φ r a j) 0) (same a l))

  -- a structure of the blocks that runs wherever another does has no fewer path sets
  pub whole_le : (r : ℕ) (f g : ℕ → Bool) → ((a : ℕ) → a < 2 ^ r → f a ≡ true → g a ≡ true) → (j : ℕ) → count_of_blocks sizes φ r f j ≤ count_of_blocks sizes φ r g j
  unfolding count_of_blocks
  whole_le r f g more j = sum_below_le _ _ (2 ^ r) (λ a l. fewer (f a) (g a) (ways sizes φ r a j) (more a l))
    where
      fewer : (p q : Bool) (x : ℕ) → (p ≡ true → q ≡ true) → cond p x 0 ≤ cond q x 0
      fewer true q x h = rw (h refl) (le_refl x)
      fewer false q x h = omega arith

  -- no block: the whole runs or not
  pub whole_none : (works : ℕ → Bool) (j : ℕ) → count_of_blocks sizes φ 0 works j ≡ cond (works 0) (indicator (eqb j 0)) 0
  unfolding count_of_blocks ways sum_below
  whole_none works j = zero-add _

  -- by the last block: it runs, or it is stopped
  pub whole_last : (r : ℕ) (works : ℕ → Bool) (j : ℕ)
      → count_of_blocks sizes φ (suc r) works j
      ≡ product (running_in r) (count_of_blocks sizes φ r (with_last r works)) j + product (stopped_in r) (count_of_blocks sizes φ r works) j
  unfolding count_of_blocks ways
  whole_last r works j =
      sum_below_masks (λ a. cond (works a) (ways sizes φ (suc r) a j) 0) r
      ∙ ap₂ (λ (u v : ℕ). u + v)
      (sum_below_same _ (λ a. cond (works a) (product (stopped_in r) (ways sizes φ r a) j) 0) (2 ^ r) (λ a l.
      ap (λ (t : Bool). cond (works a) (product (in_state t (sizes r) (φ r)) (ways sizes φ r a) j) 0) (has_above a r r l (le_refl r)))
      ∙ product_sum (stopped_in r) works (λ a. ways sizes φ r a) (2 ^ r) j)
      (sum_below_same _ (λ a. cond (works (a + 2 ^ r)) (product (running_in r) (ways sizes φ r a) j) 0) (2 ^ r) (λ a l.
      ap (λ (u : ℕ). cond (works (a + 2 ^ r)) u 0)
      (product_same _ _ _ _ j (λ i m. ap (λ (t : Bool). in_state t (sizes r) (φ r) i) (has_last r a l))
      (λ i m. ways_same r (a + 2 ^ r) a (λ k n. has_others r a l k n) i)))
      ∙ product_sum (running_in r) (with_last r works) (λ a. ways sizes φ r a) (2 ^ r) j)
      ∙ add_comm _ _

  module _ (r : ℕ) (few : Within sizes φ r) where
    -- a block runs or is stopped
    pub running_or_stopped : (b : ℕ) → b < r → (j : ℕ) → running_in b j + stopped_in b j ≡ choose (sizes b) j
    running_or_stopped b l j = omega (arith, few b l j)

  -- a structure that runs on every set of blocks has all sets
  pub whole_all : (r : ℕ) → Within sizes φ r → (j : ℕ)
      → count_of_blocks sizes φ r (λ a. true) j ≡ choose (parts_in sizes r) j
  unfolding sum_below choose
  whole_all zero few j = whole_none (λ a. true) j ∙ one j
    where
      one : (j : ℕ) → indicator (eqb j 0) ≡ choose 0 j
      one zero = refl
      one (suc j) = rw (eqb-suc-zero j)
  whole_all (suc r) few j =
      whole_last r (λ a. true) j
      ∙ sym (product_add (running_in r) (stopped_in r) (count_of_blocks sizes φ r (λ a. true)) j)
      ∙ product_same _ _ _ _ j (λ i l. running_or_stopped (suc r) few r (lt-suc_self r) i) (λ i l. whole_all r (λ b m. few b (le_step m)) i)
      ∙ product_choose (sizes r) (parts_in sizes r) j

  -- no path count is over the number of sets of its size
  pub whole_most : (r : ℕ) → Within sizes φ r → (works : ℕ → Bool) (j : ℕ)
      → count_of_blocks sizes φ r works j ≤ choose (parts_in sizes r) j
  whole_most r few works j = le_trans (whole_le r works (λ a. true) (λ a l t. refl) j) (le_of_eq (whole_all r few j))

  pub whole_beyond : (r : ℕ) → Within sizes φ r → (works : ℕ → Bool) (j : ℕ)
      → parts_in sizes r < j → count_of_blocks sizes φ r works j ≡ 0
  whole_beyond r few works j l = none_beyond (parts_in sizes r) j (whole_most r few works j) l

-- blocks of the same sizes with the same path counts
pub whole_given : (sizes others : ℕ → ℕ) (φ ψ : ℕ → ℕ → ℕ) (r : ℕ) → ((b : ℕ) → b < r → sizes b ≡ others b)
    → ((b : ℕ) → b < r → (j : ℕ) → φ b j ≡ ψ b j) → (works : ℕ → Bool) (j : ℕ) → count_of_blocks sizes φ r works j ≡ count_of_blocks others ψ r works j
whole_given sizes others φ ψ zero same equal works j = whole_none sizes φ works j ∙ sym (whole_none others ψ works j)
whole_given sizes others φ ψ (suc r) same equal works j =
    whole_last sizes φ r works j
    ∙ ap₂ (λ (u v : ℕ). u + v)
    (product_same _ _ _ _ j (λ i l. equal r (lt-suc_self r) i)
    (λ i l. whole_given sizes others φ ψ r (λ b m. same b (le_step m)) (λ b m. equal b (le_step m)) (with_last r works) i))
    (product_same _ _ _ _ j (λ i l. ap₂ (λ (n x : ℕ). choose n i - x) (same r (lt-suc_self r)) (equal r (lt-suc_self r) i))
    (λ i l. whole_given sizes others φ ψ r (λ b m. same b (le_step m)) (λ b m. equal b (le_step m)) works i))
    ∙ sym (whole_last others ψ r works j)
