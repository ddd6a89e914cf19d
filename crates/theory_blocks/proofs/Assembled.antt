-- Every machine that is assembled from blocks has the path counts that the blocks give: whatever the structure of the blocks, whatever machines the
-- blocks are, and wherever their parts stand. Assumes nothing.
use mathlib.Core.Path.{◌≡◌, refl, sym, ap, ap₂, ◌∙◌, subst}
use mathlib.Core.Bool.{Bool, true, false, cond, not, ◌&&◌, ◌||◌, and-false}
use mathlib.Core.Logic.{◌⊎◌, inl, inr}
use Prim.Native.Nat.{ℕ, zero, suc, ◌+◌, ◌-◌, ◌^◌, ◌≤◌, ◌<◌}
use native.Mathlib.Nat.{le_of_suc-le-suc, eq-or-lt_of_le, le_refl, le_trans, le_step, zero-add, add-zero, le_of_eq}
use native.Mathlib.Omega.{arith}
use lib.Count.{ones, ones_in}
use lib.Dec.{eqb, ltb, leb}
use borrow.Author.Tests.{eqb-true, eq-eqb, ne_eqb, ltb-true, lt-ltb, le-ltb, le-leb, lt-leb}
use Rattle.numbers.specs.Counts.{choose}
use Rattle.numbers.proofs.Bools.{or_cases, or_false, or_true, same_test, same_eqb, false_of}
use Rattle.numbers.proofs.Bounds.{below_or_above}
use Rattle.theory_sums.specs.Sums.{indicator, sum_below}
use Rattle.theory_sums.proofs.Sums.{sum_below_same, sum_below_add}
use Rattle.theory_sets.specs.Masks.{has, size}
use Rattle.theory_sets.specs.Tables.{packed}
use Rattle.theory_sets.proofs.Ranges.{any_intro, any_elim}
use Rattle.theory_sets.proofs.Tables.{packed_same, packed_unique, packed_last}
use Rattle.theory_orders.specs.Formulas.{path_count}
use Rattle.theory_orders.proofs.Orders.{eqb_comm}
use Rattle.theory_orders.proofs.Sizes.{size_bits, apart_add}
use Rattle.theory_figures.proofs.Sizes.{sum_by_size, sets_of_size, path_count_beyond}
use Rattle.theory_blocks.specs.Assembly.{Assembly, share_of, assembled}
use Rattle.theory_blocks.specs.Blocks.{count_of_blocks}
use Rattle.theory_blocks.proofs.Products.{product_same, product_cut}
use Rattle.theory_blocks.proofs.Whole.{with_last, whole_none, whole_last}
use Rattle.theory_blocks.proofs.Choosing.{sum_over, Of, over_same, over_test, over_zero, over_all, over_split, over_none, spread, placed, Once, over_block, size_spread, spread_own, spread_else}

-- ---- path counts of one block

-- the sets on which it runs and those on which it does not
paths_and_others : (m : ℕ) (f : ℕ → Bool) (i : ℕ) → path_count m f i + path_count m (λ x. not (f x)) i ≡ choose m i
unfolding path_count
paths_and_others m f i =
    sym (sum_below_add (λ x. cond (f x && eqb (size x) i) 1 0) (λ x. cond (not (f x) && eqb (size x) i) 1 0) (2 ^ m))
    ∙ sum_below_same _ _ (2 ^ m) (λ x l. either (f x) (eqb (size x) i)) ∙ sets_of_size m i
  where
    either : (p q : Bool) → cond (p && q) 1 0 + cond (not p && q) 1 0 ≡ cond q 1 0
    either true true = refl
    either true false = refl
    either false true = refl
    either false false = refl

-- the structure of the first s blocks, by whether block s runs
abbrev given : Bool → ℕ → (ℕ → Bool) → ℕ → Bool
given true s works = with_last s works
given false s works = works

given_last : (t : Bool) (s : ℕ) (works : ℕ → Bool) (a : ℕ) → works (a + cond t (2 ^ s) 0) ≡ given t s works a
given_last true s works a = refl
given_last false s works a = ap works (add-zero a)

module _ {n r : ℕ} {sizes : ℕ → ℕ} (assembly : Assembly n r sizes) (blocks : ℕ → ℕ → Bool) where
  -- block b runs on its share of a set
  abbrev runs : ℕ → ℕ → Bool
  runs a b = blocks b (share_of assembly b a)

  abbrev counts : ℕ → ℕ → ℕ
  counts b = path_count (sizes b) (blocks b)

  -- the parts of the first s blocks
  abbrev in_first : ℕ → ℕ → Bool
  in_first s i = ltb (assembly.block_of i) s

  once : (b : ℕ) → b < r → Once (assembly.part b) (sizes b)
  once b l p q lp lq e = sym (assembly.place_back b p l lp) ∙ ap assembly.place_of e ∙ assembly.place_back b q l lq

  -- the parts of a block are those that belong to it
  placed_block : (s : ℕ) → s < r → (i : ℕ) → i < n → eqb (assembly.block_of i) s ≡ placed (assembly.part s) (sizes s) i
  placed_block s l i h =
      same_test (eqb (assembly.block_of i) s) (placed (assembly.part s) (sizes s) i)
      (λ e. let own : assembly.block_of i ≡ s = eqb-true (assembly.block_of i) s e in
      any_intro _ (sizes s) (assembly.place_of i) (subst (λ (b : ℕ). assembly.place_of i < sizes b) own (assembly.place_below i h))
      (eq-eqb _ _ (ap (λ (b : ℕ). assembly.part b (assembly.place_of i)) (sym own) ∙ assembly.part_there i h)))
      (λ there. let found = any_elim (λ p. eqb (assembly.part s p) i) (sizes s) there in
      eq-eqb _ _ (ap assembly.block_of (sym (eqb-true (assembly.part s found.0) i found.2)) ∙ assembly.block_back s found.0 l found.1))

  first_more : (s : ℕ) → s < r → (i : ℕ) → i < n → in_first (suc s) i ≡ placed (assembly.part s) (sizes s) i || in_first s i
  first_more s l i h = less_or_same (assembly.block_of i) s ∙ ap (λ (t : Bool). t || in_first s i) (placed_block s l i h)
    where
      less_or_same : (x y : ℕ) → ltb x (suc y) ≡ eqb x y || ltb x y
      less_or_same x y =
          same_test (ltb x (suc y)) (eqb x y || ltb x y)
          (λ t. cases (eq-or-lt_of_le (le_of_suc-le-suc (ltb-true x (suc y) t)))) (λ t. back (or_cases (eqb x y) (ltb x y) t))
        where
          cases : (x ≡ y) ⊎ (x < y) → eqb x y || ltb x y ≡ true
          cases (inl e) = rw (eq-eqb x y e)
          cases (inr m) = rw (lt-ltb x y m) (or_true (eqb x y))

          back : (eqb x y ≡ true) ⊎ (ltb x y ≡ true) → ltb x (suc y) ≡ true
          back (inl e) = lt-ltb x (suc y) (omega (arith, eqb-true x y e))
          back (inr m) = lt-ltb x (suc y) (le_step (ltb-true x y m))

  -- ---- a set of block s together with one of the blocks before it

  module _ (s : ℕ) (l : s < r) (x : ℕ) (hx : x < 2 ^ sizes s) (a : ℕ) (of : Of (in_first s) n a) where
    own : ℕ
    own = spread (assembly.part s) (sizes s) x

    -- they share no part
    shared_none : (i : ℕ) → has a i ≡ true → has own i ≡ false
    unfolding own
    shared_none i h =
        spread_else (assembly.part s) (sizes s) x (once s l) i (λ p k e.
        let there : assembly.block_of i ≡ s = ap assembly.block_of (sym e) ∙ assembly.block_back s p l k in
        let less : assembly.block_of i < s = ltb-true (assembly.block_of i) s (of.1 i h) in omega arith)

    has_both : (i : ℕ) → has (own + a) i ≡ has own i || has a i
    has_both = (apart_add n own a of.0 shared_none).0

    size_both : size (own + a) ≡ size x + size a
    unfolding own
    size_both =
        (apart_add n own a of.0 shared_none).1
        ∙ ap (λ (u : ℕ). u + size a) (size_spread (assembly.part s) (sizes s) x (once s l) ∙ sym (size_bits (sizes s) x hx))

    -- block s sees its own set
    own_share : share_of assembly s (own + a) ≡ x
    unfolding own
    own_share =
        sym (packed_unique (sizes s) (λ p. has (own + a) (assembly.part s p)) x hx (λ p k.
        sym (has_both (assembly.part s p)
        ∙ ap₂ (λ (t u : Bool). t || u) (spread_own (assembly.part s) (sizes s) x (once s l) p k)
        (false_of (has a (assembly.part s p)) (λ h.
        let less : assembly.block_of (assembly.part s p) < s = ltb-true (assembly.block_of (assembly.part s p)) s (of.1 (assembly.part s p) h) in
        let there = assembly.block_back s p l k in omega arith))
        ∙ or_false (has x p))))

    -- and a block before it what it saw
    other_share : (b : ℕ) → b < s → share_of assembly b (own + a) ≡ share_of assembly b a
    unfolding own
    other_share b k =
        packed_same (sizes b) _ _ (λ p h.
        has_both (assembly.part b p)
        ∙ ap (λ (t : Bool). t || has a (assembly.part b p))
        (spread_else (assembly.part s) (sizes s) x (once s l) (assembly.part b p) (λ q g e.
        let here = assembly.block_back s q l g in
        let there : assembly.block_of (assembly.part b p) ≡ b = assembly.block_back b p (le_trans k (le_trans (le_step (le_refl s)) l)) h in
        let same : s ≡ b = sym here ∙ ap assembly.block_of e ∙ there in omega arith)))

    -- so the whole runs as the structure says where block s is in its state
    both_run : (works : ℕ → Bool) → works (packed (suc s) (runs (own + a))) ≡ given (blocks s x) s works (packed s (runs a))
    both_run works =
        ap works (packed_last s (runs (own + a))
        ∙ ap₂ (λ (u : ℕ) (t : Bool). u + cond t (2 ^ s) 0) (packed_same s _ _ (λ b k. ap (blocks b) (other_share b k))) (ap (blocks s) own_share))
        ∙ given_last (blocks s x) s works (packed s (runs a))

  -- ---- by blocks

  -- the sets of j parts of the first s blocks on which these leave a path set of a structure of them
  abbrev paths_of_first : ℕ → (ℕ → Bool) → ℕ → ℕ
  paths_of_first s works j = sum_over (in_first s) n (λ a. cond (works (packed s (runs a)) && eqb (size a) j) 1 0)

  -- those of them that have k parts fewer
  fewer_parts : (s : ℕ) (works : ℕ → Bool) (j k : ℕ)
      → sum_over (in_first s) n (λ a. cond (works (packed s (runs a)) && eqb (k + size a) j) 1 0) ≡ cond (leb k j) (paths_of_first s works (j - k)) 0
  fewer_parts s works j k = cases (below_or_above j k)
    where
      cases : (j < k) ⊎ (k ≤ j)
          → sum_over (in_first s) n (λ a. cond (works (packed s (runs a)) && eqb (k + size a) j) 1 0) ≡ cond (leb k j) (paths_of_first s works (j - k)) 0
      cases (inl more) =
          rw (lt-leb k j more)
          (over_same (in_first s) n _ (λ a. 0) (λ a of.
          ap (λ (t : Bool). cond (works (packed s (runs a)) && t) 1 0) (ne_eqb (k + size a) j (λ e. omega arith))
          ∙ ap (λ (t : Bool). cond t 1 0) (and-false (works (packed s (runs a)))))
          ∙ over_zero (in_first s) n)
      cases (inr fits) =
          rw (le-leb k j fits)
          (over_same (in_first s) n _ _ (λ a of.
          ap (λ (t : Bool). cond (works (packed s (runs a)) && t) 1 0) (same_eqb (k + size a) j (size a) (j - k) (λ e. omega arith) (λ e. omega arith))))

  -- the sets of block s with what the blocks before it make of the rest
  by_last : (s : ℕ) → s < r → (works : ℕ → Bool) (j : ℕ)
      → paths_of_first (suc s) works j ≡ sum_below (λ x. cond (leb (size x) j) (paths_of_first s (given (blocks s x) s works) (j - size x)) 0) (2 ^ sizes s)
  unfolding own
  by_last s l works j =
      over_test (in_first (suc s)) (λ i. placed (assembly.part s) (sizes s) i || in_first s i) n _ (first_more s l)
      ∙ over_split (placed (assembly.part s) (sizes s)) (in_first s) n _ (λ i h there.
      le-ltb (assembly.block_of i) s (le_of_eq (sym (eqb-true (assembly.block_of i) s (placed_block s l i h ∙ there)))))
      ∙ over_block (assembly.part s) n (sizes s) _ (λ p k. assembly.part_below s p l k) (once s l)
      ∙ sum_below_same _ _ (2 ^ sizes s) (λ x hx.
      over_same (in_first s) n _ (λ a. cond (given (blocks s x) s works (packed s (runs a)) && eqb (size x + size a) j) 1 0) (λ a of.
      ap₂ (λ (t : Bool) (u : ℕ). cond (t && eqb u j) 1 0) (both_run s l x hx a of works) (size_both s l x hx a of))
      ∙ fewer_parts s (given (blocks s x) s works) j (size x))

  -- the path counts of the first s blocks are those that the blocks give
  first_counts : (s : ℕ) → s ≤ r → (works : ℕ → Bool) (j : ℕ) → paths_of_first s works j ≡ count_of_blocks sizes counts s works j
  unfolding packed ones ones_in
  first_counts zero h works j =
      over_none (in_first 0) n _ (λ i l. le-ltb (assembly.block_of i) 0 (omega arith))
      ∙ ap (λ (t : Bool). cond (works 0 && t) 1 0) (eqb_comm 0 j) ∙ inside (works 0) (eqb j 0) ∙ sym (whole_none sizes counts works j)
    where
      inside : (t u : Bool) → cond (t && u) 1 0 ≡ cond t (indicator u) 0
      inside true true = refl
      inside true false = refl
      inside false u = refl
  first_counts (suc s) h works j =
      by_last s h works j
      ∙ sum_below_same _ (λ x. cond (blocks s x) (weight true (size x)) 0 + cond (not (blocks s x)) (weight false (size x)) 0) (2 ^ sizes s) (λ x hx.
      ap (λ (u : ℕ). cond (leb (size x) j) u 0) (first_counts s (le_trans (le_step (le_refl s)) h) (given (blocks s x) s works) (j - size x))
      ∙ either (blocks s x) (size x))
      ∙ sum_below_add _ _ (2 ^ sizes s)
      ∙ ap₂ (λ (u v : ℕ). u + v)
      (sum_by_size (sizes s) (blocks s) (weight true) ∙ product_cut (counts s) (count_of_blocks sizes counts s (with_last s works)) (sizes s) j (path_count_beyond (sizes s) (blocks s)))
      (sum_by_size (sizes s) (λ x. not (blocks s x)) (weight false)
      ∙ product_cut (path_count (sizes s) (λ x. not (blocks s x))) (count_of_blocks sizes counts s works) (sizes s) j (path_count_beyond (sizes s) (λ x. not (blocks s x)))
      ∙ product_same _ _ (λ i. choose (sizes s) i - counts s i) _ j (λ i k. omega (arith, paths_and_others (sizes s) (blocks s) i)) (λ i k. refl))
      ∙ sym (whole_last sizes counts s works j)
    where
      weight : Bool → ℕ → ℕ
      weight t i = cond (leb i j) (count_of_blocks sizes counts s (given t s works) (j - i)) 0

      either : (t : Bool) (i : ℕ) → cond (leb i j) (count_of_blocks sizes counts s (given t s works) (j - i)) 0 ≡ cond t (weight true i) 0 + cond (not t) (weight false i) 0
      either true i = sym (add-zero _)
      either false i = sym (zero-add _)

  -- the machine that is assembled has the path counts that its blocks give
  pub assembled_counts : (table : ℕ → Bool) (j : ℕ) → path_count n (assembled assembly table blocks) j ≡ count_of_blocks sizes counts r table j
  unfolding path_count assembled
  assembled_counts table j =
      sym (over_all n (λ a. cond (table (packed r (runs a)) && eqb (size a) j) 1 0))
      ∙ over_test (λ i. true) (in_first r) n _ (λ i l. sym (lt-ltb (assembly.block_of i) r (assembly.block_below i l)))
      ∙ first_counts r (le_refl r) table j
