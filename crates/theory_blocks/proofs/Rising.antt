-- What blocks give passes 13 and 14 if the path counts of each block do, whether or not some machine has these: the proportion of path sets of the
-- whole never falls. Assumes nothing.
use mathlib.Core.Path.{◌≡◌, refl, sym, ap, ap₂, ◌∙◌, subst}
use mathlib.Core.Bool.{Bool, true, cond}
use mathlib.Core.Logic.{◌⊎◌, inl, inr}
use Prim.Native.Nat.{ℕ, zero, suc, ◌+◌, ◌-◌, ◌*◌, ◌^◌, ◌≤◌, ◌<◌}
use native.Mathlib.Nat.{mul_comm, mul-add, le_refl, le_trans, le_of_eq, le_step, lt-suc_self, two-pow-succ}
use native.Mathlib.Numerals.{add-one}
use native.Mathlib.Omega.{arith}
use lib.Pow.{pow_pos}
use Rattle.numbers.specs.Counts.{choose}
use Rattle.numbers.proofs.Bounds.{below_or_above}
use Rattle.numbers.proofs.Counts.{choose_none, choose_above, choose_all, choose_next}
use Rattle.theory_sums.specs.Sums.{sum_below}
use Rattle.theory_sets.specs.Structures.{Semicoherent}
use Rattle.theory_sets.proofs.Masks.{has_above, holds_add}
use Rattle.theory_sets.proofs.Structures.{Upward}
use Rattle.theory_figures.proofs.Holding.{holds_last}
use Rattle.theory_figures.proofs.Tails.{steps_rise, rise_steps}
use Rattle.theory_blocks.specs.Blocks.{product, count_of_blocks, parts_in, RisingCounts}
use Rattle.theory_blocks.proofs.Products.{product_same, product_le, product_add, product_first, product_top, more, less, product_more, product_less}
use Rattle.theory_blocks.proofs.Whole.{Within, with_last, stopped_in, running_or_stopped, whole_le, whole_none, whole_last, whole_most, whole_beyond}

-- ---- 14 by one part more and one part less

module _ (n : ℕ) (φ : ℕ → ℕ) where
  -- where the proportion never falls, a part may come in no more cases than one may leave
  less_more : ((j : ℕ) → j < n → φ j * choose n (suc j) ≤ φ (suc j) * choose n j) → (j : ℕ) → less n φ j ≤ more φ j
  less_more rises j = cases (below_or_above j n)
    where
      cases : (j < n) ⊎ (n ≤ j) → less n φ j ≤ more φ j
      cases (inr beyond) = let gone : n - j ≡ 0 = omega arith in rw gone (omega arith)
      cases (inl l) =
          subst (λ (k : ℕ). less n φ j ≤ k * φ k) (add-one j)
          (rise_steps n φ j l (subst (λ (k : ℕ). φ j * choose n k ≤ φ k * choose n j) (sym (add-one j)) (rises j l)))

  -- and where it may, the proportion never falls
  more_rises : ((j : ℕ) → less n φ j ≤ more φ j) → (j : ℕ) → j < n → φ j * choose n (suc j) ≤ φ (suc j) * choose n j
  more_rises step j l =
      subst (λ (k : ℕ). φ j * choose n k ≤ φ k * choose n j) (add-one j)
      (steps_rise n φ j l (subst (λ (k : ℕ). less n φ j ≤ k * φ k) (sym (add-one j)) (step j)))

-- of all sets as many lack a part as have one
choose_even : (n j : ℕ) → less n (choose n) j ≡ more (choose n) j
choose_even n j = cases (below_or_above j n)
  where
    cases : (j < n) ⊎ (n ≤ j) → less n (choose n) j ≡ more (choose n) j
    cases (inl l) = mul_comm (n - j) (choose n j) ∙ sym (choose_next n j l) ∙ ap (λ (k : ℕ). choose n k * k) (add-one j) ∙ mul_comm (choose n (suc j)) (suc j)
    cases (inr beyond) =
        let gone : n - j ≡ 0 = omega arith in rw (gone, choose_above n (suc j) (omega arith)) (omega arith)

-- ---- one block more

-- what a block's states add up to ends where the sets of its parts do
state_short : (m : ℕ) (f g : ℕ → ℕ) → ((j : ℕ) → f j + g j ≡ choose m j) → (i : ℕ) → m < i → (f i ≡ 0) × (g i ≡ 0)
state_short m f g both i l = (omega (arith, both i, choose_above m i l), omega (arith, both i, choose_above m i l))

module _ (n m : ℕ) (φ stopped : ℕ → ℕ) (both : (j : ℕ) → φ j + stopped j ≡ choose m j) (step : (j : ℕ) → less m φ j ≤ more φ j) where
  -- by so much a part may leave the sets on which the block runs in more cases than one may come
  abbrev gain : ℕ → ℕ
  gain j = more φ j - less m φ j

  running_gain : (j : ℕ) → more φ j ≡ less m φ j + gain j
  running_gain j = omega (arith, step j)

  -- and by so much it is the other way where the block is stopped
  stopped_gain : (j : ℕ) → less m stopped j ≡ more stopped j + gain j
  stopped_gain j =
      let came : less m φ j + less m stopped j ≡ less m (choose m) j = sym (mul-add (m - j) (φ j) (stopped j)) ∙ ap (λ (u : ℕ). (m - j) * u) (both j) in
      let left : more φ j + more stopped j ≡ more (choose m) j
      = sym (mul-add (suc j) (φ (suc j)) (stopped (suc j))) ∙ ap (λ (u : ℕ). suc j * u) (both (suc j)) in
      omega (arith, came, left, choose_even m j, running_gain j)

  module _ (with without : ℕ → ℕ) (with-short : (i : ℕ) → n < i → with i ≡ 0) (without-short : (i : ℕ) → n < i → without i ≡ 0)
      (with-step : (j : ℕ) → less n with j ≤ more with j) (without-step : (j : ℕ) → less n without j ≤ more without j)
      (fewer : (j : ℕ) → without j ≤ with j) where
    -- both states of the block together
    block_step : (j : ℕ) → less (n + m) (λ i. product φ with i + product stopped without i) j ≤ more (λ i. product φ with i + product stopped without i) j
    block_step j =
        let running_less = product_less m n φ with (λ i l. (state_short m φ stopped both i l).0) with-short j in
        let stopped_less = product_less m n stopped without (λ i l. (state_short m φ stopped both i l).1) without-short j in
        let RunningMore = product_more φ with j in
        let stopped_more = product_more stopped without j in
        let a : product (more φ) with j ≡ product (less m φ) with j + product gain with j
        = product_same _ _ (λ i. less m φ i + gain i) with j (λ i l. running_gain i) (λ i l. refl) ∙ product_add (less m φ) gain with j in
        let b : product (less m stopped) without j ≡ product (more stopped) without j + product gain without j
        = product_same _ _ (λ i. more stopped i + gain i) without j (λ i l. stopped_gain i) (λ i l. refl) ∙ product_add (more stopped) gain without j in
        let c : product φ (less n with) j ≤ product φ (more with) j = product_le _ _ _ _ j (λ i l. le_refl _) (λ i l. with-step i) in
        let d : product stopped (less n without) j ≤ product stopped (more without) j
        = product_le _ _ _ _ j (λ i l. le_refl _) (λ i l. without-step i) in
        let e : product gain without j ≤ product gain with j = product_le _ _ _ _ j (λ i l. le_refl _) (λ i l. fewer i) in
        le_trans (le_of_eq (mul-add (n + m - j) (product φ with j) (product stopped without j)))
        (le_trans (let all : less (n + m) (product φ with) j + less (n + m) (product stopped without) j ≤ more (product φ with) j + more (product stopped without) j
        = omega (arith, running_less, stopped_less, RunningMore, stopped_more, a, b, c, d, e) in all)
        (le_of_eq (sym (mul-add (suc j) (product φ with (suc j)) (product stopped without (suc j))))))

-- ---- the whole

module _ (sizes : ℕ → ℕ) (φ : ℕ → ℕ → ℕ) where
  -- a structure of blocks that runs on whatever holds a path set, without the last block and with it
  upward_without : (r : ℕ) (works : ℕ → Bool) → Upward (suc r) works → Upward r works
  upward_without r works up a b ha hb = up a b (omega (arith, two-pow-succ r)) (omega (arith, two-pow-succ r))

  upward_with : (r : ℕ) (works : ℕ → Bool) → Upward (suc r) works → Upward r (with_last r works)
  upward_with r works up a b ha hb h =
      up (a + 2 ^ r) (b + 2 ^ r) (omega (arith, two-pow-succ r)) (omega (arith, two-pow-succ r)) (holds_last r b a hb ha ∙ h)

  upward_last : (r : ℕ) (works : ℕ → Bool) → Upward (suc r) works → (a : ℕ) → a < 2 ^ r → works a ≡ true → with_last r works a ≡ true
  upward_last r works up a ha =
      up a (a + 2 ^ r) (omega (arith, two-pow-succ r)) (omega (arith, two-pow-succ r)) (holds_add a r (has_above a r r ha (le_refl r)))

  whole_step : (r : ℕ) → ((b : ℕ) → b < r → RisingCounts (sizes b) (φ b)) → (works : ℕ → Bool) → Upward r works
      → (j : ℕ) → less (parts_in sizes r) (count_of_blocks sizes φ r works) j ≤ more (count_of_blocks sizes φ r works) j
  unfolding sum_below
  whole_step zero rising works up j = let gone : 0 - j ≡ 0 = omega arith in rw gone (omega arith)
  whole_step (suc r) rising works up j =
      let few : Within sizes φ (suc r) = λ b l. (rising b l).most in
      let earlier : Within sizes φ r = λ b l. few b (le_step l) in
      le_trans (le_of_eq (ap (λ (u : ℕ). (parts_in sizes r + sizes r - j) * u) (whole_last sizes φ r works j)))
      (le_trans (block_step (parts_in sizes r) (sizes r) (φ r) (stopped_in sizes φ r) (running_or_stopped sizes φ (suc r) few r (lt-suc_self r))
      (less_more (sizes r) (φ r) (rising r (lt-suc_self r)).rises) (count_of_blocks sizes φ r (with_last r works)) (count_of_blocks sizes φ r works)
      (whole_beyond sizes φ r earlier (with_last r works)) (whole_beyond sizes φ r earlier works)
      (whole_step r (λ b l. rising b (le_step l)) (with_last r works) (upward_with r works up))
      (whole_step r (λ b l. rising b (le_step l)) works (upward_without r works up))
      (whole_le sizes φ r works (with_last r works) (upward_last r works up)) j)
      (le_of_eq (ap (λ (u : ℕ). suc j * u) (sym (whole_last sizes φ r works (suc j))))))

  -- no part works: the whole runs only if it needs no block
  whole_empty : (r : ℕ) → ((b : ℕ) → b < r → φ b 0 ≡ 0) → (works : ℕ → Bool) → count_of_blocks sizes φ r works 0 ≡ cond (works 0) 1 0
  whole_empty zero none works = whole_none sizes φ works 0
  whole_empty (suc r) none works =
      whole_last sizes φ r works 0
      ∙ ap₂ (λ (u v : ℕ). u + v) (product_first _ _ ∙ ap (λ (u : ℕ). u * count_of_blocks sizes φ r (with_last r works) 0) (none r (lt-suc_self r)))
      (product_first _ _ ∙ ap₂ (λ (u v : ℕ). u * v) (ap₂ (λ (u v : ℕ). u - v) (choose_none (sizes r)) (none r (lt-suc_self r))) (whole_empty r (λ b l. none b (le_step l)) works))
      ∙ omega arith

  -- all parts work: the whole runs if it runs on all blocks
  whole_full : (r : ℕ) → ((b : ℕ) → b < r → RisingCounts (sizes b) (φ b)) → (works : ℕ → Bool)
      → count_of_blocks sizes φ r works (parts_in sizes r) ≡ cond (works (2 ^ r - 1)) 1 0
  unfolding sum_below
  whole_full zero rising works = whole_none sizes φ works 0
  whole_full (suc r) rising works =
      let few : Within sizes φ (suc r) = λ b l. (rising b l).most in
      let earlier : Within sizes φ r = λ b l. few b (le_step l) in
      let both = running_or_stopped sizes φ (suc r) few r (lt-suc_self r) in
      let ones : choose (sizes r) (sizes r) ≡ 1 = choose_all (sizes r) in
      let all : φ r (sizes r) ≡ 1 = (rising r (lt-suc_self r)).all in
      let none : stopped_in sizes φ r (sizes r) ≡ 0 = omega (arith, both (sizes r), ones, all) in
      let last : 2 ^ r - 1 + 2 ^ r ≡ 2 ^ suc r - 1 = omega (arith, two-pow-succ r, pow_pos r) in
      whole_last sizes φ r works (parts_in sizes r + sizes r)
      ∙ ap₂ (λ (u v : ℕ). u + v)
      (product_top (parts_in sizes r) (sizes r) (φ r) _ (λ i l. (state_short (sizes r) (φ r) (stopped_in sizes φ r) both i l).0)
      (whole_beyond sizes φ r earlier (with_last r works))
      ∙ ap₂ (λ (u v : ℕ). u * v) all (whole_full r (λ b l. rising b (le_step l)) (with_last r works) ∙ ap (λ (a : ℕ). cond (works a) 1 0) last))
      (product_top (parts_in sizes r) (sizes r) (stopped_in sizes φ r) _ (λ i l. (state_short (sizes r) (φ r) (stopped_in sizes φ r) both i l).1)
      (whole_beyond sizes φ r earlier works)
      ∙ ap (λ (u : ℕ). u * count_of_blocks sizes φ r works (parts_in sizes r)) none)
      ∙ omega arith

  -- the path counts that blocks give pass 13 and 14, if those of each block do
  pub whole_rises : (r : ℕ) → ((b : ℕ) → b < r → RisingCounts (sizes b) (φ b)) → (works : ℕ → Bool) → Semicoherent r works
      → RisingCounts (parts_in sizes r) (count_of_blocks sizes φ r works)
  whole_rises r rising works coherent = record {
    most = whole_most sizes φ r (λ b l. (rising b l).most) works;
    none = whole_empty r (λ b l. (rising b l).none) works ∙ ap (λ (t : Bool). cond t 1 0) coherent.empty;
    all = whole_full r rising works ∙ ap (λ (t : Bool). cond t 1 0) coherent.full;
    rises = more_rises (parts_in sizes r) (count_of_blocks sizes φ r works) (whole_step r rising works coherent.upward);
  }
