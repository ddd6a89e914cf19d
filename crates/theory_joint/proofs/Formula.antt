-- The count is document 004's joint signature times n!: order by order, the stops of two machines are differences of what still works, and what
-- still works is 004's joint tail (eq. 12). Assumes nothing.
use mathlib.Core.Path.{◌≡◌, refl, sym, ap, ap₂, ◌∙◌}
use mathlib.Core.Bool.{Bool, true, false, cond, not, ◌&&◌}
use mathlib.Core.List.{List, Memᴰ}
use mathlib.Core.Logic.{◌⊎◌, inl, inr}
use Prim.Native.Nat.{ℕ, suc, ◌+◌, ◌-◌, ◌*◌, ◌^◌, ◌≤◌, ◌<◌}
use native.Mathlib.Nat.{le_trans, mul-zero, mul-one}
use native.Mathlib.Omega.{arith}
use native.Mathlib.Numerals.{sub-one}
use lib.Dec.{eqb}
use lib.IntN.{ℤ, pos, neg_ℤ, ◌+ℤ◌, ◌-ℤ◌, pos-+ℤ-pos}
use borrow.Author.Tests.{eqb-true}
use Rattle.numbers.proofs.Bools.{and_right, true_or_false, clash}
use Rattle.numbers.proofs.Bounds.{below_or_above}
use Rattle.theory_sums.specs.Sums.{indicator, sum, sum_below, sum_sets}
use Rattle.theory_sums.proofs.Sums.{sum_same, sum_add, sum_below_same, sum_below_zero, sum_below_mul, sum_below_exchange}
use Rattle.theory_sums.proofs.Integers.{ring}
use Rattle.theory_sets.specs.Masks.{size, holds}
use Rattle.theory_sets.specs.Structures.{Semicoherent}
use Rattle.theory_sets.proofs.Masks.{holds_antisym}
use Rattle.theory_orders.specs.Orders.{orders}
use Rattle.theory_figures.proofs.Holding.{holds_same_size}
use Rattle.theory_joint.specs.Joint.{stopped_by, joint_count}
use Rattle.theory_joint.specs.Formula.{nestings, quality, path_of, joint_tail, joint_signature, nested_pairs}
use Rattle.theory_joint.proofs.Failures.{works_after, stopped_by_lem, works_since, order_in, order_length}
use Rattle.theory_joint.proofs.Nested.{survivals, survivals_transposed, survivals_nested}

-- ---- the stops of an order, as differences

-- w and v: the first and the second machine work before the failure; x and y: they work after it
both_stop : (w x v y : Bool) → (x ≡ true → w ≡ true) → (y ≡ true → v ≡ true)
    → indicator ((not x && w) && (not y && v)) + indicator (x && v) + indicator (w && y) ≡ indicator (w && v) + indicator (x && y)
both_stop false true v y f g = clash (f refl) refl
both_stop false false v y f g = refl
both_stop true true false true f g = clash (g refl) refl
both_stop true false false true f g = clash (g refl) refl
both_stop true true false false f g = refl
both_stop true false false false f g = refl
both_stop true true true true f g = refl
both_stop true true true false f g = refl
both_stop true false true true f g = refl
both_stop true false true false f g = refl

module _ (n : ℕ) (first second : ℕ → Bool) (f : Semicoherent n first) (s : Semicoherent n second) where
  -- 004, Corollary 2.2, of the counts of orders
  pub joint_step : (k l : ℕ) → k < n → l < n
      → joint_count n first second (suc k) (suc l) + survivals n first second (suc k) l + survivals n first second k (suc l)
      ≡ survivals n first second k l + survivals n first second (suc k) (suc l)
  unfolding joint_count survivals
  joint_step k l hk hl =
      ap (λ (u : ℕ). u + sum (both k (suc l)) (orders n)) (sym (sum_add (stop) (both (suc k) l) (orders n)))
      ∙ sym (sum_add (λ order. stop order + both (suc k) l order) (both k (suc l)) (orders n))
      ∙ sum_same _ (λ order. both k l order + both (suc k) (suc l) order) (orders n) each
      ∙ sum_add (both k l) (both (suc k) (suc l)) (orders n)
    where
      stop : List ℕ → ℕ
      stop order = indicator (stopped_by n first (suc k) order && stopped_by n second (suc l) order)

      both : ℕ → ℕ → List ℕ → ℕ
      both i j order = indicator (works_after first i order && works_after second j order)

      earlier : (works : ℕ → Bool) → Semicoherent n works → (i : ℕ) (order : List ℕ) → Memᴰ order (orders n)
          → works_after works (suc i) order ≡ true → works_after works i order ≡ true
      earlier works c i order m w = works_since n works c i 1 order (order_in n order m) (ap (λ (x : ℕ). works_after works x order) (let next : i + 1 ≡ suc i = omega arith in next) ∙ w)

      each : (order : List ℕ) → Memᴰ order (orders n) → stop order + both (suc k) l order + both k (suc l) order ≡ both k l order + both (suc k) (suc l) order
      each order m =
          let all = order_length n order m in
          rw (stopped_by_lem n first k order (order_in n order m) (omega (arith, all)), stopped_by_lem n second l order (order_in n order m) (omega (arith, all)))
          (both_stop (works_after first k order) (works_after first (suc k) order) (works_after second l order) (works_after second (suc l) order)
          (earlier first f k order m) (earlier second s l order m))

-- ---- 004's joint tail

module _ (n : ℕ) (first second : ℕ → Bool) where
  -- 004's sum over two sizes
  by_sizes : ℕ → ℕ → ℕ
  by_sizes i j = sum_sets n (path_of first i) (λ a. sum_sets n (path_of second j) (quality n a))

  -- one pair of sets
  pair_quality : (i j a b : ℕ) → j ≤ i → a < 2 ^ n → b < 2 ^ n → size a ≡ i
      → cond (path_of second j b) (quality n a b) 0 ≡ nestings n i j * cond (path_of second j b && holds a b) 1 0
  unfolding quality
  pair_quality i j a b le ha hb sa = cases (true_or_false (path_of second j b)) (true_or_false (holds a b)) (true_or_false (holds b a))
    where
      cases : (path_of second j b ≡ true) ⊎ (path_of second j b ≡ false) → (holds a b ≡ true) ⊎ (holds a b ≡ false) → (holds b a ≡ true) ⊎ (holds b a ≡ false)
          → cond (path_of second j b) (quality n a b) 0 ≡ nestings n i j * cond (path_of second j b && holds a b) 1 0
      cases (inr p) h k = rw p (sym (mul-zero (nestings n i j)))
      cases (inl p) (inl h) k =
          let sb = eqb-true (size b) j (and_right (second b) (eqb (size b) j) p) in
          rw (p, h, sa, sb) (sym (mul-one (nestings n i j)))
      cases (inl p) (inr h) (inl k) =
          let sb = eqb-true (size b) j (and_right (second b) (eqb (size b) j) p) in
          clash (holds_same_size n b a hb ha k (omega (arith, sa, sb))) h
      cases (inl p) (inr h) (inr k) = rw (p, h, k) (sym (mul-zero (nestings n i j)))

  sizes_nested : (i j : ℕ) → j ≤ i → by_sizes i j ≡ nestings n i j * nested_pairs n first second i j
  unfolding by_sizes nested_pairs
  sizes_nested i j le =
      sum_below_same _ (λ a. nestings n i j * cond (path_of first i a) (held a) 0) (2 ^ n) (λ a ha. row a ha (true_or_false (path_of first i a)))
      ∙ sum_below_mul (nestings n i j) (λ a. cond (path_of first i a) (held a) 0) (2 ^ n)
    where
      held : ℕ → ℕ
      held a = sum_below (λ b. cond (path_of second j b && holds a b) 1 0) (2 ^ n)

      row : (a : ℕ) → a < 2 ^ n → (path_of first i a ≡ true) ⊎ (path_of first i a ≡ false)
          → cond (path_of first i a) (sum_sets n (path_of second j) (quality n a)) 0 ≡ nestings n i j * cond (path_of first i a) (held a) 0
      row a ha (inr p) = rw p (sym (mul-zero (nestings n i j)))
      row a ha (inl p) =
          let sa = eqb-true (size a) i (and_right (first a) (eqb (size a) i) p) in
          rw p
          (sum_below_same _ (λ b. nestings n i j * cond (path_of second j b && holds a b) 1 0) (2 ^ n) (λ b hb. pair_quality i j a b le ha hb sa)
          ∙ sum_below_mul (nestings n i j) (λ b. cond (path_of second j b && holds a b) 1 0) (2 ^ n))

-- q0 is symmetric
quality_swap : (n a b : ℕ) → quality n a b ≡ quality n b a
unfolding quality
quality_swap n a b = cases (true_or_false (holds a b)) (true_or_false (holds b a))
  where
    cases : (holds a b ≡ true) ⊎ (holds a b ≡ false) → (holds b a ≡ true) ⊎ (holds b a ≡ false) → quality n a b ≡ quality n b a
    cases (inl h) (inl k) = ap₂ (quality n) (holds_antisym a b h k) (sym (holds_antisym a b h k))
    cases (inl h) (inr k) = rw (h, k)
    cases (inr h) (inl k) = rw (h, k)
    cases (inr h) (inr k) = rw (h, k)

-- and so is its sum over two sizes
sizes_swap : (n : ℕ) (first second : ℕ → Bool) (i j : ℕ) → by_sizes n first second i j ≡ by_sizes n second first j i
unfolding by_sizes
sizes_swap n first second i j =
    sum_below_same _ (λ a. sum_below (λ b. term a b) (2 ^ n)) (2 ^ n) (λ a ha. inward (path_of first i a) a)
    ∙ sum_below_exchange term (2 ^ n) (2 ^ n)
    ∙ sum_below_same _ _ (2 ^ n) (λ b hb. outward (path_of second j b) b)
  where
    term : ℕ → ℕ → ℕ
    term a b = cond (path_of first i a) (cond (path_of second j b) (quality n a b) 0) 0

    inward : (p : Bool) (a : ℕ) → cond p (sum_sets n (path_of second j) (quality n a)) 0 ≡ sum_below (λ b. cond p (cond (path_of second j b) (quality n a b) 0) 0) (2 ^ n)
    inward true a = refl
    inward false a = sym (sum_below_zero (2 ^ n))

    none : (p : Bool) (x : ℕ) → x ≡ 0 → cond p x 0 ≡ 0
    none true x e = e
    none false x e = refl

    outward : (q : Bool) (b : ℕ) → sum_below (λ a. cond (path_of first i a) (cond q (quality n a b) 0) 0) (2 ^ n) ≡ cond q (sum_sets n (path_of first i) (quality n b)) 0
    outward true b = sum_below_same _ _ (2 ^ n) (λ a ha. ap (λ (x : ℕ). cond (path_of first i a) x 0) (quality_swap n a b))
    outward false b = sum_below_same _ (λ a. 0) (2 ^ n) (λ a ha. none (path_of first i a) 0 refl) ∙ sum_below_zero (2 ^ n)

-- 004, eq. 12: the joint tail is the number of orders in which both still work
pub tail_is_count : (n : ℕ) (first second : ℕ → Bool) (k l : ℕ) → k ≤ n → l ≤ n → joint_tail n first second k l ≡ survivals n first second k l
unfolding joint_tail by_sizes
tail_is_count n first second k l hk hl = cases (below_or_above l k)
  where
    back : (x : ℕ) → x ≤ n → n - (n - x) ≡ x
    back x h = omega arith

    nested : (one other : ℕ → Bool) (x y : ℕ) → x ≤ y → y ≤ n → by_sizes n one other (n - x) (n - y) ≡ survivals n one other x y
    nested one other x y le h =
        sizes_nested n one other (n - x) (n - y) (omega arith)
        ∙ sym (survivals_nested n one other (n - x) (n - y) (omega arith) (omega arith))
        ∙ ap₂ (survivals n one other) (back x (le_trans le h)) (back y h)

    cases : (l < k) ⊎ (k ≤ l) → by_sizes n first second (n - k) (n - l) ≡ survivals n first second k l
    cases (inr le) = nested first second k l le hl
    cases (inl less) =
        sizes_swap n first second (n - k) (n - l) ∙ nested second first l k (omega arith) hk ∙ survivals_transposed n second first l k

-- a difference of differences, where it is known what it comes to
difference_of_lem : (x a b c d : ℕ) → x + b + c ≡ a + d → pos a -ℤ pos b -ℤ pos c +ℤ pos d ≡ pos x
difference_of_lem x a b c d e =
    let sums : pos a +ℤ pos d ≡ pos x +ℤ pos b +ℤ pos c
    = pos-+ℤ-pos a d ∙ ap (λ (u : ℕ). pos u) (sym e) ∙ sym (pos-+ℤ-pos (x + b) c) ∙ ap (λ (u : ℤ). u +ℤ pos c) (sym (pos-+ℤ-pos x b)) in
    let gathered : pos a -ℤ pos b -ℤ pos c +ℤ pos d ≡ pos a +ℤ pos d +ℤ (neg_ℤ (pos b) +ℤ neg_ℤ (pos c)) = simp ring in
    let left : pos x +ℤ pos b +ℤ pos c +ℤ (neg_ℤ (pos b) +ℤ neg_ℤ (pos c)) ≡ pos x = simp ring in
    gathered ∙ ap (λ (u : ℤ). u +ℤ (neg_ℤ (pos b) +ℤ neg_ℤ (pos c))) sums ∙ left

-- the count is 004's formula times n!
pub joint_is_formula : (n : ℕ) (first second : ℕ → Bool) → Semicoherent n first → Semicoherent n second → (k l : ℕ) → k < n → l < n
    → joint_signature n first second (suc k) (suc l) ≡ pos (joint_count n first second (suc k) (suc l))
unfolding joint_signature
joint_is_formula n first second f s k l hk hl =
    let at : (i j : ℕ) → i ≤ n → j ≤ n → joint_tail n first second i j ≡ survivals n first second i j = tail_is_count n first second in
    rw (sub-one (suc k), sub-one (suc l), at k l (omega arith) (omega arith), at (suc k) l hk (omega arith), at k (suc l) (omega arith) hl, at (suc k) (suc l) hk hl)
    (difference_of_lem (joint_count n first second (suc k) (suc l)) (survivals n first second k l) (survivals n first second (suc k) l)
    (survivals n first second k (suc l)) (survivals n first second (suc k) (suc l)) (joint_step n first second f s k l hk hl))
