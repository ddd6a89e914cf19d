-- Failure orders of the dual: read from the last entry they are those of the machine, so the k-th failure inside a group of m parts stops the
-- dual in as many orders as the (m+1-k)-th stops the machine; of all parts this is the signature reversed, and of one part its importance.
-- Assumes nothing.
use mathlib.Core.Path.{◌≡◌, refl, sym, ap, ap₂, ◌∙◌}
use mathlib.Core.Bool.{Bool, true, false, cond, not, ◌&&◌}
use mathlib.Core.Logic.{◌⊎◌, inl, inr}
use Prim.Native.Nat.{ℕ, suc, ◌+◌, ◌-◌, ◌*◌, ◌^◌, ◌≤◌, ◌<◌}
use native.Mathlib.Nat.{mul_comm, zero-mul, one-mul}
use native.Mathlib.Omega.{arith}
use lib.Count.{ones-ones}
use lib.Dec.{eqb}
use lib.Pow.{ones_lt, pow-lt}
use Rattle.numbers.specs.Counts.{factorial}
use Rattle.numbers.proofs.Bools.{and_swap, not_not, same_eqb, true_or_false}
use Rattle.theory_sums.specs.Sums.{indicator, sum_below}
use Rattle.theory_sums.proofs.Sums.{sum_below_same}
use Rattle.theory_sets.specs.Masks.{has, size, inside}
use Rattle.theory_sets.specs.Structures.{Semicoherent}
use Rattle.theory_sets.proofs.Masks.{add_below, has_flip}
use Rattle.theory_orders.specs.Counting.{count}
use Rattle.theory_orders.specs.Formulas.{by_parts}
use Rattle.theory_orders.proofs.Counting.{count_is_by_parts}
use Rattle.theory_orders.proofs.Sizes.{size_add, size_meet, missing, missing_inside, missing_add, part_more}
use Rattle.theory_figures.specs.Figures.{importance}
use Rattle.theory_orders.proofs.Agreeing.{by_part, by_part_none}
use Rattle.theory_figures.proofs.Importances.{size_single, importance_is_count}
use Rattle.theory_cuts.specs.Cuts.{remaining, cut, dual, from_last}
use Rattle.theory_cuts.proofs.Cuts.{remaining_below, remaining_twice, remaining_part, dual_is_cut, dual_semicoherent}
use Rattle.theory_cuts.proofs.Counts.{sum_remaining, size_remaining}

-- the parts of a group that remain are those that a set lacks
inside_remaining : (n group a : ℕ) → a < 2 ^ n → inside group (remaining n a) ≡ missing n group a
inside_remaining n group a h =
    size_meet n group (remaining n a) (remaining_below n a)
    ∙ sum_below_same (λ i. indicator (has (remaining n a) i && has group i)) (λ i. indicator (has group i && not (has a i))) n (λ i l.
    ap indicator (ap (λ (b : Bool). b && has group i) (remaining_part n a i h l) ∙ and_swap (not (has a i)) (has group i)))

same_term : (g r s e f : Bool) (x y : ℕ) → r ≡ s → (g ≡ true → e ≡ f) → x ≡ y → cond (g && not r && e) x 0 ≡ cond (g && not s && f) y 0
same_term false r s e f x y p q t = refl
same_term true r s e f x y p q t = rw (p, q refl, t)

-- the dual stops with a part exactly where the machine does
stop_exchanged : (p q : Bool) → indicator (not p) - indicator (not q) ≡ indicator q - indicator p
stop_exchanged true true = refl
stop_exchanged true false = refl
stop_exchanged false true = refl
stop_exchanged false false = refl

module _ (n : ℕ) (works : ℕ → Bool) (group : ℕ) (within : group < 2 ^ n) (k : ℕ) (some : 1 ≤ k) (most : k ≤ size group) where
  -- the set that remains of a set with the part gives to the dual's count what the set gives to the machine's
  module _ (j a : ℕ) (l : j < n) (h : a < 2 ^ n) (lacks : has a j ≡ false) where
    full : a + 2 ^ j < 2 ^ n
    full = add_below n a j h l lacks

    rest : ℕ
    rest = remaining n (a + 2 ^ j)

    sizes : size rest + suc (size a) ≡ n
    unfolding rest
    sizes = ap (λ (u : ℕ). size (remaining n (a + 2 ^ j)) + u) (sym (size_add a j lacks)) ∙ size_remaining n (a + 2 ^ j) full

    failures_exchanged : has group j ≡ true → eqb (size group - inside group rest) k ≡ eqb (size group - inside group a) (from_last (size group) k)
    unfolding rest
    failures_exchanged belongs =
        let others : size group - inside group (remaining n (a + 2 ^ j)) ≡ inside group a + 1 =
        omega (arith, inside_remaining n group (a + 2 ^ j) full, missing_add n group j a l lacks belongs, missing_inside n group a within h) in
        let fewer : inside group a ≤ size group = omega (arith, missing_inside n group a within h) in
        ap (λ (x : ℕ). eqb x k) others
        ∙ same_eqb (inside group a + 1) k (size group - inside group a) (from_last (size group) k) (λ e. omega arith) (λ e. omega (arith, fewer))

    stops : indicator (dual n works (rest + 2 ^ j)) - indicator (dual n works rest) ≡ indicator (works (a + 2 ^ j)) - indicator (works a)
    unfolding rest cut
    stops =
        let more : remaining n (a + 2 ^ j) + 2 ^ j ≡ remaining n a = omega (arith, full) in
        ap₂ (λ (p q : Bool). indicator p - indicator q)
        (ap (dual n works) more ∙ dual_is_cut n works (remaining n a) (remaining_below n a) ∙ ap (λ (x : ℕ). not (works x)) (remaining_twice n a h))
        (dual_is_cut n works (remaining n (a + 2 ^ j)) (remaining_below n (a + 2 ^ j)) ∙ ap (λ (x : ℕ). not (works x)) (remaining_twice n (a + 2 ^ j) full))
        ∙ stop_exchanged (works a) (works (a + 2 ^ j))

    part_gives : by_part n (dual n works) group k j rest ≡ by_part n works group (from_last (size group) k) j a
    unfolding rest
    part_gives =
        let one : size (remaining n (a + 2 ^ j)) ≡ n - size a - 1 = omega (arith, sizes) in
        let two : n - size (remaining n (a + 2 ^ j)) - 1 ≡ size a = omega (arith, sizes) in
        same_term (has group j) (has rest j) (has a j) _ _ _ _
        (remaining_part n (a + 2 ^ j) j full l ∙ ap not (has_flip a j) ∙ not_not (has a j)) failures_exchanged
        (ap₂ (λ (x y : ℕ). x * y)
        (ap₂ (λ (x y : ℕ). factorial x * factorial y) one two ∙ mul_comm (factorial (n - size a - 1)) (factorial (size a))) stops)

  -- the same for all sets, summed: those that have the part give nothing
  sum_gives : (j : ℕ) → j < n
      → sum_below (by_part n (dual n works) group k j) (2 ^ n) ≡ sum_below (by_part n works group (from_last (size group) k) j) (2 ^ n)
  unfolding rest
  sum_gives j l =
      sym (sum_remaining n (by_part n (dual n works) group k j))
      ∙ sum_below_same _ (λ a. indicator (has a j) * by_part n (dual n works) group k j (remaining n a)) (2 ^ n) (λ a h. there a h (true_or_false (has a j)))
      ∙ sym (part_more n j (λ a. by_part n (dual n works) group k j (remaining n a)) l)
      ∙ sum_below_same _ (by_part n works group (from_last (size group) k) j) (2 ^ n) (λ a h. back a h (true_or_false (has a j)))
    where
      there : (a : ℕ) → a < 2 ^ n → (has a j ≡ true) ⊎ (has a j ≡ false)
          → by_part n (dual n works) group k j (remaining n a) ≡ indicator (has a j) * by_part n (dual n works) group k j (remaining n a)
      there a h (inl t) = sym (ap (λ (b : Bool). indicator b * by_part n (dual n works) group k j (remaining n a)) t ∙ one-mul _)
      there a h (inr f) =
          by_part_none n (dual n works) group k j (remaining n a) (remaining_part n a j h l ∙ ap not f)
          ∙ sym (ap (λ (b : Bool). indicator b * by_part n (dual n works) group k j (remaining n a)) f ∙ zero-mul _)

      back : (a : ℕ) → a < 2 ^ n → (has a j ≡ true) ⊎ (has a j ≡ false)
          → indicator (not (has a j)) * by_part n (dual n works) group k j (remaining n (a + 2 ^ j)) ≡ by_part n works group (from_last (size group) k) j a
      back a h (inl t) =
          ap (λ (b : Bool). indicator (not b) * by_part n (dual n works) group k j (remaining n (a + 2 ^ j))) t ∙ zero-mul _
          ∙ sym (by_part_none n works group (from_last (size group) k) j a t)
      back a h (inr f) =
          ap (λ (b : Bool). indicator (not b) * by_part n (dual n works) group k j (remaining n (a + 2 ^ j))) f ∙ one-mul _ ∙ part_gives j a l h f

  -- so the counts for the group are those of the machine, from the last
  pub dual_count : Semicoherent n works → count n (dual n works) group k ≡ count n works group (from_last (size group) k)
  unfolding by_parts
  dual_count coherent =
      count_is_by_parts n (dual n works) (dual_semicoherent n works coherent) group within k
      ∙ sum_below_same _ _ n (λ j l. sum_gives j l)
      ∙ sym (count_is_by_parts n works coherent group within (from_last (size group) k))

-- ---- all parts, and one part

module _ (n : ℕ) (works : ℕ → Bool) (coherent : Semicoherent n works) where
  -- the signature reversed, as counts of failure orders
  pub dual_orders : (k : ℕ) → 1 ≤ k → k ≤ n → count n (dual n works) (2 ^ n - 1) k ≡ count n works (2 ^ n - 1) (from_last n k)
  dual_orders k some most =
      dual_count n works (2 ^ n - 1) (ones_lt n) k some (omega (arith, ones-ones n)) coherent
      ∙ ap (λ (m : ℕ). count n works (2 ^ n - 1) (from_last m k)) (ones-ones n)

  -- each part's failure stops the dual in as many orders as the machine
  pub dual_importance : (i : ℕ) → 1 ≤ i → i ≤ n → importance n (dual n works) i ≡ importance n works i
  dual_importance i some most =
      importance_is_count n (dual n works) (dual_semicoherent n works coherent) i some most
      ∙ dual_count n works (2 ^ (i - 1)) (pow-lt (omega arith)) 1 (omega arith) (omega (arith, size_single (i - 1))) coherent
      ∙ ap (λ (m : ℕ). count n works (2 ^ (i - 1)) (from_last m 1)) (size_single (i - 1))
      ∙ sym (importance_is_count n works coherent i some most)
