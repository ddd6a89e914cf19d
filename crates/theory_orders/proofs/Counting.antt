-- The counting theorem: the count is 001's eq. 2 times n!, and with 001's second sum of eq. 1 it is the first. Assumes nothing.
use mathlib.Core.Path.{◌≡◌, refl, sym, ap, ap₂, ◌∙◌}
use mathlib.Core.Bool.{Bool, true, false, cond, not, ◌&&◌, and-false, true≢false, false≢true}
use mathlib.Core.List.{◌∷◌}
use mathlib.Core.Logic.{◌⊎◌, inl, inr}
use Prim.Native.Nat.{ℕ, suc, ◌+◌, ◌-◌, ◌*◌, ◌^◌, ◌≤◌, ◌<◌}
use native.Mathlib.Nat.{zero-mul, one-mul, mul_assoc, add_comm, le_of_eq}
use native.Mathlib.Omega.{arith}
use native.Mathlib.Numerals.{sub-one}
use lib.Dec.{eqb}
use borrow.Author.Tests.{eqb-true}
use Rattle.numbers.specs.Counts.{factorial}
use Rattle.theory_sums.specs.Sums.{indicator, sum, how_many, sum_below}
use Rattle.theory_sums.proofs.Sums.{sum_same, some_is_how_many, sum_below_same, sum_below_add, sum_below_mul, sum_below_weights}
use Rattle.theory_sets.specs.Masks.{has, size, inside}
use Rattle.theory_sets.specs.Structures.{Semicoherent}
use Rattle.numbers.proofs.Bools.{true_or_false, same_eqb}
use Rattle.theory_sets.proofs.Structures.{upward_by_parts}
use Rattle.theory_orders.specs.Orders.{orders, mask}
use Rattle.theory_orders.specs.Counting.{Entry, entries, stops, in_group, stops_as_kth, count}
use Rattle.theory_orders.specs.Formulas.{added, taken, by_parts}
use Rattle.theory_orders.proofs.Orders.{orders_only}
use Rattle.theory_orders.proofs.Stopping.{one_stop}
use Rattle.theory_orders.proofs.Sizes.{missing, missing_inside, missing_add, size_meet, size_add, part_more}
use Rattle.theory_orders.proofs.Divisions.{AtPlace, met, leaving_after, sum_entries}

-- ---- eq. 2

-- what an entry gives to the count
unfoldable pub stops_there : (ℕ → Bool) → ℕ → ℕ → ℕ → AtPlace
stops_there works group k i b c l a = indicator (not (works a) && works (2 ^ (i - 1) + a) && (in_group group i && eqb c k))

module _ (works : ℕ → Bool) (group k : ℕ) where
  entry_stops : (e : Entry) → indicator (stops_as_kth works group k e) ≡ met group (stops_there works group k) e
  unfolding stops_as_kth stops met stops_there mask sum
  entry_stops e = cases (in_group group e.position)
    where
      test : Bool
      test = not (works (mask e.after)) && works (mask (e.position ∷ e.after))

      cases : (b : Bool) → indicator (test && (b && eqb (how_many (in_group group) e.before + 1) k))
          ≡ indicator (test && (b && eqb (how_many (in_group group) e.before + indicator b) k))
      cases true = refl
      cases false = refl

  module _ (n : ℕ) (coherent : Semicoherent n works) where
    pub count_met : count n works group k ≡ sum (λ order. sum (met group (stops_there works group k)) (entries order)) (orders n)
    unfolding count stops_as_kth
    count_met =
        sum_same _ _ (orders n)
        (λ order m.
        some_is_how_many (stops works) (λ e. in_group group e.position && eqb (how_many (in_group group) e.before + 1) k) (entries order)
        (le_of_eq (one_stop n works coherent order (orders_only n order m)))
        ∙ sum_same (λ e. indicator (stops_as_kth works group k e)) (met group (stops_there works group k)) (entries order) (λ e l. entry_stops e))

-- a set and a part outside it, in both forms of the sum: m, the part is in the group; b, it is in the set; e, the set leaves k of the group;
-- w, the set works; v, it works with the part
pair_stops : (x : ℕ) (m b e w v : Bool)
    → indicator (not b) * (x * indicator (not w && v && (m && e))) ≡ cond (m && not b && e) (x * (indicator v - indicator w)) 0
pair_stops x false b e w v = rw (and-false (not w && v)) (omega arith)
pair_stops x true true e w v = zero-mul _
pair_stops x true false false w v = rw (and-false (not w && v)) (omega arith)
pair_stops x true false true true true = omega arith
pair_stops x true false true true false = omega arith
pair_stops x true false true false true = omega arith
pair_stops x true false true false false = omega arith

missing_is : (n group a : ℕ) → group < 2 ^ n → a < 2 ^ n → missing n group a ≡ size group - inside group a
missing_is n group a within h = omega (arith, missing_inside n group a within h)

-- the count is 001's eq. 2 times n!
pub count_is_by_parts : (n : ℕ) (works : ℕ → Bool) → Semicoherent n works → (group : ℕ) → group < 2 ^ n → (k : ℕ)
    → count n works group k ≡ by_parts n works group k
unfolding by_parts leaving_after stops_there in_group
count_is_by_parts n works coherent group within k =
    count_met works group k n coherent ∙ sum_entries group n (stops_there works group k)
    ∙ sum_below_same _ _ n (λ i l. sum_below_same _ _ (2 ^ n) (λ a h.
    rw (sub-one (suc i), add_comm (2 ^ i) a, missing_is n group a within h)
    (pair_stops (factorial (size a) * factorial (n - size a - 1)) (has group i) (has a i) (eqb (size group - inside group a) k)
    (works a) (works (a + 2 ^ i)))))

-- ---- eq. 1

-- a sum over equal weights: of the sets that pass a test all have the same one
weighed : (s c x : ℕ) (e f w : Bool) → e ≡ f → (e ≡ true → s ≡ c) → s * (indicator e * x * indicator w) ≡ cond (w && f) (c * x) 0
weighed s c x true true true p q = rw (q refl) (omega arith)
weighed s c x true true false p q = omega arith
weighed s c x true false w p q = absurd (true≢false p)
weighed s c x false true w p q = absurd (false≢true p)
weighed s c x false false true p q = omega arith
weighed s c x false false false p q = omega arith

-- a stop and a path set without the part make a path set with it; the letters are those of pair_stops
stop_is_difference : (x : ℕ) (m b e w v : Bool) → (b ≡ false → w ≡ true → v ≡ true)
    → cond (m && not b && e) (x * (indicator v - indicator w)) 0 + indicator (m && not b) * (indicator e * x * indicator w)
    ≡ indicator (m && not b) * (indicator e * x * indicator v)
stop_is_difference x false b e w v h = omega arith
stop_is_difference x true true e w v h = omega arith
stop_is_difference x true false false w v h = omega arith
stop_is_difference x true false true true true h = omega arith
stop_is_difference x true false true true false h = absurd (false≢true (h refl refl))
stop_is_difference x true false true false true h = omega arith
stop_is_difference x true false true false false h = omega arith

module _ (n : ℕ) (works : ℕ → Bool) (coherent : Semicoherent n works) (group : ℕ) (within : group < 2 ^ n) (k : ℕ) where
  -- the two sums of eq. 1 before they are put in order: over the parts of the group and the sets without them that leave k of the group,
  -- |A|! × (n-|A|-1)! for each path set A, and for each path set that A is with the part
  ways : ℕ → ℕ
  ways a = factorial (size a) * factorial (n - size a - 1)

  without_part_lem : ℕ → ℕ → ℕ
  without_part_lem i a = indicator (has group i && not (has a i)) * (indicator (eqb (missing n group a) k) * ways a * indicator (works a))

  with_part_lem : ℕ → ℕ → ℕ
  with_part_lem i a = indicator (has group i && not (has a i)) * (indicator (eqb (missing n group a) k) * ways a * indicator (works (a + 2 ^ i)))

  by_parts_difference : by_parts n works group k + sum_below (λ i. sum_below (without_part_lem i) (2 ^ n)) n
      ≡ sum_below (λ i. sum_below (with_part_lem i) (2 ^ n)) n
  unfolding by_parts without_part_lem with_part_lem ways
  by_parts_difference =
      sym (sum_below_add _ _ n)
      ∙ sum_below_same _ _ n (λ i l. sym (sum_below_add _ _ (2 ^ n)) ∙ sum_below_same _ _ (2 ^ n) (λ a h.
      rw (missing_is n group a within h)
      (stop_is_difference (factorial (size a) * factorial (n - size a - 1)) (has group i) (has a i) (eqb (size group - inside group a) k)
      (works a) (works (a + 2 ^ i)) (upward_by_parts n works coherent.upward a i h l))))

  module _ (most : k ≤ size group) where
    without_is_taken : sum_below (λ i. sum_below (without_part_lem i) (2 ^ n)) n ≡ taken n works group k
    unfolding without_part_lem taken ways
    without_is_taken =
        sum_below_weights (λ i a. indicator (has group i && not (has a i)))
        (λ a. indicator (eqb (missing n group a) k) * ways a * indicator (works a)) n (2 ^ n)
        ∙ sum_below_same _ _ (2 ^ n) (λ a h.
        let all : missing n group a + inside group a ≡ size group = missing_inside n group a within h in
        weighed (missing n group a) k (ways a) (eqb (missing n group a) k) (eqb (inside group a) (size group - k)) (works a)
        (same_eqb (missing n group a) k (inside group a) (size group - k) (λ e. omega arith) (λ e. omega arith))
        (eqb-true (missing n group a) k)
        ∙ ap (λ (u : ℕ). cond (works a && eqb (inside group a) (size group - k)) u 0)
        (sym (mul_assoc k (factorial (size a)) (factorial (n - size a - 1)))))

    -- what a path set gives where it is the set with the part
    reached : ℕ → ℕ
    reached a = indicator (eqb (suc (missing n group a)) k) * (factorial (size a - 1) * factorial (n - size a)) * indicator (works a)

    with_is_reached : (i : ℕ) → i < n → (a : ℕ) → a < 2 ^ n
        → with_part_lem i a ≡ indicator (has group i) * (indicator (not (has a i)) * reached (a + 2 ^ i))
    unfolding with_part_lem reached ways
    with_is_reached i l a h = cases (true_or_false (has group i)) (true_or_false (has a i))
      where
        cases : (has group i ≡ true) ⊎ (has group i ≡ false) → (has a i ≡ true) ⊎ (has a i ≡ false)
            → with_part_lem i a ≡ indicator (has group i) * (indicator (not (has a i)) * reached (a + 2 ^ i))
        cases (inr g) b = rw g (omega arith)
        cases (inl g) (inl b) = rw (g, b) (omega arith)
        cases (inl g) (inr b) =
            let less : suc (size a) - 1 ≡ size a = omega arith in
            let rest : n - suc (size a) ≡ n - size a - 1 = omega arith in
            rw (g, b, missing_add n group i a l b g, size_add a i b, less, rest) (sym (one-mul _))

    with_is_added : sum_below (λ i. sum_below (with_part_lem i) (2 ^ n)) n ≡ added n works group k
    unfolding added reached
    with_is_added =
        sum_below_same _ (λ i. sum_below (λ a. indicator (has a i && has group i) * reached a) (2 ^ n)) n (λ i l.
        sum_below_same (with_part_lem i) _ (2 ^ n) (with_is_reached i l)
        ∙ sum_below_mul (indicator (has group i)) (λ a. indicator (not (has a i)) * reached (a + 2 ^ i)) (2 ^ n)
        ∙ ap (λ (u : ℕ). indicator (has group i) * u) (part_more n i reached l)
        ∙ sym (sum_below_mul (indicator (has group i)) (λ a. indicator (has a i) * reached a) (2 ^ n))
        ∙ sum_below_same _ _ (2 ^ n) (λ a h. both (has group i) (has a i) (reached a)))
        ∙ sum_below_weights (λ i a. indicator (has a i && has group i)) reached n (2 ^ n)
        ∙ sum_below_same _ _ (2 ^ n) (λ a h.
        let all : missing n group a + inside group a ≡ size group = missing_inside n group a within h in
        ap (λ (u : ℕ). u * reached a) (sym (size_meet n group a h))
        ∙ weighed (inside group a) (size group - k + 1) (factorial (size a - 1) * factorial (n - size a)) (eqb (suc (missing n group a)) k)
        (eqb (inside group a) (size group - k + 1)) (works a)
        (same_eqb (suc (missing n group a)) k (inside group a) (size group - k + 1) (λ e. omega arith) (λ e. omega arith))
        (λ t. omega (arith, eqb-true (suc (missing n group a)) k t))
        ∙ ap (λ (u : ℕ). cond (works a && eqb (inside group a) (size group - k + 1)) u 0)
        (sym (mul_assoc (size group - k + 1) (factorial (size a - 1)) (factorial (n - size a)))))
      where
        both : (p q : Bool) (x : ℕ) → indicator p * (indicator q * x) ≡ indicator (q && p) * x
        both true true x = omega arith
        both true false x = omega arith
        both false true x = omega arith
        both false false x = omega arith

-- The counting theorem: with the second sum of 001's eq. 1 the count is the first, both times n!. For k from 1 to m this is 01's share.
pub count_and_taken : (n : ℕ) (works : ℕ → Bool) → Semicoherent n works → (group : ℕ) → group < 2 ^ n → (k : ℕ) → k ≤ size group
    → count n works group k + taken n works group k ≡ added n works group k
count_and_taken n works coherent group within k most =
    ap₂ (λ (u v : ℕ). u + v) (count_is_by_parts n works coherent group within k) (sym (without_is_taken n works coherent group within k most))
    ∙ by_parts_difference n works coherent group within k ∙ with_is_added n works coherent group within k most
