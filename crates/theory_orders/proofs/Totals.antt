-- With all parts as the group each order is counted once, for the place of its stopping entry: the counts for k = 1 to n total n!.
-- Assumes nothing.
use mathlib.Core.Path.{◌≡◌, sym, ap, ◌∙◌}
use mathlib.Core.Bool.{Bool, true, false, not, ◌&&◌}
use mathlib.Core.Logic.{◌⊎◌, inl, inr}
use Prim.Native.Nat.{ℕ, suc, ◌+◌, ◌-◌, ◌*◌, ◌^◌, ◌<◌}
use native.Mathlib.Nat.{zero-mul}
use native.Mathlib.Omega.{arith}
use native.Mathlib.Numerals.{sub-one, add-one}
use lib.Dec.{eqb, eqb-suc-suc}
use borrow.Author.Tests.{lt-ltb}
use Rattle.numbers.specs.Counts.{factorial}
use Rattle.theory_sums.specs.Sums.{indicator, sum, sum_below}
use Rattle.theory_sums.proofs.Sums.{sum_same, sum_ones, sum_below_same, sum_below_zero, sum_below_mul, sum_below_exchange, sum_below_once}
use Rattle.theory_sets.specs.Masks.{has, size}
use Rattle.theory_sets.specs.Structures.{Semicoherent}
use Rattle.numbers.proofs.Bools.{true_or_false}
use Rattle.theory_sets.proofs.Masks.{has_full}
use Rattle.theory_orders.specs.Orders.{orders, mask}
use Rattle.theory_orders.specs.Counting.{entries, stops, in_group, count}
use Rattle.theory_orders.proofs.Orders.{orders_length, orders_only}
use Rattle.theory_orders.proofs.Stopping.{one_stop}
use Rattle.theory_orders.proofs.Sizes.{missing, size_rest, size_lacking}
use Rattle.theory_orders.proofs.Divisions.{AtPlace, met, leaving_after, sum_entries}
use Rattle.theory_orders.proofs.Counting.{stops_there, count_met}

-- of the numbers 1 to n a number from 1 to n is one
one_of : (n u : ℕ) → u < n → sum_below (λ k. indicator (eqb (suc u) (k + 1))) n ≡ 1
one_of n u h =
    sum_below_same _ (λ k. indicator (eqb u k)) n (λ k l. ap indicator (ap (λ (x : ℕ). eqb (suc u) x) (add-one k) ∙ eqb-suc-suc u k))
    ∙ sum_below_once u n ∙ ap indicator (lt-ltb u n h)

-- an entry takes the system from working to stopped
stops_anywhere : (ℕ → Bool) → ℕ → AtPlace
stops_anywhere works i b c l a = indicator (not (works a) && works (2 ^ (i - 1) + a))

module _ (n : ℕ) (works : ℕ → Bool) (coherent : Semicoherent n works) where
  orders_stop : sum (λ order. sum (met (2 ^ n - 1) (stops_anywhere works)) (entries order)) (orders n) ≡ factorial n
  unfolding met stops_anywhere stops mask sum
  orders_stop =
      sum_same _ (λ order. 1) (orders n) (λ order m. one_stop n works coherent order (orders_only n order m))
      ∙ sum_ones (orders n) ∙ orders_length n

  -- a part outside a set: the parts outside the set are 1 to n in number
  once_each : (i a : ℕ) → i < n → a < 2 ^ n
      → sum_below (λ k. leaving_after (2 ^ n - 1) n (stops_there works (2 ^ n - 1) (k + 1)) i a) n ≡ leaving_after (2 ^ n - 1) n (stops_anywhere works) i a
  unfolding leaving_after stops_there stops_anywhere in_group
  once_each i a l h =
      sum_below_mul (indicator (not (has a i))) (λ k. ways * indicator (test && kth k)) n
      ∙ ap (λ (u : ℕ). indicator (not (has a i)) * u) (sum_below_mul ways (λ k. indicator (test && kth k)) n) ∙ cases (true_or_false (has a i))
    where
      ways : ℕ
      ways = factorial (size a) * factorial (n - size a - 1)

      test : Bool
      test = not (works a) && works (2 ^ (suc i - 1) + a)

      kth : ℕ → Bool
      kth k = in_group (2 ^ n - 1) (suc i) && eqb (missing n (2 ^ n - 1) a) (k + 1)

      missing_all : has a i ≡ false → missing n (2 ^ n - 1) a ≡ suc (n - size a - 1)
      missing_all b =
          let lacked : missing n (2 ^ n - 1) a ≡ sum_below (λ j. indicator (not (has a j))) n
          = sum_below_same _ _ n (λ j m. rw (has_full n j m)) in
          omega (arith, size_rest n a h, size_lacking n a i h l b)

      pick : (b : Bool) (u : ℕ) → u < n → sum_below (λ k. indicator (b && eqb (suc u) (k + 1))) n ≡ indicator b
      pick true u m = one_of n u m
      pick false u m = sum_below_zero n

      cases : (has a i ≡ true) ⊎ (has a i ≡ false)
          → indicator (not (has a i)) * (ways * sum_below (λ k. indicator (test && kth k)) n) ≡ indicator (not (has a i)) * (ways * indicator test)
      cases (inl b) = rw b (zero-mul _ ∙ sym (zero-mul _))
      cases (inr b) =
          ap (λ (u : ℕ). indicator (not (has a i)) * (ways * u))
          (rw (ap (has (2 ^ n - 1)) (sub-one (suc i)) ∙ has_full n i l, missing_all b)
          (pick test (n - size a - 1) (omega (arith, size_lacking n a i h l b))))

pub counts_total : (n : ℕ) (works : ℕ → Bool) → Semicoherent n works → sum_below (λ k. count n works (2 ^ n - 1) (k + 1)) n ≡ factorial n
counts_total n works coherent =
    sum_below_same _ _ n (λ k l.
    count_met works (2 ^ n - 1) (k + 1) n coherent ∙ sum_entries (2 ^ n - 1) n (stops_there works (2 ^ n - 1) (k + 1)))
    ∙ sum_below_exchange (λ k i. sum_below (leaving_after (2 ^ n - 1) n (stops_there works (2 ^ n - 1) (k + 1)) i) (2 ^ n)) n n
    ∙ sum_below_same _ _ n (λ i l.
    sum_below_exchange (λ k a. leaving_after (2 ^ n - 1) n (stops_there works (2 ^ n - 1) (k + 1)) i a) n (2 ^ n)
    ∙ sum_below_same _ _ (2 ^ n) (λ a h. once_each n works coherent i a l h))
    ∙ sym (sum_entries (2 ^ n - 1) n (stops_anywhere works)) ∙ orders_stop n works coherent
