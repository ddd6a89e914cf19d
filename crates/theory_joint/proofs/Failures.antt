-- An order of failures, machine by machine: the k-th failure stops a machine exactly if it works on what is left after k - 1 failures and not
-- on what is left after k. So the counts of the square add up, by rows, by columns and in all, without a formula. Assumes nothing.
use mathlib.Core.Path.{◌≡◌, refl, sym, ap, ap₂, ◌∙◌}
use mathlib.Core.Bool.{Bool, true, false, not, ◌&&◌, ◌||◌, and-false}
use mathlib.Core.List.{List, [], ◌∷◌, map, Memᴰ}
use Prim.Native.Nat.{ℕ, zero, suc, ◌+◌, ◌-◌, ◌^◌, ◌≤◌, ◌<◌}
use native.Mathlib.Nat.{le_refl, le_trans, le_step, le_of_eq, le_of_suc-le-suc, not-suc-le-zero, add-zero, zero-add, add-suc}
use native.Mathlib.Omega.{arith}
use native.Mathlib.Numerals.{sub-one, add-one}
use lib.Dec.{eqb, eqb-suc-suc, eqb-suc-zero, eqb-zero-suc}
use lib.ListN.{length, drop, drop_of_length-le}
use Rattle.theory_sums.specs.Sums.{indicator, sum, how_many, some, sum_below}
use Rattle.theory_sums.proofs.Sums.{some_none, sum_ones, sum_below_ones}
use Rattle.theory_sets.specs.Structures.{Semicoherent}
use Rattle.theory_sets.proofs.Masks.{has_full}
use Rattle.theory_orders.specs.Orders.{orders, mask}
use Rattle.theory_orders.specs.Counting.{Entry, behind, entries, stops, in_group, stops_as_kth}
use Rattle.theory_orders.proofs.Orders.{orders_only, sum_of_order}
use Rattle.theory_orders.proofs.Positions.{Within, order_within, within_rest, within_first, mask_below, mask_order}
use Rattle.theory_orders.proofs.Stopping.{stop_or_later, works_before}
use Rattle.theory_joint.specs.Joint.{stopped_by}

-- ---- the k-th failure

-- the machine works on what is left after so many failures
unfoldable pub works_after : (ℕ → Bool) → ℕ → List ℕ → Bool
works_after works k order = works (mask (drop k order))

-- a test on the entries of a list, with a position in front of each
some_behind : (test other : Entry → Bool) (i : ℕ) (xs : List Entry) → ((e : Entry) → test (behind i e) ≡ other e) → some test (map (behind i) xs) ≡ some other xs
unfolding some
some_behind test other i [] h = refl
some_behind test other i (e ∷ xs) h = ap₂ (λ (p q : Bool). p || q) (h e) (some_behind test other i xs h)

-- a position of n parts is in the group of all of them
in_all : (n i : ℕ) (rest : List ℕ) → Within n (i ∷ rest) → in_group (2 ^ n - 1) i ≡ true
unfolding in_group
in_all n i rest h = let first = within_first n i rest h in rw (first.1, sub-one (suc first.0)) (has_full n first.0 first.2)

module _ (n : ℕ) (works : ℕ → Bool) where
  -- an entry is the k-th with a position in front of it as it is the one before the k-th without
  kth_behind : (i k : ℕ) (rest : List ℕ) → Within n (i ∷ rest) → (e : Entry) → stops_as_kth works (2 ^ n - 1) (suc k) (behind i e) ≡ stops_as_kth works (2 ^ n - 1) k e
  unfolding stops_as_kth stops sum
  kth_behind i k rest h e =
      ap (λ (b : Bool). stops works e && (in_group (2 ^ n - 1) e.position && b))
      (ap (λ (b : Bool). eqb (indicator b + how_many (in_group (2 ^ n - 1)) e.before + 1) (suc k)) (in_all n i rest h)
      ∙ ap (λ (x : ℕ). eqb x (suc k)) (omega arith)
      ∙ eqb-suc-suc (how_many (in_group (2 ^ n - 1)) e.before + 1) k)

  never_zeroth : (e : Entry) → stops_as_kth works (2 ^ n - 1) 0 e ≡ false
  unfolding stops_as_kth
  never_zeroth e =
      ap (λ (x : ℕ). stops works e && (in_group (2 ^ n - 1) e.position && eqb x 0)) (add-one (how_many (in_group (2 ^ n - 1)) e.before))
      ∙ ap (λ (b : Bool). stops works e && (in_group (2 ^ n - 1) e.position && b)) (eqb-suc-zero (how_many (in_group (2 ^ n - 1)) e.before))
      ∙ ap (λ (b : Bool). stops works e && b) (and-false (in_group (2 ^ n - 1) e.position)) ∙ and-false (stops works e)

  -- the k-th failure stops the machine: it works on what is left before it, and not on what is left after it
  pub stopped_by_lem : (k : ℕ) (list : List ℕ) → Within n list → k < length list → stopped_by n works (suc k) list ≡ not (works_after works (suc k) list) && works_after works k list
  unfolding stopped_by entries some works_after stops_as_kth stops mask sum
  stopped_by_lem k [] h l = absurd (not-suc-le-zero l)
  stopped_by_lem zero (i ∷ rest) h l =
      ap₂ (λ (p q : Bool). (stops works (record { before = []; position = i; after = rest }) && (p && true)) || q) (in_all n i rest h)
      (some_behind (stops_as_kth works (2 ^ n - 1) 1) (stops_as_kth works (2 ^ n - 1) 0) i (entries rest) (kth_behind i 0 rest h)
      ∙ some_none (stops_as_kth works (2 ^ n - 1) 0) (entries rest) never_zeroth)
      ∙ tidy _
    where
      tidy : (p : Bool) → (p && true) || false ≡ p
      tidy true = refl
      tidy false = refl
  stopped_by_lem (suc k) (i ∷ rest) h l =
      ap₂ (λ (p q : Bool). (stops works (record { before = []; position = i; after = rest }) && (in_group (2 ^ n - 1) i && p)) || q)
      (eqb-suc-suc 0 (suc k) ∙ eqb-zero-suc k)
      (some_behind (stops_as_kth works (2 ^ n - 1) (suc (suc k))) (stops_as_kth works (2 ^ n - 1) (suc k)) i (entries rest) (kth_behind i (suc k) rest h)
      ∙ stopped_by_lem k rest (within_rest n i rest h) (le_of_suc-le-suc l))
      ∙ tidy (stops works (record { before = []; position = i; after = rest })) (in_group (2 ^ n - 1) i) _
    where
      tidy : (p q r : Bool) → (p && (q && false)) || r ≡ r
      tidy true true r = refl
      tidy true false r = refl
      tidy false q r = refl

-- ---- as the parts fail

module _ (n : ℕ) (works : ℕ → Bool) (coherent : Semicoherent n works) where
  -- what works after a failure more worked before it
  works_earlier : (k : ℕ) (list : List ℕ) → Within n list → works_after works (suc k) list ≡ true → works_after works k list ≡ true
  unfolding works_after
  works_earlier k [] h w = cases k w
    where
      cases : (j : ℕ) → works (mask (drop (suc j) [])) ≡ true → works (mask (drop j [])) ≡ true
      cases zero v = v
      cases (suc j) v = v
  works_earlier zero (i ∷ rest) h w = works_before n works coherent i rest h w
  works_earlier (suc k) (i ∷ rest) h w = works_earlier k rest (within_rest n i rest h) w

  pub works_since : (k d : ℕ) (list : List ℕ) → Within n list → works_after works (k + d) list ≡ true → works_after works k list ≡ true
  works_since k zero list h w = rw (add-zero k) at w
  works_since k (suc d) list h w =
      works_since k d list h (works_earlier (k + d) list h (ap (λ (j : ℕ). works_after works j list) (sym (add-suc k d)) ∙ w))

  -- of the failures up to the k-th one stops the machine, unless it works on what is left after them
  stopped_until : (k : ℕ) (list : List ℕ) → Within n list → k ≤ length list
      → sum_below (λ j. indicator (stopped_by n works (suc j) list)) k + indicator (works_after works k list) ≡ indicator (works_after works 0 list)
  unfolding sum_below
  stopped_until zero list h l = zero-add (indicator (works_after works 0 list))
  stopped_until (suc k) list h l =
      omega (
        arith,
        stopped_until k list h (le_trans (le_step (le_refl k)) l),
        ap indicator (stopped_by_lem n works k list h l),
        stop_or_later (works_after works k list) (works_after works (suc k) list) (works_earlier k list h),
      )

pub order_length : (n : ℕ) (order : List ℕ) → Memᴰ order (orders n) → length order ≡ n
order_length n order m = sym (sum_ones order) ∙ sum_of_order (λ i. 1) n order m ∙ sum_below_ones n

pub order_in : (n : ℕ) (order : List ℕ) → Memᴰ order (orders n) → Within n order
order_in n order m = order_within n order (orders_only n order m)

-- what is left of an order after some failures is a set of n parts
pub left_below : (n k : ℕ) (list : List ℕ) → Within n list → mask (drop k list) < 2 ^ n
left_below n zero list h = mask_below n list h
left_below n (suc k) [] h = mask_below n [] h
left_below n (suc k) (i ∷ rest) h = left_below n k rest (within_rest n i rest h)

module _ (n : ℕ) (works : ℕ → Bool) (coherent : Semicoherent n works) (order : List ℕ) (m : Memᴰ order (orders n)) where
  -- exactly one of the n failures stops the machine
  pub stopped_once : sum_below (λ l. indicator (stopped_by n works (suc l) order)) n ≡ 1
  unfolding works_after mask sum
  stopped_once =
      omega (
        arith,
        stopped_until n works coherent n order (order_in n order m) (le_of_eq (sym (order_length n order m))),
        ap indicator (ap works (mask_order n order (orders_only n order m)) ∙ coherent.full),
        ap indicator (ap (λ (list : List ℕ). works (mask list)) (drop_of_length-le order (le_of_eq (order_length n order m))) ∙ coherent.empty),
      )
