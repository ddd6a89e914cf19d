-- In a semicoherent structure each failure order has exactly one entry that takes the system from working to stopped: as the parts fail the
-- sets left shrink, from the full set, which works, to the empty set, which does not. Assumes nothing.
use mathlib.Core.Path.{◌≡◌, refl, sym, ap, ◌∙◌}
use mathlib.Core.Bool.{Bool, true, false, not, ◌&&◌}
use mathlib.Core.List.{List, [], ◌∷◌}
use Prim.Native.Nat.{ℕ, ◌+◌}
use native.Mathlib.Nat.{add-zero}
use Rattle.theory_sums.specs.Sums.{indicator, sum, how_many}
use Rattle.theory_sums.proofs.Sums.{sum_map}
use Rattle.theory_sets.specs.Structures.{Semicoherent}
use Rattle.theory_sets.proofs.Structures.{upward_by_parts}
use Rattle.theory_orders.specs.Orders.{IsOrder, mask}
use Rattle.theory_orders.specs.Counting.{behind, entries, stops}
use Rattle.theory_orders.proofs.Positions.{Within, order_within, within_rest, mask_step, mask_below, mask_order}

-- the first entry stops the system, or a later one does, where the system works at first
pub stop_or_later : (first later : Bool) → (later ≡ true → first ≡ true) → indicator (not later && first) + indicator later ≡ indicator first
stop_or_later first true h = ap indicator (sym (h refl))
stop_or_later first false h = add-zero (indicator first)

module _ (n : ℕ) (works : ℕ → Bool) (coherent : Semicoherent n works) where
  -- a set of parts that are left works with the part that has failed last if it works without it
  pub works_before : (i : ℕ) (rest : List ℕ) → Within n (i ∷ rest) → works (mask rest) ≡ true → works (mask (i ∷ rest)) ≡ true
  works_before i rest h w =
      let step = mask_step n i rest h in
      ap works step.4
      ∙ upward_by_parts n works coherent.upward (mask rest) step.0 (mask_below n rest (within_rest n i rest h)) step.1 step.3 w

  stops_left : (list : List ℕ) → Within n list → how_many (stops works) (entries list) ≡ indicator (works (mask list))
  unfolding entries stops mask sum
  stops_left [] h = ap indicator (sym coherent.empty)
  stops_left (i ∷ rest) h =
      ap (λ (u : ℕ). indicator (not (works (mask rest)) && works (mask (i ∷ rest))) + u)
      (sum_map (λ entry. indicator (stops works entry)) (behind i) (entries rest) ∙ stops_left rest (within_rest n i rest h))
      ∙ stop_or_later (works (mask (i ∷ rest))) (works (mask rest)) (works_before i rest h)

pub one_stop : (n : ℕ) (works : ℕ → Bool) → Semicoherent n works → (order : List ℕ) → IsOrder n order → how_many (stops works) (entries order) ≡ 1
one_stop n works coherent order h =
    stops_left n works coherent order (order_within n order h) ∙ ap indicator (ap works (mask_order n order h) ∙ coherent.full)
