-- The route through h: a list that begins with h's cells has their coefficients, so its bounds are theirs, its shares are in 0..n! and they are
-- those of the definition. Assumes nothing.
use mathlib.Core.Path.{◌≡◌, sym, ap, ◌∙◌, subst}
use mathlib.Core.Bool.{Bool}
use mathlib.Core.List.{List, ◌++◌}
use Prim.Native.Nat.{ℕ, suc, ◌+◌, ◌-◌, ◌*◌, ◌^◌, ◌≤◌, ◌<◌}
use native.Mathlib.Nat.{le_trans, le_of_eq, mul-le-mul_right}
use native.Mathlib.Omega.{arith}
use lib.Count.{ones-le}
use lib.IntN.{ℤ, pos, nat_abs}
use lib.ListN.{length, get_or, get_or-append}
use Rattle.std.specs.Prelude.{Ok, Err}
use Rattle.numbers.proofs.Tables.{tabulate_length, tabulate_same}
use Rattle.theory_sets.specs.Masks.{size}
use Rattle.theory_sets.specs.Structures.{Semicoherent}
use Rattle.theory_sets.specs.Tables.{in_table}
use Rattle.answer.specs.Outcome.{outcome, delivered, Numbered}
use Rattle.answer.specs.declared.Refusal.{Refusal}
use Rattle.answer.proofs.Deliveries.{refused_kept, refused_by, Given, given}
use Rattle.theory_orders.specs.Counting.{count}
use Rattle.shares_claim.specs.Polynomials.{row_length, in_cells, shares_from_cells}
use Rattle.shares_claim.specs.Reliability.{reliability_cells, shares_by_reliability}
use Rattle.shares_claim.specs.Inside.{Bounded}
use Rattle.shares_claim.proofs.Bounds.{cells_bounded}
use Rattle.shares_claim.proofs.Cells.{share_from_same}
use Rattle.shares_claim.specs.Refusals.{shares_refusal}
use Rattle.shares_claim.proofs.Claim.{cells_share, accepted_group}
use Rattle.shares_claim.proofs.Ranges.{count_most}
use Rattle.shares_by_polynomial.specs.Inside.{InRange, share_of_cells}
use Rattle.shares_polynomial.proofs.Coefficients.{cells_few, cells_length}

module _ (n : ℕ) (works : ℕ → Bool) (group : ℕ) (within : group < 2 ^ n) (cells rest : List ℤ) (is : cells ≡ reliability_cells n works group ++ rest) where
  coefficient_same : (i j : ℕ) → i ≤ size group → j ≤ n - size group
      → in_cells n (size group) cells i j ≡ in_cells n (size group) (reliability_cells n works group) i j
  unfolding in_cells
  coefficient_same i j h l =
      let low : i * row_length n (size group) + j < (size group + 1) * row_length n (size group)
      = omega (arith, mul-le-mul_right (row_length n (size group)) h) in
      ap (λ (xs : List ℤ). get_or xs (i * row_length n (size group) + j) (pos 0)) is
      ∙ get_or-append (reliability_cells n works group) rest (pos 0) (i * row_length n (size group) + j) (rw (cells_length n works group) low)

  share_same : (k : ℕ) → 1 ≤ k → k ≤ size group → share_of_cells n (size group) cells k ≡ share_of_cells n (size group) (reliability_cells n works group) k
  share_same k some most = share_from_same n (size group) _ _ k (omega arith) coefficient_same

  module _ (m : ℕ) (sized : m ≡ size group) where
    pub coefficients_bounded : Bounded n m (in_cells n m cells)
    coefficients_bounded =
        subst (λ (m : ℕ). Bounded n m (in_cells n m cells)) (sym sized) (λ i j h l.
        le_trans (le_of_eq (ap nat_abs (coefficient_same i j h l))) (cells_bounded n works group within i j h l))

    pub shares_in_range : Semicoherent n works → (k : ℕ) → 1 ≤ k → k ≤ m → InRange n (share_of_cells n m cells k)
    shares_in_range coherent k some most = subst (λ (m : ℕ). InRange n (share_of_cells n m cells k)) (sym sized) (counted (subst (λ (x : ℕ). k ≤ x) sized most))
      where
        number : k ≤ size group → share_of_cells n (size group) cells k ≡ pos (count n works group k)
        number h = share_same k some h ∙ cells_share n works coherent group within k some h

        counted : k ≤ size group → InRange n (share_of_cells n (size group) cells k)
        counted h = (
          number h ∙ ap (λ (z : ℤ). pos (nat_abs z)) (sym (number h)),
          le_trans (le_of_eq (ap nat_abs (number h))) (count_most n works group k),
        )

    -- the shares from the list are those through h
    pub shares_same : shares_from_cells n m cells ≡ shares_by_reliability n works group
    unfolding shares_by_reliability shares_from_cells
    shares_same =
        ap (λ (m : ℕ). shares_from_cells n m cells) sized
        ∙ tabulate_same (size group) _ _ (λ k l. share_same (suc k) (omega arith) l)

-- there are m shares from cells
pub from_cells_length : (n m : ℕ) (cells : List ℤ) → m ≡ length (shares_from_cells n m cells)
unfolding shares_from_cells
from_cells_length n m cells = sym (tabulate_length m _)

-- where nothing refuses, 289 cells are enough for h
pub cells_fit : (n : ℕ) (table : List ℕ) (group : ℕ) → shares_refusal n table group ≡ Ok tt → length (reliability_cells n (in_table table) group) ≤ 289
cells_fit n table group accepted =
    let checked = accepted_group n table group accepted in
    le_trans (le_of_eq (cells_length n (in_table table) group)) (cells_few n (size group) checked.few (ones-le n group checked.within))

-- what a call that works out h in a buffer of 289 cells tells
module _ (n : ℕ) (table : List ℕ) (group : ℕ) (buffer after : List ℤ) (answer : Numbered) (long : length buffer ≡ 289)
    (left : outcome answer after ≡ delivered (shares_refusal n table group) (reliability_cells n (in_table table) group) buffer) where
  pub found_refused : (why : Refusal) → answer ≡ Err why → (result shares : List ℤ) → outcome (Err why) shares ≡ delivered (shares_refusal n table group) result shares
  found_refused why is result shares =
      refused_kept (shares_refusal n table group) result shares why
      (refused_by (shares_refusal n table group) (reliability_cells n (in_table table) group) buffer after why
      (λ accepted. le_trans (cells_fit n table group accepted) (le_of_eq (sym long))) (ap (λ (w : Numbered). outcome w after) (sym is) ∙ left))

  pub found_given : (count : ℕ) → answer ≡ Ok count → Given (shares_refusal n table group) (reliability_cells n (in_table table) group) buffer after count
  found_given count is =
      given (shares_refusal n table group) (reliability_cells n (in_table table) group) buffer after count (ap (λ (w : Numbered). outcome w after) (sym is) ∙ left)
