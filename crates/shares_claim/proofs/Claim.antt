-- Demand 3: where no check refuses, the set-by-set route and the route through h each give m shares, and the k-th share of either is the count for
-- the group and k. Assumes nothing.
use mathlib.Core.Path.{◌≡◌, refl, sym, ap, ◌∙◌, subst}
use mathlib.Core.Bool.{Bool}
use mathlib.Core.List.{List, ◌++◌}
use Prim.Native.Nat.{ℕ, suc, ◌^◌, ◌≤◌, ◌<◌}
use native.Mathlib.Omega.{arith}
use lib.IntN.{ℤ, pos}
use lib.ListN.{length, take, drop}
use lib.Seq.{take-append_seam}
use Rattle.std.specs.Prelude.{Ok}
use Rattle.answer.specs.Outcome.{outcome, delivered, Numbered, Verdict}
use Rattle.answer.proofs.Outcomes.{then_accepted}
use Rattle.numbers.proofs.Tables.{tabulate_length, tabulate_same}
use Rattle.theory_sets.specs.Masks.{size}
use Rattle.theory_sets.specs.Structures.{Semicoherent}
use Rattle.theory_sets.specs.Tables.{in_table}
use Rattle.theory_orders.specs.Counting.{count}
use Rattle.answer.proofs.Deliveries.{delivered_whole, given}
use Rattle.answer.specs.Checks.{group_refusal}
use Rattle.answer.proofs.Checks.{group_right}
use Rattle.structure.specs.Checks.{table_refusal}
use Rattle.structure.proofs.Acceptance.{accepted_table}
use Rattle.shares_claim.specs.Polynomials.{share_from, in_cells, shares_from_cells}
use Rattle.shares_claim.specs.SetBySet.{shares_by_sets}
use Rattle.shares_claim.specs.Reliability.{reliability, reliability_cells, shares_by_reliability}
use Rattle.shares_claim.specs.Refusals.{shares_refusal}
use Rattle.shares_claim.specs.Claim.{group_counts, GivesCounts}
use Rattle.shares_claim.proofs.Routes.{share_is_count, routes_agree}
use Rattle.shares_claim.proofs.Cells.{in_cells_lem, share_from_same}

-- ---- the lists of shares

module _ (n : ℕ) (works : ℕ → Bool) (coherent : Semicoherent n works) (group : ℕ) (within : group < 2 ^ n) where
  pub by_sets_counts : shares_by_sets n works group ≡ group_counts n works group
  unfolding shares_by_sets group_counts
  by_sets_counts = tabulate_same (size group) _ _ (λ k l. share_is_count n works coherent group within (suc k) l)

  -- from the cells of h, by Algorithm 2
  pub cells_share : (k : ℕ) → 1 ≤ k → k ≤ size group
      → share_from n (size group) (in_cells n (size group) (reliability_cells n works group)) k ≡ pos (count n works group k)
  cells_share k some most =
      share_from_same n (size group) (in_cells n (size group) (reliability_cells n works group)) (reliability n works group) k (omega arith)
      (in_cells_lem n works group)
      ∙ routes_agree n works group within k some most ∙ share_is_count n works coherent group within k most

  pub by_reliability_counts : shares_by_reliability n works group ≡ group_counts n works group
  unfolding shares_by_reliability shares_from_cells group_counts
  by_reliability_counts = tabulate_same (size group) _ _ (λ k l. cells_share (suc k) (omega arith) l)

-- ---- the checks

pub record AcceptedGroup (n : ℕ) (table : List ℕ) (group : ℕ) : Type 0 where
  pub few : n ≤ 16
  pub coherent : Semicoherent n (in_table table)
  pub some : 0 < group
  pub within : group < 2 ^ n

pub accepted_group : (n : ℕ) (table : List ℕ) (group : ℕ) → shares_refusal n table group ≡ Ok tt → AcceptedGroup n table group
unfolding shares_refusal
accepted_group n table group h =
    let both = then_accepted (table_refusal n table) (group_refusal n group (Ok tt)) h in
    let known = group_right n group (Ok tt) both.1 in
    record {
      few = (accepted_table n table both.0).few;
      coherent = (accepted_table n table both.0).semicoherent;
      some = known.0;
      within = known.1;
    }

-- ---- the claim

pub counts_length : (n : ℕ) (works : ℕ → Bool) (group : ℕ) → length (group_counts n works group) ≡ size group
unfolding group_counts
counts_length n works group = tabulate_length (size group) _

-- what is delivered where nothing refuses and the result is the counts
counts_given : (n : ℕ) (works : ℕ → Bool) (group : ℕ) (verdict : Verdict) (result buffer : List ℤ) → verdict ≡ Ok tt
    → result ≡ group_counts n works group → size group ≤ length buffer → GivesCounts n works group (delivered verdict result buffer)
counts_given n works group verdict result buffer accepted counts long =
    subst (GivesCounts n works group)
    (delivered_whole verdict result buffer accepted (size group) (sym cells) (result ++ drop (size group) buffer) refl long)
    (record {
      given = refl;
      shares = ap (λ (m : ℕ). take m (result ++ drop (size group) buffer)) (sym cells)
          ∙ take-append_seam result (drop (size group) buffer) ∙ counts;
    })
  where
    cells : length result ≡ size group
    cells = ap length counts ∙ counts_length n works group

-- and the other way round: what gives the counts has them as its result
pub given_counts : (n : ℕ) (works : ℕ → Bool) (group : ℕ) (verdict : Verdict) (result buffer : List ℤ)
    → GivesCounts n works group (delivered verdict result buffer) → result ≡ group_counts n works group
given_counts n works group verdict result buffer gives =
    sym (given verdict result buffer _ (size group) told).front ∙ gives.shares
  where
    told : outcome (Ok (size group)) (delivered verdict result buffer).buffer ≡ delivered verdict result buffer
    told = ap (λ (answer : Numbered). outcome answer (delivered verdict result buffer).buffer) (sym gives.given)

pub shares_are_counts : (n : ℕ) (table : List ℕ) (group : ℕ) (first second : List ℤ) → shares_refusal n table group ≡ Ok tt
    → size group ≤ length first → size group ≤ length second
    → GivesCounts n (in_table table) group (delivered (shares_refusal n table group) (shares_by_sets n (in_table table) group) first)
    × GivesCounts n (in_table table) group (delivered (shares_refusal n table group) (shares_by_reliability n (in_table table) group) second)
shares_are_counts n table group first second accepted long other =
    let checked = accepted_group n table group accepted in (
      counts_given n (in_table table) group _ _ first accepted
          (by_sets_counts n (in_table table) checked.coherent group checked.within) long,
      counts_given n (in_table table) group _ _ second accepted
          (by_reliability_counts n (in_table table) checked.coherent group checked.within) other,
    )
