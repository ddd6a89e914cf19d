-- `shares_polynomial::reliability` meets its contract: a refusal and a short buffer leave the cells alone, and else the coefficients of h are written.
-- Assumes nothing.
use mathlib.Core.Path.{◌≡◌, sym, ap, ◌∙◌, subst}
use mathlib.Core.List.{◌++◌}
use Prim.Native.Nat.{ℕ, ◌+◌, ◌*◌, ◌≤◌}
use native.Mathlib.Omega.{arith}
use lib.Count.{ones-le}
use lib.ListN.{length, drop}
use Rattle.std.specs.Prelude.{Ok}
use Rattle.answer.specs.Outcome.{and_then, room}
use Rattle.answer.proofs.Outcomes.{then_accepted, room_accepted}
use Rattle.answer.proofs.Deliveries.{checked_refused, checked_whole}
use Rattle.theory_sets.specs.Masks.{size}
use Rattle.theory_sets.specs.Tables.{in_table}
use Rattle.shares_claim.specs.Polynomials.{row_length}
use Rattle.shares_claim.specs.Reliability.{reliability_cells}
use Rattle.shares_claim.specs.Refusals.{shares_refusal}
use Rattle.shares_claim.proofs.Claim.{accepted_group}
use Rattle.shares_polynomial.proofs.Coefficients.{cells_length}
use Rattle.shares_polynomial.proofs.reliability.Goals as goal

pub write_reliability-requires : goal.write_reliability-requires
write_reliability-requires c =
    let count : (accepted : shares_refusal c.args.n c.args.table.now c.args.group ≡ Ok tt) → c.cells_needed-count.result ≡ (size c.args.group + 1) * row_length c.args.n (size c.args.group) =
    λ accepted. let a = c.args in
    let group = accepted_group a.n a.table.now a.group accepted in
    c.cells_needed-count.ensures group.few (ones-le a.n a.group group.within) in
    -- nothing is refused, and there is room
    let passed : and_then (shares_refusal c.args.n c.args.table.now c.args.group) (room c.cells_needed-count.result (length c.args.cells.now)) ≡ Ok tt =
    sym c.judge.ensures ∙ c.in_ok-judge.was in
    let a = c.args in
    let both = then_accepted (shares_refusal a.n a.table.now a.group) _ passed in
    let group = accepted_group a.n a.table.now a.group both.0 in
    record {
      n_bound = group.few;
      group_bound = group.within;
      group_in_bounds = subst (λ (x : ℕ). x ≤ length a.cells.now) (count both.0) (room_accepted c.cells_needed-count.result (length a.cells.now) both.1);
    }

pub returns-in_err-judge : goal.returns-in_err-judge
returns-in_err-judge c =
    let a = c.args in
    let long : shares_refusal a.n a.table.now a.group ≡ Ok tt → c.cells_needed-count.result ≡ length (reliability_cells a.n (in_table a.table.now) a.group) =
    λ (accepted : shares_refusal a.n a.table.now a.group ≡ Ok tt). let group = accepted_group a.n a.table.now a.group accepted in
    c.cells_needed-count.ensures group.few (ones-le a.n a.group group.within) ∙ sym (cells_length a.n (in_table a.table.now) a.group) in
    let kept = checked_refused (shares_refusal a.n a.table.now a.group) (reliability_cells a.n (in_table a.table.now) a.group) a.cells.now
    c.cells_needed-count.result long (sym c.judge.ensures ∙ c.in_err-judge.was) in
    grind (arith, kept)

pub returns : goal.returns
returns c =
    let count : (accepted : shares_refusal c.args.n c.args.table.now c.args.group ≡ Ok tt) → c.cells_needed-count.result ≡ (size c.args.group + 1) * row_length c.args.n (size c.args.group) =
    λ accepted. let a = c.args in
    let group = accepted_group a.n a.table.now a.group accepted in
    c.cells_needed-count.ensures group.few (ones-le a.n a.group group.within) in
    let long : (accepted : shares_refusal c.args.n c.args.table.now c.args.group ≡ Ok tt) → c.cells_needed-count.result ≡ length (reliability_cells c.args.n (in_table c.args.table.now) c.args.group) =
    λ accepted. let a = c.args in
    count accepted ∙ sym (cells_length a.n (in_table a.table.now) a.group) in
    -- nothing is refused, and there is room
    let passed : and_then (shares_refusal c.args.n c.args.table.now c.args.group) (room c.cells_needed-count.result (length c.args.cells.now)) ≡ Ok tt =
    sym c.judge.ensures ∙ c.in_ok-judge.was in
    let a = c.args in
    let refusal = shares_refusal a.n a.table.now a.group in
    let result = reliability_cells a.n (in_table a.table.now) a.group in
    checked_whole refusal result a.cells.now c.cells_needed-count.result long passed _
    (c.write_reliability.ensures
    ∙ ap (λ (k : ℕ). result ++ drop k a.cells.now) (sym (count (then_accepted refusal _ passed).0)))
