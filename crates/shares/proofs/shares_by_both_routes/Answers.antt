-- `shares::shares_by_both_routes` meets its contract: a refusal and a short buffer leave both buffers alone, and else each route writes its
-- own, and by the claim of demand 3 either writes the counts.
-- Assumes nothing.
use mathlib.Core.Path.{◌≡◌, sym, ◌∙◌}
use Prim.Native.Nat.{◌≤◌}
use native.Mathlib.Omega.{arith}
use lib.ListN.{length}
use Rattle.std.specs.Prelude.{Ok}
use Rattle.answer.specs.Outcome.{and_then, room}
use Rattle.answer.proofs.Outcomes.{then_accepted, room_accepted}
use Rattle.theory_sets.specs.Tables.{in_table}
use Rattle.shares_claim.specs.SetBySet.{shares_by_sets}
use Rattle.shares_claim.specs.Reliability.{shares_by_reliability}
use Rattle.shares_claim.specs.Claim.{group_counts}
use Rattle.shares_claim.specs.Refusals.{shares_refusal}
use Rattle.shares_claim.proofs.Claim.{counts_length, given_counts, shares_are_counts}
use Rattle.shares.proofs.TwoBuffers.{route_written, both_unwritten, both_written}
use Rattle.shares.proofs.shares_by_both_routes.Goals as goal

pub returns-in_err-judge : goal.returns-in_err-judge
returns-in_err-judge c =
    let a = c.args in
    let kept = both_unwritten (shares_refusal a.n a.table.now a.group) (group_counts a.n (in_table a.table.now) a.group) c.size-m.result
    (c.size-m.ensures ∙ sym (counts_length a.n (in_table a.table.now) a.group))
    a.first.now a.second.now c.min-room.result c.min-room.ensures
    (sym c.judge.ensures ∙ c.in_err-judge.was) in
    grind (arith, kept)

pub returns : goal.returns
returns c =
    -- the cells needed are the counts
    let long : c.size-m.result ≡ length (group_counts c.args.n (in_table c.args.table.now) c.args.group) =
    let a = c.args in
    c.size-m.ensures ∙ sym (counts_length a.n (in_table a.table.now) a.group) in
    let a = c.args in
    let works = in_table a.table.now in
    let refusal = shares_refusal a.n a.table.now a.group in
    let result = group_counts a.n works a.group in
    let needed = c.size-m.result in
    let lent = c.min-room.result in
    let passed : and_then refusal (room needed lent) ≡ Ok tt = sym c.judge.ensures ∙ c.in_ok-judge.was in
    let checked = then_accepted refusal (room needed lent) passed in
    let fits : needed ≤ lent = room_accepted needed lent checked.1 in
    let first_fits : needed ≤ length a.first.now = omega (arith, c.min-room.ensures) in
    let second_fits : needed ≤ length a.second.now = omega (arith, c.min-room.ensures) in
    let claim = shares_are_counts a.n a.table.now a.group a.first.now a.second.now checked.0
    (rw c.size-m.ensures at first_fits) (rw c.size-m.ensures at second_fits) in
    both_written refusal result needed long a.first.now a.second.now lent c.min-room.ensures passed _ _
    (route_written refusal result needed long (shares_by_sets a.n works a.group) a.first.now _ c.shares_by_sets.result
    (given_counts a.n works a.group refusal _ a.first.now claim.0) checked.0 first_fits c.shares_by_sets.ensures)
    (route_written refusal result needed long (shares_by_reliability a.n works a.group) a.second.now _ c.shares_by_reliability.result
    (given_counts a.n works a.group refusal _ a.second.now claim.1) checked.0 second_fits c.shares_by_reliability.ensures)
