-- `shares_by_sets::shares_by_sets` meets its contract: a refusal and a short buffer leave the shares alone, and else they are written set by set.
-- Assumes nothing.
use mathlib.Core.Path.{◌≡◌, sym, ap, ◌∙◌, subst}
use mathlib.Core.List.{◌++◌}
use Prim.Native.Nat.{ℕ, ◌≤◌}
use lib.ListN.{length, drop}
use Rattle.std.specs.Prelude.{Ok}
use Rattle.answer.specs.Outcome.{and_then, room}
use Rattle.answer.proofs.Outcomes.{then_accepted, room_accepted}
use Rattle.answer.proofs.Deliveries.{checked_whole}
use Rattle.theory_sets.specs.Tables.{in_table}
use Rattle.shares_claim.specs.SetBySet.{shares_by_sets}
use Rattle.shares_claim.specs.Refusals.{shares_refusal}
use Rattle.shares_claim.proofs.Claim.{accepted_group}
use Rattle.shares_by_sets.proofs.Sets.{by_sets_length}
use Rattle.shares_by_sets.proofs.shares_by_sets.Goals as goal

pub write_by_sets-requires : goal.write_by_sets-requires
write_by_sets-requires c =
    -- nothing is refused, and there is room
    let passed : and_then (shares_refusal c.args.n c.args.table.now c.args.group) (room c.size-m.result (length c.args.shares.now)) ≡ Ok tt =
    sym c.judge.ensures ∙ c.in_ok-judge.was in
    let a = c.args in
    let both = then_accepted (shares_refusal a.n a.table.now a.group) _ passed in
    let group = accepted_group a.n a.table.now a.group both.0 in
    record {
      n_bound = group.few;
      group_bound = group.within;
      group_in_bounds = subst (λ (m : ℕ). m ≤ length a.shares.now) c.size-m.ensures (room_accepted c.size-m.result (length a.shares.now) both.1);
    }

pub returns : goal.returns
returns c =
    -- the cells needed are the shares
    let long : c.size-m.result ≡ length (shares_by_sets c.args.n (in_table c.args.table.now) c.args.group) =
    let a = c.args in
    c.size-m.ensures ∙ sym (by_sets_length a.n (in_table a.table.now) a.group) in
    -- nothing is refused, and there is room
    let passed : and_then (shares_refusal c.args.n c.args.table.now c.args.group) (room c.size-m.result (length c.args.shares.now)) ≡ Ok tt =
    sym c.judge.ensures ∙ c.in_ok-judge.was in
    let a = c.args in
    let result = shares_by_sets a.n (in_table a.table.now) a.group in
    checked_whole (shares_refusal a.n a.table.now a.group) result a.shares.now c.size-m.result (λ e. long) passed _
    (c.write_by_sets.ensures ∙ ap (λ (k : ℕ). result ++ drop k a.shares.now) (sym c.size-m.ensures))
