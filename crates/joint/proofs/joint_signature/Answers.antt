-- `joint::joint_signature` meets its contract: a refusal and a short buffer leave the cells alone, and else the square is written.
-- Assumes nothing.
use mathlib.Core.Path.{◌≡◌, sym, ap, ◌∙◌, subst}
use mathlib.Core.List.{◌++◌}
use Prim.Native.Nat.{ℕ, ◌*◌, ◌≤◌}
use native.Mathlib.Omega.{arith}
use lib.ListN.{length, drop}
use Rattle.std.specs.Prelude.{Ok}
use Rattle.answer.specs.Outcome.{and_then, room}
use Rattle.answer.proofs.Outcomes.{then_accepted, room_accepted}
use Rattle.answer.proofs.Deliveries.{checked_refused, checked_whole}
use Rattle.theory_sets.specs.Tables.{in_table}
use Rattle.theory_joint.specs.Joint.{joint_square}
use Rattle.joint.specs.Refusals.{joint_refusal}
use Rattle.joint.proofs.Tails.{tables_accepted, square_length}
use Rattle.joint.proofs.joint_signature.Goals as goal

pub write_square-requires : goal.write_square-requires
write_square-requires c =
    let count : (accepted : joint_refusal c.args.n c.args.first.now c.args.second.now ≡ Ok tt) → c.cells_needed-count.result ≡ c.args.n * c.args.n =
    λ accepted. let a = c.args in
    c.cells_needed-count.ensures (tables_accepted a.n a.first.now a.second.now accepted).0.few in
    -- nothing is refused, and there is room
    let passed : and_then (joint_refusal c.args.n c.args.first.now c.args.second.now) (room c.cells_needed-count.result (length c.args.cells.now)) ≡ Ok tt =
    sym c.judge.ensures ∙ c.in_ok-judge.was in
    let a = c.args in
    let both = then_accepted (joint_refusal a.n a.first.now a.second.now) _ passed in
    record {
      second_value = both.0;
      n_in_bounds = subst (λ (x : ℕ). x ≤ length a.cells.now) (count both.0) (room_accepted c.cells_needed-count.result (length a.cells.now) both.1);
    }

pub returns-in_err-judge : goal.returns-in_err-judge
returns-in_err-judge c =
    let a = c.args in
    let long : joint_refusal a.n a.first.now a.second.now ≡ Ok tt → c.cells_needed-count.result ≡ length (joint_square a.n (in_table a.first.now) (in_table a.second.now)) =
    λ (accepted : joint_refusal a.n a.first.now a.second.now ≡ Ok tt).
    c.cells_needed-count.ensures (tables_accepted a.n a.first.now a.second.now accepted).0.few ∙ sym (square_length a.n (in_table a.first.now) (in_table a.second.now)) in
    let kept = checked_refused (joint_refusal a.n a.first.now a.second.now) (joint_square a.n (in_table a.first.now) (in_table a.second.now)) a.cells.now
    c.cells_needed-count.result long (sym c.judge.ensures ∙ c.in_err-judge.was) in
    grind (arith, kept)

pub returns : goal.returns
returns c =
    let count : (accepted : joint_refusal c.args.n c.args.first.now c.args.second.now ≡ Ok tt) → c.cells_needed-count.result ≡ c.args.n * c.args.n =
    λ accepted. let a = c.args in
    c.cells_needed-count.ensures (tables_accepted a.n a.first.now a.second.now accepted).0.few in
    let long : (accepted : joint_refusal c.args.n c.args.first.now c.args.second.now ≡ Ok tt) → c.cells_needed-count.result ≡ length (joint_square c.args.n (in_table c.args.first.now) (in_table c.args.second.now)) =
    λ accepted. let a = c.args in
    (count accepted) ∙ sym (square_length a.n (in_table a.first.now) (in_table a.second.now)) in
    -- nothing is refused, and there is room
    let passed : and_then (joint_refusal c.args.n c.args.first.now c.args.second.now) (room c.cells_needed-count.result (length c.args.cells.now)) ≡ Ok tt =
    sym c.judge.ensures ∙ c.in_ok-judge.was in
    let a = c.args in
    let refusal = joint_refusal a.n a.first.now a.second.now in
    let result = joint_square a.n (in_table a.first.now) (in_table a.second.now) in
    checked_whole refusal result a.cells.now c.cells_needed-count.result long passed _
    (c.write_square.ensures ∙ ap (λ (k : ℕ). result ++ drop k a.cells.now) (sym (count (then_accepted refusal _ passed).0)))
