-- What a call leaves in two buffers once it is known what it was judged with the smaller of their lengths as its room, and what each route wrote.
-- Assumes nothing.
use mathlib.Core.Path.{◌≡◌, sym, ap, ap₂, ◌∙◌}
use mathlib.Core.List.{List}
use mathlib.Core.Logic.{◌⊎◌, inl, inr}
use Prim.Native.Nat.{ℕ, ◌≤◌, ◌<◌, min}
use native.Mathlib.Omega.{arith}
use lib.IntN.{ℤ}
use lib.ListN.{length}
use Rattle.std.specs.Prelude.{Ok, Err}
use Rattle.answer.specs.Outcome.{and_then, room, front, outcome, delivered, Numbered, Verdict}
use Rattle.answer.specs.declared.Refusal.{Refusal}
use Rattle.answer.proofs.Outcomes.{then_passed, then_refused, room_enough, room_short, settled_refused, settled_given}
use Rattle.answer.proofs.Deliveries.{delivered_front}
use Rattle.numbers.proofs.Bounds.{below_or_above}
use Rattle.shares.specs.Both.{both, both_delivered}

-- the smaller of two lengths is enough where both are
room_both : (needed first second : ℕ) → room needed (min first second) ≡ and_then (room needed first) (room needed second)
room_both needed first second = cases (below_or_above first needed) (below_or_above second needed)
  where
    cases : (first < needed) ⊎ (needed ≤ first) → (second < needed) ⊎ (needed ≤ second) → room needed (min first second) ≡ and_then (room needed first) (room needed second)
    cases (inl low) other = room_short needed (min first second) (omega arith) ∙ sym (then_refused (room needed second) (room_short needed first low))
    cases (inr high) (inl low) =
        room_short needed (min first second) (omega arith)
        ∙ sym (then_passed (room needed second) (room_enough needed first high) ∙ room_short needed second low)
    cases (inr high) (inr wide) =
        room_enough needed (min first second) (omega arith)
        ∙ sym (then_passed (room needed second) (room_enough needed first high) ∙ room_enough needed second wide)

module _ (judged : Verdict) (result : List ℤ) (needed : ℕ) (long : needed ≡ length result) where
  -- what a route whose shares are the result leaves in its buffer
  pub route_written : (route buffer after : List ℤ) (answer : Numbered) → route ≡ result → judged ≡ Ok tt → needed ≤ length buffer
      → outcome answer after ≡ delivered judged route buffer → after ≡ front result buffer
  route_written route buffer after answer same accepted fits e =
      delivered_front judged result buffer accepted (omega arith) (e ∙ ap (λ (xs : List ℤ). delivered judged xs buffer) same)

  module _ (first second : List ℤ) (lent : ℕ) (smallest : lent ≡ min (length first) (length second)) where
    checks : and_then judged (and_then (room (length result) (length first)) (room (length result) (length second))) ≡ and_then judged (room needed lent)
    checks = sym (ap (and_then judged) (ap₂ room long smallest ∙ room_both (length result) (length first) (length second)))

    pub both_unwritten : {why : Refusal} → and_then judged (room needed lent) ≡ Err why
        → outcome (Err why) (both first second) ≡ both_delivered judged result first second
    both_unwritten h = settled_refused _ Err (both first second) _ (checks ∙ h)

    pub both_written : and_then judged (room needed lent) ≡ Ok tt → (one other : List ℤ) → one ≡ front result first → other ≡ front result second
        → outcome (Ok needed) (both one other) ≡ both_delivered judged result first second
    both_written h one other is are =
        ap (λ (k : ℕ). outcome (Ok k) (both one other)) long
        ∙ ap₂ (λ (xs ys : List ℤ). outcome (Ok (length result)) (both xs ys)) is are
        ∙ settled_given _ Err (both first second) _ (checks ∙ h)
