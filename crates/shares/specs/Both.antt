-- What a call that works out a group's shares by both routes leaves behind, on every input.
use Rattle.std.specs.Prelude.{List, ℤ, length, Ok, Err}
use Rattle.answer.specs.Outcome.{and_then, room, front, Outcome, outcome, settled, Numbered, Verdict}

-- the two lent buffers
pub record Both : Type 0 where
  pub first : List ℤ
  pub second : List ℤ

abbrev pub both : List ℤ → List ℤ → Both
both first second = record { first = first; second = second }

-- One result for two lent buffers: 11 is asked of either after all else, and what is given is the result in front of either, with its length
-- as the answer.
abbrev pub both_delivered : Verdict → List ℤ → List ℤ → List ℤ → Outcome Numbered Both
both_delivered refusal result first second =
    settled (and_then refusal (and_then (room (length result) (length first)) (room (length result) (length second)))) Err (both first second)
    (outcome (Ok (length result)) (both (front result first) (front result second)))
