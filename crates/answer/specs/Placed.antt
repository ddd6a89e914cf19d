-- Bytes put at a position of a lent buffer: the answer is where to go on.
use Rattle.std.specs.Prelude.{cond, List, ◌++◌, ℕ, ◌+◌, leb, length, take, drop}
use Rattle.answer.specs.Outcome.{Outcome, outcome}

-- Bytes put at a position of a buffer. Where they fit: they stand there, all else is as it was, and the position after them is the answer.
-- Where they do not: the buffer is as it was, and the position itself is the answer.
unfoldable pub placed : List ℕ → ℕ → List ℕ → Outcome ℕ (List ℕ)
placed buffer start form =
    cond (leb (start + length form) (length buffer))
    (outcome (start + length form) (take start buffer ++ form ++ drop (start + length form) buffer))
    (outcome start buffer)
