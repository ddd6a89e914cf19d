-- What the private functions answer on the way: a reader of the promises may pass this file over.
use Rattle.std.specs.Prelude.{List, ℕ, Result, Ok, Err}
use Rattle.answer.specs.Outcome.{Numbered}
use Rattle.codec.specs.Reads.{Read, found, refused}

-- the position after numbers that were read, or the refusal
abbrev pub position_after : Read (List ℕ) → Numbered
position_after (found numbers next) = Ok next
position_after (refused refusal) = Err refusal
