-- `codec::ended` meets its contract: at each `return` the tests that led there say which check of `ended` refuses, if any.
-- Assumes nothing.
use mathlib.Core.Path.{ap}
use borrow.Author.Tests.{lt-ltb, le-ltb}
use Rattle.std.specs.Prelude.{Err}
use Rattle.codec.proofs.ended.Goals as goal

pub returns-then-value-least : goal.returns-then-value-least
returns-then-value-least c = simp (lt-ltb _ _ c.if-value-least.true) (ap Err c.at.ensures)

pub returns-then-top-value : goal.returns-then-top-value
returns-then-top-value c = simp (le-ltb _ _ c.if-value-least.false, lt-ltb _ _ c.if-top-value.true) (ap Err c.at-then-top-value.ensures)

pub returns : goal.returns
returns c = simp (le-ltb _ _ c.if-value-least.false, le-ltb _ _ c.if-top-value.false)
