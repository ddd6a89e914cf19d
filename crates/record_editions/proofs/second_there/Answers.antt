-- `record_editions::second_there` meets its contract: both bytes have to be there, and are then asked.
-- Assumes nothing.
use mathlib.Core.Path.{sym}
use native.Mathlib.Omega.{arith}
use Rattle.record_editions.proofs.Answers.{second_short, second_other, second_asked}
use Rattle.record_editions.proofs.second_there.Goals as goal

-- `record_editions::second_there` meets its contract: both bytes have to be there, and are then asked.
-- Assumes nothing.
pub returns-then-bytes-start : goal.returns-then-bytes-start
returns-then-bytes-start c = let a = c.args in sym (second_short a.bytes.now a.start (omega (arith, c.if-bytes-start.true)))

pub returns-then-bytes-start-lt2 : goal.returns-then-bytes-start-lt2
returns-then-bytes-start-lt2 c = let a = c.args in sym (second_short a.bytes.now a.start (omega (arith, c.if-bytes-start-lt2.true)))

pub returns-then-bytes-start-ne0 : goal.returns-then-bytes-start-ne0
returns-then-bytes-start-ne0 c = let a = c.args in sym (second_other a.bytes.now a.start (omega (arith, c.if-bytes-start-lt2.false)) c.if-bytes-start-ne0.true)

pub returns : goal.returns
returns c = let a = c.args in second_asked a.bytes.now a.start (omega (arith, c.if-bytes-start-lt2.false)) c.if-bytes-start-ne0.false
