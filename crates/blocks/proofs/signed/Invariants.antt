-- `blocks::signed` meets its contract: each count is stored at its own index.
-- Assumes nothing.
use mathlib.Core.Path.{◌≡◌}
use Rattle.numbers.proofs.Tables.{filled}
use Rattle.blocks.specs.Inside.{entry_at}
use Rattle.blocks.proofs.signed.Given as goal

abbrev pub invariant-loop-j : goal.invariant-loop-j
invariant-loop-j l = l.entry-items ≡ filled (entry_at l.counts) l.initial.entry-items l.j
