-- `figures::signed` meets its contract: no count is over 65,536, so each keeps its value as a signed number.
-- Assumes nothing.
use Rattle.std.proofs.Common.{◌≡◌, pos}
use Rattle.numbers.proofs.Tables.{filled}
use Rattle.figures.specs.Inside.{counts_of}
use Rattle.figures.proofs.signed.Given as goal

abbrev pub invariant-loop-s : goal.invariant-loop-s
invariant-loop-s l = l.entry-items ≡ filled (λ s. pos (counts_of l.counts s)) l.initial.entry-items l.s
