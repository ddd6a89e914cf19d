-- `numbers::binomial` meets its contract: before turn i the product so far is C(n,i-1).
use Rattle.std.proofs.Common.{◌≡◌, ◌+◌, ◌-◌, ◌≤◌}
use Rattle.numbers.specs.Counts.{choose}
use Rattle.numbers.proofs.binomial.Given as goal

abbrev pub invariant-loop-i : goal.invariant-loop-i
invariant-loop-i l = record { within : l.i ≤ l.k + 1; found : l.c ≡ choose l.n (l.i - 1) }
