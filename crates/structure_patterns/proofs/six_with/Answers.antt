-- `structure_patterns::six_with` meets its contract: up to six parts the word is computed, and no set of six parts has more.
-- Assumes nothing.
use mathlib.Core.Path.{ap, sym}
use native.Mathlib.Omega.{arith}
use lib.Count.{ones, ones_in}
use Rattle.theory_sets.specs.Tables.{packed}
use Rattle.structure_patterns.specs.Inside.{six_with}
use Rattle.structure_patterns.proofs.Words.{six_without}
use Rattle.structure_patterns.proofs.six_with.Goals as goal

pub returns-in-0 : goal.returns-in-0
unfolding packed ones ones_in
returns-in-0 c = ap six_with (sym c.in-0.is)

pub returns-in-1 : goal.returns-in-1
unfolding packed ones ones_in
returns-in-1 c = ap six_with (sym c.in-1.is)

pub returns-in-2 : goal.returns-in-2
unfolding packed ones ones_in
returns-in-2 c = ap six_with (sym c.in-2.is)

pub returns-in-3 : goal.returns-in-3
unfolding packed ones ones_in
returns-in-3 c = ap six_with (sym c.in-3.is)

pub returns-in-4 : goal.returns-in-4
unfolding packed ones ones_in
returns-in-4 c = ap six_with (sym c.in-4.is)

pub returns-in-5 : goal.returns-in-5
unfolding packed ones ones_in
returns-in-5 c = ap six_with (sym c.in-5.is)

pub returns-in-6 : goal.returns-in-6
unfolding packed ones ones_in
returns-in-6 c = ap six_with (sym c.in-6.is)

pub returns-in_default : goal.returns-in_default
returns-in_default c = six_without c.args.least (omega arith)
