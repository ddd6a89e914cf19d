-- `vector_conversion::count_at` meets its contract, kind by kind.
-- Assumes nothing.
use mathlib.Core.Path.{sym, ap, ◌∙◌}
use Prim.Native.Nat.{ℕ, ◌-◌}
use native.Mathlib.Nat.{le_of_eq, mul-pos, lt_of_lt_of_le}
use native.Mathlib.Omega.{arith}
use lib.IntN.{ℤ, pos, ◌+ℤ◌, ◌-ℤ◌}
use Rattle.numbers.proofs.Counts.{factorial_pos}
use Rattle.vector_conversion.specs.Vectors.{entry_at}
use Rattle.vector_conversion.specs.Inside.{count_in, count_at}
use Rattle.vector_kind.specs.declared.Kind.{Kind}
use Rattle.vector_conversion.proofs.CountAt.{entry_read, count_entry, count_tail}
use Rattle.vector_conversion.proofs.count_at.Goals as goal

pub count_of-requires-in-Tail-clause-unit_nonzero : goal.count_of-requires-in-Tail-clause-unit_nonzero
count_of-requires-in-Tail-clause-unit_nonzero c =
    let a = c.args in
    lt_of_lt_of_le (mul-pos (factorial_pos a.j) (factorial_pos (a.n - a.j))) (le_of_eq (sym c.tail_unit.ensures))

pub returns-in-PathCounts : goal.returns-in-PathCounts
returns-in-PathCounts c =
    let a = c.args in
    c.count_of.ensures
    ∙ ap (λ (z : ℤ). count_in a.n a.j 1 (pos 0 +ℤ z -ℤ pos 0)) (entry_read a.entries.now a.j (omega arith))
    ∙ count_entry a.n a.entries.now a.j ∙ ap (λ (kind : Kind). count_at kind a.n a.entries.now a.j) (sym c.in-PathCounts.is)

pub returns-in-Tail : goal.returns-in-Tail
returns-in-Tail c =
    let a = c.args in
    c.count_of-in-Tail.ensures
    ∙ ap (λ (z : ℤ). count_in a.n a.j c.tail_unit.result (pos 0 +ℤ z -ℤ pos 0))
    (entry_read a.entries.now (a.n - a.j) (omega arith))
    ∙ ap (λ (u : ℕ). count_in a.n a.j u (pos 0 +ℤ entry_at a.entries.now (a.n - a.j) -ℤ pos 0)) c.tail_unit.ensures
    ∙ count_tail a.n a.entries.now a.j ∙ ap (λ (kind : Kind). count_at kind a.n a.entries.now a.j) (sym c.in-Tail.is)
