-- `record_numbers::judge` meets its contract. The loop's invariant: the numbers passed are right, so what refuses those left, under the last one
-- passed, is what refuses all.
-- Assumes nothing.
use mathlib.Core.Path.{◌≡◌}
use Prim.Native.Nat.{◌≤◌}
use lib.ListN.{length, drop}
use Rattle.record_numbers.specs.Numbering.{numbers_refusal, part_list_refusal}
use Rattle.record_numbers.proofs.judge.Given as goal

-- `record_numbers::judge` meets its contract. The loop's invariant: the numbers passed are right, so what refuses those left, under the last one
-- passed, is what refuses all.
-- Assumes nothing.
abbrev pub invariant-loop-index : goal.invariant-loop-index
invariant-loop-index l = (l.index ≤ length l.numbers) × (numbers_refusal l.previous l.mark l.index (drop l.index l.numbers) ≡ part_list_refusal (length l.numbers) l.mark l.numbers)
