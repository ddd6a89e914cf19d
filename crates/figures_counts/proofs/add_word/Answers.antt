-- `figures_counts::add_word` meets its contract: an empty word adds nothing, and a count stays far below what a word can hold.
-- Assumes nothing.
use Prim.Native.Nat.{◌^◌, ◌≤◌, ◌<◌}
use native.Mathlib.Nat.{lt_of_le_of_lt}
use native.Mathlib.Omega.{arith}
use lib.Bits.{and_le_l}
use lib.Count.{ones-le}
use lib.ListN.{get_or}
use Rattle.theory_sets.specs.Masks.{meet}
use Rattle.figures_counts.proofs.Words.{added_few, in_word_none}
use Rattle.figures_counts.proofs.add_word.Goals as goal

pub returns-then-word-eq0 : goal.returns-then-word-eq0
returns-then-word-eq0 c = in_word_none _ _ _ c.requires.counts_len c.if-word-eq0.true

pub overflow_add-count : goal.overflow_add-count
overflow_add-count c =
    let a = c.args in
    let l = c.loop-k in
    let within : meet a.word c.of_size.result < 2 ^ 64 = lt_of_le_of_lt (and_le_l a.word c.of_size.result) c.ranges.word.fits in
    let before : get_or l.count-items l.k 0 ≤ 65536 =
    added_few a.word a.base a.counts.now l.count-items l.k c.requires.counts_len c.requires.base_bound l.invariant c.loop-k-test.true c.requires.none_over in
    omega (arith, ones-le 64 (meet a.word c.of_size.result) within)
