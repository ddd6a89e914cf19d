-- `structure_closure::idle` meets its contract: the words with the part are compared one by one, and the first that is another is enough.
-- Assumes nothing.
use native.Mathlib.Omega.{arith}
use Rattle.structure_words.specs.Words.{in_words}
use Rattle.structure_words.proofs.Words.{word_is}
use Rattle.structure_closure.proofs.Unchanged.{unchanged_none, unchanged_more, changed_word, unchanged_all}
use Rattle.structure_closure.proofs.idle.Goals as goal

pub loop-at-init : goal.loop-at-init
loop-at-init c = (omega arith, unchanged_none c.args.part (in_words c.args.words.now))

pub returns-then-with-cell : goal.returns-then-with-cell
returns-then-with-cell c =
    let a = c.args in
    changed_word a.part (in_words a.words.now) c.loop-at.at c.with.result c.cell.result c.with.ensures
    (word_is a.words.now c.loop-at.at c.cell.result c.cell.ensures (omega (arith, c.cell.type_inv)))
    c.loop-at-test.true c.if-with-cell.true

pub loop-at-preserved : goal.loop-at-preserved
loop-at-preserved c =
    let a = c.args in (
      omega arith,
      unchanged_more a.part (in_words a.words.now) c.loop-at.at c.with.result c.cell.result c.with.ensures
          (word_is a.words.now c.loop-at.at c.cell.result c.cell.ensures (omega (arith, c.cell.type_inv)))
          c.loop-at.invariant.1 c.if-with-cell.false,
    )

pub returns : goal.returns
returns c =
    let a = c.args in
    unchanged_all a.part (in_words a.words.now) c.loop-at.at c.loop-at-test.false c.loop-at.invariant.1
