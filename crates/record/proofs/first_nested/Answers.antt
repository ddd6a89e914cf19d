-- `record::first_nested` meets its contract: a set that is kept leaves the answer to the sets after it.
-- Assumes nothing.
use mathlib.Core.Path.{sym, ap, ◌∙◌}
use mathlib.Core.Bool.{not}
use Prim.Native.Nat.{ℕ}
use native.Mathlib.Nat.{sub-zero}
use native.Mathlib.Omega.{arith}
use Rattle.std.specs.Prelude.{Err}
use Rattle.codec.proofs.Found.{answer_number, answer_refused}
use Rattle.structure_words.specs.Words.{in_words}
use Rattle.record.specs.Inside.{nested_at}
use Rattle.record.proofs.Marking.{nested_ended, nested_here, nested_past, nested_none}
use Rattle.record.proofs.first_nested.Goals as goal

pub loop-index-init : goal.loop-index-init
loop-index-init c =
    let a = c.args in
    (omega arith, ap (λ (k : ℕ). nested_at a.bytes.now (in_words a.minimal.now) k a.start) (sub-zero a.count))

pub returns-in_default : goal.returns-in_default
returns-in_default c =
    let a = c.args in
    nested_ended a.bytes.now (in_words a.minimal.now) a.count c.loop-index.index c.loop-index.next c.loop-index-test.true _
    (answer_refused _ _ (sym c.in_default.is ∙ c.read_number-number.ensures)) ∙ c.loop-index.invariant.1

pub returns-then-not-works : goal.returns-then-not-works
returns-then-not-works c =
    let a = c.args in
    (ap Err c.at.ensures)
    ∙ nested_here a.bytes.now (in_words a.minimal.now) a.count c.loop-index.index c.loop-index.next c.loop-index-test.true _ _
    (answer_number _ _ _ (sym c.in-Ok.is ∙ c.read_number-number.ensures)) (ap not (sym c.works.ensures ∙ c.if-not-works.true)) ∙ c.loop-index.invariant.1

pub loop-index-preserved : goal.loop-index-preserved
loop-index-preserved c =
    let a = c.args in (
      omega arith,
      nested_past a.bytes.now (in_words a.minimal.now) a.count c.loop-index.index c.loop-index.next c.loop-index-test.true _ _
          (answer_number _ _ _ (sym c.in-Ok.is ∙ c.read_number-number.ensures)) (ap not (sym c.works.ensures ∙ c.if-not-works.false)) ∙ c.loop-index.invariant.1,
    )

pub returns : goal.returns
returns c =
    let a = c.args in
    nested_none a.bytes.now (in_words a.minimal.now) a.count c.loop-index.index c.loop-index.next c.loop-index-test.false ∙ c.loop-index.invariant.1
