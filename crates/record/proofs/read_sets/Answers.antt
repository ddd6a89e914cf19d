-- `record::read_sets` meets its contract: the two passes decide as reading the sets one by one does.
-- Assumes nothing.
use mathlib.Core.Path.{◌≡◌, sym, ap, ap₂, ◌∙◌}
use mathlib.Core.List.{List, []}
use Prim.Native.Nat.{ℕ, min}
use Rattle.std.specs.Prelude.{Ok}
use Rattle.answer.specs.Outcome.{Verdict}
use Rattle.structure_words.specs.Words.{in_words, words_of}
use Rattle.structure_closure.specs.Closure.{spread, irredundant}
use Rattle.record.specs.declared.Marked.{Marked}
use Rattle.record.specs.Records.{sets_at}
use Rattle.record.specs.Inside.{sets_read_of, Pass, rising_at, nested_at, decided}
use Rattle.record.proofs.Answers.{decided_nested, decided_refused, decided_given, pass_words}
use Rattle.record.proofs.Passes.{passes_decide}
use Rattle.record.proofs.read_sets.Goals as goal
use Rattle.record.proofs.read_sets.Goals.{After-first_nested-nested}

-- what the sets are, by the verdict of the second pass
passes : (c : After-first_nested-nested) → sets_at c.args.bytes.now c.args.n c.args.count [] c.args.start
    ≡ decided c.first_nested-nested.result (rising_at c.args.bytes.now c.args.n c.args.count [] c.args.start)
passes c =
    let a = c.args in
    let k = min a.n 16 in
    let p : Pass = rising_at a.bytes.now a.n a.count [] a.start in
    let marked = c.mark_sets-marked.ensures in
    let reached = c.spread-reached.ensures ∙ ap (λ (m : Marked). words_of (spread k (in_words m.words))) marked in
    let minimal = c.irredundant-minimal.ensures ∙ ap (λ (w : List ℕ). words_of (irredundant k (in_words w))) reached in
    passes_decide a.bytes.now a.n a.count a.start c.requires
    ∙ ap (λ (v : Verdict). decided v p)
    (sym (c.first_nested-nested.ensures ∙ ap₂ (λ (w : List ℕ) (r : ℕ). nested_at a.bytes.now (in_words w) r a.start) minimal (ap (λ (m : Marked). m.read) marked)))

pub returns-in-Err : goal.returns-in-Err
returns-in-Err c =
    let a = c.args in
    c.refused_sets.ensures ∙ sym (ap (sets_read_of a.n) (passes (goal.at.returns-in-Err c).After-first_nested-nested ∙ decided_nested _ _ _ c.in-Err.is))

pub returns-in-Err-verdict : goal.returns-in-Err-verdict
returns-in-Err-verdict c =
    let a = c.args in
    c.refused_sets-in-Err-verdict.ensures
    ∙ sym (ap (sets_read_of a.n) (passes (goal.at.returns-in-Err-verdict c).After-first_nested-nested ∙ decided_refused _ _ _ c.in_default.is (sym (ap (λ (m : Marked). m.verdict) c.mark_sets-marked.ensures) ∙ c.in-Err-verdict.is)))

pub returns-in-Ok : goal.returns-in-Ok
returns-in-Ok c =
    let a = c.args in
    let marked = c.mark_sets-marked.ensures in
    let words = c.spread-reached.ensures ∙ ap (λ (m : Marked). words_of (spread (min a.n 16) (in_words m.words))) marked
    ∙ pass_words a.bytes.now a.n a.count a.start c.requires in
    ap₂ (λ (w : List ℕ) (end : ℕ). record { words = w; end = end; verdict = (Ok tt) }) words (ap (λ (m : Marked). m.next) marked)
    ∙ sym (ap (sets_read_of a.n) (passes (goal.at.returns-in-Ok c).After-first_nested-nested ∙ decided_given _ _ c.in_default.is (sym (ap (λ (m : Marked). m.verdict) marked) ∙ c.in-Ok.is)))
