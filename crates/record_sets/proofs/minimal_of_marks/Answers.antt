-- `record_sets::minimal_of_marks` meets its contract: the marked sets are carried over the parts, trimmed and listed.
-- Assumes nothing.
use mathlib.Core.Path.{ap, ◌∙◌}
use mathlib.Core.List.{List}
use Prim.Native.Nat.{ℕ, min}
use Rattle.std.specs.Prelude.{Ok}
use Rattle.answer.specs.Outcome.{delivered}
use Rattle.theory_sets.specs.Masks.{those}
use Rattle.structure_closure.specs.Closure.{irredundant}
use Rattle.structure_words.specs.Words.{in_words, words_of}
use Rattle.record_sets.proofs.minimal_of_marks.Goals as goal

pub returns : goal.returns
returns c =
    let a = c.args in
    c.list.ensures
    ∙ ap (λ (ws : List ℕ). delivered (Ok tt) (those (in_words ws) 65536) a.sets.now)
    (c.irredundant-least.ensures ∙ ap (λ (ws : List ℕ). words_of (irredundant (min a.n 16) (in_words ws))) c.spread-reached.ensures)
