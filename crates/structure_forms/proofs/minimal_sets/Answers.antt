-- `structure_forms::minimal_sets` meets its contract: a refused table leaves the buffer alone, and an accepted one has the trimmed path sets for its
-- minimal sets.
-- Assumes nothing.
use mathlib.Core.Path.{◌≡◌, sym, ap, ◌∙◌}
use mathlib.Core.List.{List}
use Prim.Native.Nat.{ℕ, min}
use Rattle.std.specs.Prelude.{Ok}
use Rattle.answer.specs.Outcome.{delivered, Verdict}
use Rattle.theory_sets.specs.Masks.{those}
use Rattle.theory_sets.specs.Structures.{minimal_sets}
use Rattle.theory_sets.specs.Tables.{in_table}
use Rattle.structure_words.specs.Words.{in_words, words_of}
use Rattle.structure_closure.specs.Closure.{irredundant}
use Rattle.structure.specs.Checks.{table_refusal}
use Rattle.structure.proofs.Acceptance.{accepted_table}
use Rattle.structure.proofs.Walks.{minimal_walk}
use Rattle.structure_forms.proofs.minimal_sets.Goals as goal

pub returns : goal.returns
returns c =
    let start = c in
    let n = start.args.n in
    let table = start.args.table.now in
    let sets = start.args.sets.now in
    let verdict : table_refusal n table ≡ Ok tt = sym c.table_verdict.ensures ∙ c.in_ok-table_verdict.was in
    let works = in_table table in
    c.list.ensures
    ∙ ap (λ (ws : List ℕ). delivered (Ok tt) (those (in_words ws) 65536) sets)
    (c.irredundant-minimal.ensures ∙ ap (λ (ws : List ℕ). words_of (irredundant (min n 16) (in_words ws))) c.load-loaded.ensures)
    ∙ ap (λ (xs : List ℕ). delivered (Ok tt) xs sets) (minimal_walk n table (accepted_table n table verdict))
    ∙ ap (λ (v : Verdict). delivered v (minimal_sets n works) sets) (sym verdict)
