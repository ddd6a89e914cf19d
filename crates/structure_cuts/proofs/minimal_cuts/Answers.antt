-- `structure_cuts::minimal_cuts` meets its contract: a refused table leaves the buffer alone, and an accepted one's cut sets, trimmed, are the minimal
-- ones.
-- Assumes nothing.
use mathlib.Core.Path.{◌≡◌, sym, ap, ◌∙◌}
use mathlib.Core.List.{List}
use Prim.Native.Nat.{ℕ, min}
use Rattle.std.specs.Prelude.{Ok}
use Rattle.answer.specs.Outcome.{delivered, Verdict}
use Rattle.theory_sets.specs.Masks.{those}
use Rattle.theory_sets.specs.Tables.{in_table}
use Rattle.theory_cuts.specs.Cuts.{minimal_cuts}
use Rattle.structure_words.specs.Words.{in_words, words_of}
use Rattle.structure_closure.specs.Closure.{irredundant}
use Rattle.structure.specs.Accepted.{AcceptedTable}
use Rattle.structure.specs.Checks.{table_refusal}
use Rattle.structure.proofs.Acceptance.{accepted_table}
use Rattle.structure_cuts.specs.Inside.{cuts_within}
use Rattle.structure_cuts.proofs.Walks.{minimal_cut_words}
use Rattle.structure_cuts.proofs.minimal_cuts.Goals as goal
use Rattle.structure_cuts.proofs.minimal_cuts.Goals.{In_ok-table_verdict}

verdict : (c : In_ok-table_verdict) → table_refusal c.args.n c.args.table.now ≡ Ok tt
verdict c = sym c.table_verdict.ensures ∙ c.in_ok-table_verdict.was

accepted : (c : In_ok-table_verdict) → AcceptedTable c.args.n c.args.table.now
accepted c = accepted_table c.args.n c.args.table.now (verdict c)

pub cut_sets-stopping-requires : goal.cut_sets-stopping-requires
cut_sets-stopping-requires c = (accepted (goal.at.cut_sets-stopping-requires c).In_ok-table_verdict).few

pub returns : goal.returns
returns c =
    let a = c.args in
    let n = a.n in
    let works = in_table a.table.now in
    let words : c.cut_sets-stopping.result ≡ words_of (cuts_within n (in_words (words_of works))) =
    c.cut_sets-stopping.ensures ∙ ap (λ (ws : List ℕ). words_of (cuts_within n (in_words ws))) c.load-loaded.ensures in
    c.list.ensures
    ∙ ap (λ (ws : List ℕ). delivered (Ok tt) (those (in_words ws) 65536) a.cuts.now)
    (c.irredundant-minimal.ensures ∙ ap (λ (ws : List ℕ). words_of (irredundant (min n 16) (in_words ws))) words)
    ∙ ap (λ (xs : List ℕ). delivered (Ok tt) xs a.cuts.now) (minimal_cut_words n works (accepted (goal.at.returns c).In_ok-table_verdict).few (accepted (goal.at.returns c).In_ok-table_verdict).semicoherent)
    ∙ ap (λ (v : Verdict). delivered v (minimal_cuts n works) a.cuts.now) (sym (verdict (goal.at.returns c).In_ok-table_verdict))
