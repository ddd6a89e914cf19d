-- `structure_cuts::dual` meets its contract: a refused table leaves the buffer alone, and an accepted one's cut sets are the dual's table.
-- Assumes nothing.
use mathlib.Core.Path.{◌≡◌, sym, ap, ap₂, ◌∙◌}
use mathlib.Core.List.{List}
use Prim.Native.Nat.{ℕ}
use Rattle.std.specs.Prelude.{Ok}
use Rattle.answer.specs.Outcome.{delivered, Verdict}
use Rattle.numbers.proofs.Counts.{up_to_16_given}
use Rattle.theory_sets.specs.Tables.{in_table, table_length}
use Rattle.theory_cuts.specs.Cuts.{dual_table}
use Rattle.structure_words.specs.Words.{in_words, words_of, bytes_in}
use Rattle.structure.specs.Accepted.{AcceptedTable}
use Rattle.structure.specs.Checks.{table_refusal}
use Rattle.structure.proofs.Acceptance.{accepted_table}
use Rattle.structure_cuts.specs.Inside.{cuts_within}
use Rattle.structure_cuts.proofs.Walks.{dual_words}
use Rattle.structure_cuts.proofs.dual.Goals as goal
use Rattle.structure_cuts.proofs.dual.Goals.{In_ok-table_verdict}

verdict : (c : In_ok-table_verdict) → table_refusal c.args.n c.args.table.now ≡ Ok tt
verdict c = sym c.table_verdict.ensures ∙ c.in_ok-table_verdict.was

accepted : (c : In_ok-table_verdict) → AcceptedTable c.args.n c.args.table.now
accepted c = accepted_table c.args.n c.args.table.now (verdict c)

pub cut_sets-stopping-requires : goal.cut_sets-stopping-requires
cut_sets-stopping-requires c = (accepted (goal.at.cut_sets-stopping-requires c).In_ok-table_verdict).few

pub returns : goal.returns
returns c =
    let a = c.args in
    let n = a.n in
    let works = in_table a.table.now in
    let words : c.cut_sets-stopping.result ≡ words_of (cuts_within n (in_words (words_of works))) =
    c.cut_sets-stopping.ensures ∙ ap (λ (ws : List ℕ). words_of (cuts_within n (in_words ws))) c.load-loaded.ensures in
    c.hand_out_table.ensures
    ∙ ap (λ (xs : List ℕ). delivered (Ok tt) xs a.buffer.now)
    (ap₂ bytes_in (up_to_16_given n (table_length n) (accepted (goal.at.returns c).In_ok-table_verdict).few) words ∙ dual_words n works (accepted (goal.at.returns c).In_ok-table_verdict).few)
    ∙ ap (λ (v : Verdict). delivered v (dual_table n a.table.now) a.buffer.now) (sym (verdict (goal.at.returns c).In_ok-table_verdict))
