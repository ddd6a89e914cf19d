-- `structure_cuts::table_of_cuts` meets its contract: a refused list leaves the buffer alone, and an accepted one's machine runs where the parts that
-- remain hold no listed set.
-- Assumes nothing.
use mathlib.Core.Path.{◌≡◌, sym, ap, ap₂, ◌∙◌}
use mathlib.Core.List.{List}
use Prim.Native.Nat.{ℕ, min}
use Rattle.std.specs.Prelude.{Ok}
use Rattle.answer.specs.Outcome.{delivered, Verdict}
use Rattle.numbers.proofs.Counts.{up_to_16_given}
use Rattle.theory_sets.specs.Tables.{table_of, table_length}
use Rattle.theory_cuts.specs.Cuts.{by_cuts}
use Rattle.structure_words.specs.Words.{in_words, words_of, bytes_in, among}
use Rattle.structure_closure.specs.Closure.{spread}
use Rattle.structure.specs.Checks.{list_refusal}
use Rattle.structure.proofs.Acceptance.{AcceptedList, accepted_list}
use Rattle.structure_cuts.specs.Inside.{cuts_within}
use Rattle.structure_cuts.proofs.Walks.{cut_list_words}
use Rattle.structure_cuts.proofs.table_of_cuts.Goals as goal
use Rattle.structure_cuts.proofs.table_of_cuts.Goals.{In_ok-list_verdict}

verdict : (c : In_ok-list_verdict) → list_refusal c.args.n c.args.cuts.now ≡ Ok tt
verdict c = sym c.list_verdict.ensures ∙ c.in_ok-list_verdict.was

accepted : (c : In_ok-list_verdict) → AcceptedList c.args.n c.args.cuts.now
accepted c = accepted_list c.args.n c.args.cuts.now (verdict c)

pub cut_sets-running-requires : goal.cut_sets-running-requires
cut_sets-running-requires c = (accepted (goal.at.cut_sets-running-requires c).In_ok-list_verdict).few

pub returns : goal.returns
returns c =
    let a = c.args in
    let n = a.n in
    let cuts = a.cuts.now in
    let words : c.cut_sets-running.result ≡ words_of (cuts_within n (in_words (words_of (spread (min n 16) (in_words (words_of (among cuts))))))) =
    c.cut_sets-running.ensures
    ∙ ap (λ (ws : List ℕ). words_of (cuts_within n (in_words ws)))
    (c.spread-stopping.ensures ∙ ap (λ (ws : List ℕ). words_of (spread (min n 16) (in_words ws))) c.marked-listed.ensures) in
    c.hand_out_table.ensures
    ∙ ap (λ (xs : List ℕ). delivered (Ok tt) xs a.table.now)
    (ap₂ bytes_in (up_to_16_given n (table_length n) (accepted (goal.at.returns c).In_ok-list_verdict).few) words ∙ cut_list_words n cuts (accepted (goal.at.returns c).In_ok-list_verdict))
    ∙ ap (λ (v : Verdict). delivered v (table_of n (by_cuts n cuts)) a.table.now) (sym (verdict (goal.at.returns c).In_ok-list_verdict))
