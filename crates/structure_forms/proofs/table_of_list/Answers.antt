-- `structure_forms::table_of_list` meets its contract: a refused list leaves the buffer alone, and an accepted list's carried sets are its table.
-- Assumes nothing.
use mathlib.Core.Path.{◌≡◌, sym, ap, ap₂, ◌∙◌}
use mathlib.Core.List.{List}
use Prim.Native.Nat.{ℕ, min}
use Rattle.std.specs.Prelude.{Ok}
use Rattle.answer.specs.Outcome.{delivered, Verdict}
use Rattle.theory_sets.specs.Structures.{listed}
use Rattle.numbers.proofs.Counts.{up_to_16_given}
use Rattle.theory_sets.specs.Tables.{table_of, table_length}
use Rattle.structure_words.specs.Words.{in_words, words_of, bytes_in, among}
use Rattle.structure_closure.specs.Closure.{spread}
use Rattle.structure.specs.Checks.{list_refusal}
use Rattle.structure.proofs.Acceptance.{AcceptedList, accepted_list}
use Rattle.structure.proofs.Walks.{listed_walk}
use Rattle.structure_forms.proofs.table_of_list.Goals as goal

pub returns : goal.returns
returns c =
    let a = c.args in
    let n = a.n in
    let table = a.table.now in
    let verdict : list_refusal n a.list.now ≡ Ok tt = sym c.list_verdict.ensures ∙ c.in_ok-list_verdict.was in
    let accepted : AcceptedList n a.list.now = accepted_list n a.list.now verdict in
    let result = table_of n (listed a.list.now) in
    let words : c.spread-reached.result ≡ words_of (spread (min n 16) (in_words (words_of (among a.list.now)))) =
    c.spread-reached.ensures ∙ ap (λ (ws : List ℕ). words_of (spread (min n 16) (in_words ws))) c.marked-listed.ensures in
    c.hand_out_table.ensures
    ∙ ap (λ (xs : List ℕ). delivered (Ok tt) xs table)
    (ap₂ bytes_in (up_to_16_given n (table_length n) accepted.few) words ∙ listed_walk n a.list.now accepted)
    ∙ ap (λ (v : Verdict). delivered v result table) (sym verdict)
