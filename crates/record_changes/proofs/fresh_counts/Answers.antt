-- `record_changes::fresh_counts` meets its contract: the marked sets, closed upwards, are the words of the structure, and the sets of each size in them are its path counts.
-- Assumes nothing.
use mathlib.Core.Path.{◌≡◌, ap, ◌∙◌}
use mathlib.Core.List.{List}
use Prim.Native.Nat.{ℕ, ◌+◌, min}
use lib.ListN.{take}
use Rattle.numbers.specs.Tables.{tabulate}
use Rattle.theory_orders.specs.Formulas.{path_count}
use Rattle.structure_words.specs.Words.{in_words, words_of}
use Rattle.structure_closure.specs.Closure.{spread}
use Rattle.structure.proofs.Walks.{listed_words}
use Rattle.record.specs.Contents.{structure_words}
use Rattle.record_editions.proofs.Counts.{word_counts_lem}
use Rattle.record_changes.proofs.fresh_counts.Goals as goal

pub returns : goal.returns
returns c =
    let n : ℕ = c.args.n in
    let sets : List ℕ = c.args.sets.now in
    let words : c.spread-words.result ≡ structure_words n sets =
    c.spread-words.ensures ∙ ap (λ (m : List ℕ). words_of (spread (min n 16) (in_words m))) c.marked-marks.ensures ∙ listed_words n sets c.requires.n_le_most_parts (λ a m. (c.requires.set_rules.within a m).0) in
    ap (take (n + 1)) (c.counts_by_size.ensures ∙ ap (λ (w : List ℕ). tabulate 17 (path_count 16 (in_words w))) words)
    ∙ word_counts_lem n sets c.requires.n_le_most_parts
