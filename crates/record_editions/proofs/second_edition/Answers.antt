-- `record_editions::second_edition` meets its contract: what stands behind the body is read with its mark, its part numbers and the path counts
-- of its words.
-- Assumes nothing.
use mathlib.Core.Path.{◌≡◌, sym, ap, ◌∙◌}
use mathlib.Core.List.{List}
use Prim.Native.Nat.{ℕ, ◌+◌}
use native.Mathlib.Omega.{arith}
use lib.ListN.{length, take}
use lib.Seq.{length-take-le}
use Rattle.numbers.proofs.Tables.{tabulate_length}
use Rattle.theory_orders.specs.Formulas.{path_count}
use Rattle.structure_words.specs.Words.{in_words}
use Rattle.record_parts.specs.PartLists.{numbers_of}
use Rattle.record_tail.specs.Tails.{tail_at, tail_of}
use Rattle.record_editions.specs.Inside.{first_read, behind_at}
use Rattle.record_editions.proofs.Answers.{behind_refused, behind_given}
use Rattle.record_editions.proofs.second_edition.Goals as goal
use Rattle.record_editions.proofs.second_edition.Goals.{After-read_tail-tail}

pub slice_bounds-numbers-end : goal.slice_bounds-numbers-end
slice_bounds-numbers-end c = c.requires.count_in_bounds

pub slice_bounds-read_tail-end : goal.slice_bounds-read_tail-end
slice_bounds-read_tail-end c =
    sym (length-take-le c.args.body.contents.list.count c.args.body.contents.list.numbers c.requires.count_in_bounds)

pub slice_bounds-read_tail-end-2 : goal.slice_bounds-read_tail-end-2
slice_bounds-read_tail-end-2 c =
    let counts = c.counts_by_size-counts in
    sym (length-take-le (c.args.body.contents.list.count + 1) counts.result (omega (arith, c.requires.count_le_most_parts, ap length counts.ensures, tabulate_length 17 (path_count 16 (in_words c.args.body.words)))))

-- what stands behind the body, which was read with the path counts of its words
tail_read : (c : After-read_tail-tail) → c.read_tail-tail.result ≡ tail_of (behind_at c.args.bytes.now c.args.body)
tail_read c =
    let a = c.args in
    let contents = a.body.contents in
    c.read_tail-tail.ensures
    ∙ ap (λ (l : List ℕ). tail_of (tail_at a.bytes.now contents.list.mark (numbers_of contents.list) (take (contents.list.count + 1) l) contents.next)) c.counts_by_size-counts.ensures

pub returns-in-Err : goal.returns-in-Err
returns-in-Err c =
    let a = c.args in
    c.first_edition.ensures ∙ ap first_read c.refused_with_words.ensures
    ∙ behind_refused a.body (behind_at a.bytes.now a.body) _ (sym c.in-Err.is ∙ tail_read (goal.at.returns-in-Err c).After-read_tail-tail)

pub returns-in-Ok : goal.returns-in-Ok
returns-in-Ok c =
    let a = c.args in
    behind_given a.body (behind_at a.bytes.now a.body) _ (sym c.in-Ok.is ∙ tail_read (goal.at.returns-in-Ok c).After-read_tail-tail)
