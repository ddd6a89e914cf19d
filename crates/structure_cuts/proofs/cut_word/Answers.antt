-- `structure_cuts::cut_word` meets its contract: of fewer than six parts there is one word, and else each word comes from the one as far from the
-- end.
-- Assumes nothing.
use mathlib.Core.Path.{◌≡◌, ap, ◌∙◌}
use Prim.Native.Nat.{ℕ, ◌-◌, ◌/◌, ◌^◌, ◌*◌}
use native.Mathlib.Omega.{arith}
use lib.ListN.{get_or}
use lib.Pow.{pow_pos}
use Rattle.numbers.proofs.Counts.{up_to_16_given}
use Rattle.structure_words.specs.Words.{in_words, word_of}
use Rattle.structure_words.proofs.Bits.{whole_words}
use Rattle.structure_cuts.specs.Inside.{cuts_within, backwards}
use Rattle.structure_cuts.proofs.CutWords.{few_sets, cut_beyond, cut_small, cut_large}
use Rattle.structure_cuts.proofs.cut_word.Goals as goal
use Rattle.structure_cuts.proofs.cut_word.Goals.{After-power_of_two, After-power_of_two-count}

pub returns-then-at-gt0 : goal.returns-then-at-gt0
returns-then-at-gt0 c =
    let a = c.args in
    cut_beyond a.words.now a.n a.at (omega (arith, few_sets a.n c.if-n-lt6.true, c.if-at-gt0.true))

-- how many sets there are, at most 32
sets : (c : After-power_of_two) → c.power_of_two.result ≡ 2 ^ c.args.n
sets c = c.power_of_two.ensures ∙ up_to_16_given c.args.n _ (omega arith)

pub overflow_sub-result : goal.overflow_sub-result
overflow_sub-result c =
    let n = c.args.n in
    omega (arith, sets (goal.at.overflow_sub-result c).After-power_of_two, few_sets n c.if-n-lt6.true)

pub overflow_shr-result : goal.overflow_shr-result
overflow_shr-result c =
    let n = c.args.n in
    omega (arith, sets (goal.at.overflow_shr-result c).After-power_of_two, pow_pos n)

pub returns-then-n-lt6 : goal.returns-then-n-lt6
returns-then-n-lt6 c =
    let a = c.args in
    let from = c.reversed in
    let first : from.result ≡ backwards (get_or a.words.now 0 0) =
    from.ensures ∙ ap backwards c.cell.ensures in
    ap (λ (s : ℕ). (2 ^ 64 - 1 - from.result) / 2 ^ (64 - s)) (sets (goal.at.returns-then-n-lt6 c).After-power_of_two)
    ∙ cut_small a.words.now a.n from.result c.if-n-lt6.true first
    ∙ ap (word_of (cuts_within a.n (in_words a.words.now))) (omega (arith, c.if-at-gt0.false))

-- how many words there are
words-there : (c : After-power_of_two-count) → 2 ^ c.args.n ≡ 64 * c.power_of_two-count.result
words-there c =
    let n = c.args.n in
    whole_words n c.power_of_two-count.result c.if-n-lt6.false (c.power_of_two-count.ensures ∙ up_to_16_given (n - 6) _ (omega arith))

pub returns-then-at-count : goal.returns-then-at-count
returns-then-at-count c =
    let a = c.args in
    let count = c.power_of_two-count.result in
    cut_large a.words.now a.n a.at count c.reversed-then-at-count.result (words-there (goal.at.returns-then-at-count c).After-power_of_two-count) c.if-at-count.true
    (c.reversed-then-at-count.ensures ∙ ap backwards c.cell-then-at-count.ensures)

pub returns-else-at-count : goal.returns-else-at-count
returns-else-at-count c =
    let a = c.args in
    cut_beyond a.words.now a.n a.at (omega (arith, words-there (goal.at.returns-else-at-count c).After-power_of_two-count, c.if-at-count.false))
