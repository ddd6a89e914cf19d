-- `structure_patterns::sets_within` meets its contract: the words of the sets of n parts are full, and those behind them empty; of fewer than six
-- parts the only word has 2^n bits. Assumes nothing.
use mathlib.Core.Path.{◌≡◌, ap, ◌∙◌}
use Prim.Native.Nat.{ℕ, ◌-◌, ◌*◌, ◌/◌, ◌^◌, ◌≤◌}
use native.Mathlib.Omega.{arith}
use lib.Dec.{ltb}
use lib.Pow.{pow_pos}
use Rattle.numbers.proofs.Counts.{up_to_16_given}
use Rattle.structure_words.specs.Words.{word_of}
use Rattle.structure_words.proofs.Bits.{whole_words}
use Rattle.structure_cuts.proofs.CutWords.{few_sets}
use Rattle.structure_patterns.proofs.Words.{sets_beyond, sets_whole, sets_small}
use Rattle.structure_patterns.proofs.sets_within.Goals as goal
use Rattle.structure_patterns.proofs.sets_within.Goals.{After-power_of_two, After-power_of_two-2}

pub returns-then-at-gt0 : goal.returns-then-at-gt0
returns-then-at-gt0 c =
    let a = c.args in
    sets_beyond a.n a.at (omega (arith, few_sets a.n c.if-n-lt6.true, c.if-at-gt0.true))

-- how many sets there are, at most 32
sets : (c : After-power_of_two) → c.power_of_two.result ≡ 2 ^ c.args.n
sets c = let n = c.args.n in c.power_of_two.ensures ∙ up_to_16_given n (2 ^ n) (omega arith)

pub overflow_sub-result : goal.overflow_sub-result
overflow_sub-result c = omega (arith, sets (goal.at.overflow_sub-result c).After-power_of_two, few_sets c.args.n c.if-n-lt6.true)

pub overflow_shr-result : goal.overflow_shr-result
overflow_shr-result c = omega (arith, sets (goal.at.overflow_shr-result c).After-power_of_two, pow_pos c.args.n)

pub returns-then-n-lt6 : goal.returns-then-n-lt6
returns-then-n-lt6 c =
    let a = c.args in
    let small : 2 ^ a.n ≤ 64 = omega (arith, few_sets a.n c.if-n-lt6.true) in
    ap (λ (s : ℕ). (2 ^ 64 - 1) / 2 ^ (64 - s)) (sets (goal.at.returns-then-n-lt6 c).After-power_of_two) ∙ sets_small a.n small
    ∙ ap (word_of (λ b. ltb b (2 ^ a.n))) (omega (arith, c.if-at-gt0.false))

-- how many words there are
words-there : (c : After-power_of_two-2) → 2 ^ c.args.n ≡ 64 * c.power_of_two-2.result
words-there c =
    let n = c.args.n in
    whole_words n c.power_of_two-2.result c.if-n-lt6.false (c.power_of_two-2.ensures ∙ up_to_16_given (n - 6) _ (omega arith))

pub returns-then-at-power_of_two : goal.returns-then-at-power_of_two
returns-then-at-power_of_two c =
    let a = c.args in
    sets_whole a.n a.at (omega (arith, words-there (goal.at.returns-then-at-power_of_two c).After-power_of_two-2, c.if-at-power_of_two.true))

pub returns-else-at-power_of_two : goal.returns-else-at-power_of_two
returns-else-at-power_of_two c =
    let a = c.args in
    sets_beyond a.n a.at (omega (arith, words-there (goal.at.returns-else-at-power_of_two c).After-power_of_two-2, c.if-at-power_of_two.false))
