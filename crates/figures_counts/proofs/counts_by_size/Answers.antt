-- `figures_counts::counts_by_size` meets its contract: each word adds its sets to the counts of their sizes, and a word that is lacking has none.
-- Assumes nothing.
use mathlib.Core.Path.{◌≡◌, refl, ◌∙◌}
use Prim.Native.Nat.{◌<◌}
use native.Mathlib.Omega.{arith}
use lib.Count.{ones-le}
use lib.ListN.{length, get_or}
use Rattle.std.proofs.lemmas.Iterator.{YieldsList-from_slice, YieldsList-from_take}
use Rattle.std.proofs.lemmas.Iterator.Consumers.{YieldsList-from_enumerate, YieldsList-turn, YieldsList-end}
use Rattle.std.proofs.lemmas.List.{length_push}
use Rattle.numbers.specs.Tables.{tabulate}
use Rattle.numbers.proofs.Tables.{tabulate_same}
use Rattle.theory_sums.specs.Sums.{sum_below}
use Rattle.theory_orders.specs.Formulas.{path_count}
use Rattle.structure_words.specs.Words.{in_words}
use Rattle.figures_counts.proofs.Words.{sizes, sizes_few, sizes_turn, sizes_end, word_turn, words_beyond}
use Rattle.figures_counts.proofs.counts_by_size.Goals as goal
use Rattle.figures_counts.proofs.counts_by_size.Goals.{In-Some}

pub loop-at-init : goal.loop-at-init
unfolding tabulate sizes sum_below
loop-at-init c = refl

-- the index and the word of a turn
turn : (c : In-Some) → (length c.loop-at.yielded < 1024) × ((c.in-Some.at ≡ length c.loop-at.yielded) × (c.in-Some.word.now ≡ get_or c.args.words.now (length c.loop-at.yielded) 0))
turn c =
    let items = YieldsList-from_enumerate (YieldsList-from_take 1024 (YieldsList-from_slice c.args.words.now (cc)) (cc)) (cc) in
    word_turn c.args.words.now _ _ _
    (YieldsList-turn items c.loop-at.yielded _ c.loop-at.yielded_by _ _ (c.in-Some.at, c.in-Some.word) c.in-Some.is c.next.ensures.steps)

pub add_word-requires-clause-none_over : goal.add_word-requires-clause-none_over
add_word-requires-clause-none_over c =
    let t = turn (goal.at.add_word-requires-clause-none_over c).In-Some in
    sizes_few c.args.words.now c.loop-at.counts (length c.loop-at.yielded) c.loop-at.invariant (omega (arith, t.0))

pub add_word-requires-clause-base_bound : goal.add_word-requires-clause-base_bound
add_word-requires-clause-base_bound c =
    let t = turn (goal.at.add_word-requires-clause-base_bound c).In-Some in
    ones-le 10 c.in-Some.at (omega (arith, t.0, t.1.0))

pub loop-at-preserved : goal.loop-at-preserved
loop-at-preserved c =
    let t = turn (goal.at.loop-at-preserved c).In-Some in
    sizes_turn c.args.words.now c.loop-at.counts _ (length c.loop-at.yielded) c.in-Some.at c.in-Some.word.now _ c.loop-at.invariant t.1.0 t.1.1
    c.add_word.ensures (length_push c.loop-at.yielded (c.in-Some.at, c.in-Some.word))

pub returns : goal.returns
returns c =
    let words = c.args.words.now in
    let items = YieldsList-from_enumerate (YieldsList-from_take 1024 (YieldsList-from_slice words (cc)) (cc)) (cc) in
    let e = YieldsList-end items c.loop-at.yielded _ c.loop-at.yielded_by _ _ c.in-None.is c.next.ensures.steps in
    c.loop-at.invariant
    ∙ tabulate_same 17 (sizes (in_words words) (length c.loop-at.yielded)) (path_count 16 (in_words words)) (λ s h.
    sizes_end words (in_words words) (words_beyond words) (length c.loop-at.yielded) e.1 s)
