-- `figures_counts::counts_by_part` meets its contract: each word adds to each row its sets that have the row's part.
-- Assumes nothing.
use mathlib.Core.Path.{◌≡◌, refl, sym, ap, ap₂, ◌∙◌, subst}
use mathlib.Core.Bool.{Bool, ◌&&◌}
use mathlib.Core.List.{List}
use Prim.Native.Nat.{ℕ, ◌+◌, ◌/◌, ◌%◌, ◌<◌}
use native.Mathlib.Omega.{arith}
use lib.ListN.{length, get_or}
use Rattle.std.proofs.lemmas.Iterator.{YieldsList-from_slice, YieldsList-from_take}
use Rattle.std.proofs.lemmas.Iterator.Consumers.{YieldsList-from_enumerate, YieldsList-turn, YieldsList-end}
use Rattle.std.proofs.lemmas.List.{length_push}
use Rattle.theory_sums.specs.Sums.{sum_below}
use Rattle.numbers.specs.Tables.{tabulate, NoneOver}
use Rattle.numbers.proofs.Tables.{tabulate_length, tabulate_at}
use Rattle.theory_sets.specs.Masks.{has, size, meet}
use Rattle.theory_sets.proofs.Masks.{has_meet}
use Rattle.structure_words.specs.Words.{word_of}
use Rattle.structure_words.proofs.Words.{in_words_at, has_word_of}
use Rattle.figures_counts.specs.Rows.{has_part, rows_of}
use Rattle.figures_counts.specs.Inside.{in_word}
use Rattle.numbers.proofs.Tables.{tabulate_same, tabulate_few}
use Rattle.figures_counts.proofs.Words.{sizes, sizes_most, sizes_next, sizes_end, word_turn, words_beyond}
use Rattle.figures_counts.proofs.counts_by_part.Invariants.{chosen, count_at}
use Rattle.figures_counts.proofs.counts_by_part.Goals as goal
use Rattle.figures_counts.proofs.counts_by_part.Goals.{In-Some}

pub loop-at-init : goal.loop-at-init
unfolding tabulate count_at sizes sum_below
loop-at-init c = refl

-- the index and the word of a turn
turn : (c : In-Some) → (length c.loop-at.yielded < 1024) × ((c.in-Some.at ≡ length c.loop-at.yielded) × (c.in-Some.word.now ≡ get_or c.args.words.now (length c.loop-at.yielded) 0))
turn c =
    let items = YieldsList-from_enumerate (YieldsList-from_take 1024 (YieldsList-from_slice c.args.words.now (cc)) (cc)) (cc) in
    word_turn c.args.words.now _ _ _
    (YieldsList-turn items c.loop-at.yielded _ c.loop-at.yielded_by _ _ (c.in-Some.at, c.in-Some.word) c.in-Some.is c.next.ensures.steps)

pub add_rows-requires : goal.add_rows-requires
unfolding count_at
add_rows-requires c =
    let words = c.args.words.now in
    let n = length c.loop-at.yielded in
    let t = turn (goal.at.add_rows-requires c).In-Some in
    record {
      rows_len = ap length c.loop-at.invariant ∙ tabulate_length 289 (count_at words n);
      none_over = subst (λ (rows : List ℕ). NoneOver 65536 rows) (sym c.loop-at.invariant)
          (tabulate_few 289 (count_at words n) 65536 (λ i. sizes_most (chosen words (i / 17)) n (i % 17) (omega (arith, t.0))));
      at_bound = omega (arith, t.0, t.1.0);
    }

pub loop-at-preserved : goal.loop-at-preserved
unfolding count_at chosen
loop-at-preserved c =
    let words = c.args.words.now in
    let n = length c.loop-at.yielded in
    let t = turn (goal.at.loop-at-preserved c).In-Some in
    let word : ℕ = c.in-Some.word.now in
    c.add_rows.ensures
    ∙ tabulate_same 289 _ (count_at words (n + 1)) (λ i h.
    let masked : ℕ = meet word (word_of (has_part (i / 17)) n) in
    ap₂ (λ (rows : List ℕ) (at : ℕ). get_or rows i 0 + in_word (meet word (word_of (has_part (i / 17)) at)) (size at) (i % 17)) c.loop-at.invariant t.1.0
    ∙ ap (λ (x : ℕ). x + in_word masked (size n) (i % 17)) (tabulate_at 289 (count_at words n) i 0 h)
    ∙ sizes_next (chosen words (i / 17)) n masked (i % 17) (λ k l.
    has_meet word (word_of (has_part (i / 17)) n) k
    ∙ ap₂ (λ (p q : Bool). p && q) (ap (λ (w : ℕ). has w k) t.1.1 ∙ sym (in_words_at words n k l))
    (has_word_of (has_part (i / 17)) n k l)))
    ∙ ap (λ (m : ℕ). tabulate 289 (count_at words m)) (sym (length_push c.loop-at.yielded (c.in-Some.at, c.in-Some.word)))

pub returns : goal.returns
unfolding count_at chosen rows_of
returns c =
    let words = c.args.words.now in
    let n = length c.loop-at.yielded in
    let items = YieldsList-from_enumerate (YieldsList-from_take 1024 (YieldsList-from_slice words (cc)) (cc)) (cc) in
    let e = YieldsList-end items c.loop-at.yielded _ c.loop-at.yielded_by _ _ c.in-None.is c.next.ensures.steps in
    c.loop-at.invariant
    ∙ tabulate_same 289 (count_at words n) _ (λ i h.
    sizes_end words (chosen words (i / 17)) (λ a l. ap (λ (b : Bool). b && has_part (i / 17) a) (words_beyond words a l)) n e.1 (i % 17))
