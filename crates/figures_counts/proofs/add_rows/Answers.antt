-- `figures_counts::add_rows` meets its contract: row after row gets the sets of the word that have its part.
-- Assumes nothing.
use mathlib.Core.Path.{◌≡◌, sym, ap, ap₂, ◌∙◌}
use Prim.Native.Nat.{ℕ, ◌+◌, ◌*◌, ◌/◌, ◌%◌, ◌≤◌}
use native.Mathlib.Nat.{le_trans, le_of_eq}
use native.Mathlib.Omega.{arith}
use lib.Count.{ones-le}
use lib.ListN.{length}
use Rattle.numbers.proofs.Tables.{filled, filled_none, filled_all, filled_length}
use Rattle.theory_sets.specs.Masks.{size, meet}
use Rattle.structure_words.specs.Words.{word_of}
use Rattle.figures_counts.specs.Rows.{has_part}
use Rattle.figures_counts.specs.Inside.{in_word}
use Rattle.numbers.proofs.Tables.{tabulate_same}
use Rattle.numbers.proofs.Parts.{part_length, part_few, part_old, part_back}
use Rattle.figures_counts.proofs.add_rows.Invariants.{more}
use Rattle.figures_counts.proofs.add_rows.Goals as goal
use Rattle.figures_counts.proofs.add_rows.Goals.{At-loop-part, In-loop-part}

pub loop-part-init : goal.loop-part-init
loop-part-init c =
    let a = c.args in
    filled_none (more a.rows.now a.word a.at) a.rows.now

-- there is room for the row
room : (c : In-loop-part) → 17 * c.loop-part.part + 17 ≤ length c.args.rows.now
room c = omega (arith, c.loop-part-test.true, c.requires.rows_len)

long : (c : At-loop-part) → length c.loop-part.rows ≡ length c.args.rows.now
long c =
    let start = c in
    let a = start.args in
    ap length c.loop-part.invariant
    ∙ filled_length (more a.rows.now a.word a.at) a.rows.now (17 * c.loop-part.part) (omega (arith, start.requires.rows_len))

pub slice_bounds-add_word-end : goal.slice_bounds-add_word-end
slice_bounds-add_word-end c = le_trans (room (goal.at.slice_bounds-add_word-end c).In-loop-part) (le_of_eq (sym (long (goal.at.slice_bounds-add_word-end c).At-loop-part)))

pub add_word-requires : goal.add_word-requires
add_word-requires c =
    let a = c.args in
    let from : ℕ = 17 * c.loop-part.part in
    let f = more a.rows.now a.word a.at in
    record {
      counts_len = part_length f a.rows.now c.loop-part.rows from 17 c.loop-part.invariant (room (goal.at.add_word-requires c).In-loop-part);
      none_over = part_few f a.rows.now c.loop-part.rows from 17 c.loop-part.invariant (room (goal.at.add_word-requires c).In-loop-part) 65536 c.requires.none_over;
      base_bound = ones-le 10 a.at c.requires.at_bound;
    }

pub loop-part-preserved : goal.loop-part-preserved
unfolding more
loop-part-preserved c =
    let a = c.args in
    let part = c.loop-part.part in
    let from : ℕ = 17 * part in
    let next : from + 17 ≡ 17 * (part + 1) = omega arith in
    let f = more a.rows.now a.word a.at in
    part_back f a.rows.now c.loop-part.rows from 17 c.loop-part.invariant (room (goal.at.loop-part-preserved c).In-loop-part) c.add_word.new.counts
    (c.add_word.ensures
    ∙ tabulate_same 17 _ (λ s. f (from + s)) (λ s h.
    let row : (from + s) / 17 ≡ part = omega arith in
    let column : (from + s) % 17 ≡ s = omega arith in
    ap₂ (λ (x y : ℕ). x + y) (part_old f a.rows.now c.loop-part.rows from 17 c.loop-part.invariant (room (goal.at.loop-part-preserved c).In-loop-part) s h)
    (ap (λ (w : ℕ). in_word (meet a.word w) (size a.at) s) c.having.ensures
    ∙ sym (ap₂ (λ (p x : ℕ). in_word (meet a.word (word_of (has_part p) a.at)) (size a.at) x) row column))))
    ∙ ap (filled f a.rows.now) next

pub shape_of-rows : goal.shape_of-rows
shape_of-rows c = long (goal.at.shape_of-rows c).At-loop-part

pub returns : goal.returns
unfolding more
returns c =
    let a = c.args in
    let done : 17 * c.loop-part.part ≡ 289 = omega arith in
    c.loop-part.invariant ∙ ap (filled (more a.rows.now a.word a.at) a.rows.now) done
    ∙ filled_all (more a.rows.now a.word a.at) a.rows.now 289 (le_of_eq c.requires.rows_len)
