-- `blocks::Blocks::folded` meets its contract, by the number of blocks: with none the whole runs or not, and else the last block joins the others,
-- which are fewer.
-- Assumes nothing.
use mathlib.Core.Path.{◌≡◌, sym, ap, ◌∙◌}
use mathlib.Core.Bool.{Bool, cond}
use mathlib.Core.List.{List}
use Prim.Native.Nat.{ℕ, suc, ◌+◌, ◌-◌, ◌*◌, ◌^◌, ◌≤◌, ◌<◌}
use native.Mathlib.Nat.{zero-add, pos_of_ne-zero, pow-suc}
use native.Mathlib.Omega.{arith}
use lib.Dec.{eqb}
use lib.ListN.{length}
use Rattle.numbers.specs.Counts.{up_to_16}
use Rattle.numbers.proofs.Counts.{up_to_16_given}
use Rattle.numbers.proofs.Tables.{tabulate_same}
use Rattle.theory_sums.specs.Sums.{indicator, sum_below}
use Rattle.theory_blocks.specs.Blocks.{parts_in}
use Rattle.theory_blocks.proofs.Whole.{whole_none}
use Rattle.structure_words.specs.Words.{in_words}
use Rattle.blocks_checks.specs.Given.{size_at}
use Rattle.blocks.specs.Inside.{row_at}
use Rattle.blocks.proofs.Folds.{counts_over, over, parts_within, counts_beyond, joins_small, joins_next}
use Rattle.blocks.proofs.Blocks.+folded.Goals as goal

-- there is a last block, and others before it
next : (blocks : ℕ) → (blocks ≡ 0 → ⊥) → blocks ≡ suc (blocks - 1)
next blocks some = let more = pos_of_ne-zero some in omega arith

parted : (sizes : List ℕ) (blocks parts : ℕ) → (blocks ≡ 0 → ⊥) → parts ≡ parts_in (size_at sizes) blocks
    → parts ≡ parts_in (size_at sizes) (blocks - 1) + size_at sizes (blocks - 1)
unfolding sum_below
parted sizes blocks parts some are = are ∙ ap (parts_in (size_at sizes)) (next blocks some)

room : (blocks above : ℕ) → (blocks ≡ 0 → ⊥) → above + 2 ^ blocks ≤ 65536 → above + 2 ^ (blocks - 1) + 2 ^ (blocks - 1) ≤ 65536
room blocks above some few =
    let twice : 2 ^ blocks ≡ 2 ^ (blocks - 1) * 2 = ap (λ (k : ℕ). 2 ^ k) (next blocks some) ∙ pow-suc 2 (blocks - 1) in
    omega arith

pub returns-then-blocks-eq0 : goal.returns-then-blocks-eq0
returns-then-blocks-eq0 t c =
    let a = c.args in
    let self = a.self.now in
    let sizes = self.sizes.now in
    let running = self.running.now in
    let works = over self.words.now a.above in
    let runs : c.works.result ≡ works 0 = c.works.ensures ∙ ap (in_words self.words.now) (sym (zero-add a.above)) in
    c.no_block.ensures
    ∙ tabulate_same 17 _ (counts_over sizes running a.blocks works) (λ j h.
    ap (λ (runs : Bool). cond runs (indicator (eqb j 0)) 0) runs
    ∙ sym (whole_none (size_at sizes) (row_at running) works j)
    ∙ ap (λ (r : ℕ). counts_over sizes running r works j) (sym c.if-blocks-eq0.true))

pub overflow_sub-parts : goal.overflow_sub-parts
overflow_sub-parts t c = omega (arith, parted c.args.self.now.sizes.now c.args.blocks c.args.parts c.if-blocks-eq0.false c.requires.parts_value)

-- the set of the blocks above with the last one
doubled : (sizes blocks result : ℕ) → (blocks ≡ 0 → ⊥) → blocks ≤ sizes → sizes ≤ 16 → result ≡ up_to_16 (blocks - 1) (2 ^ (blocks - 1)) → result ≡ 2 ^ (blocks - 1)
doubled sizes blocks result some within few is = is ∙ up_to_16_given (blocks - 1) _ (omega arith)

pub folded-requires : goal.folded-requires
folded-requires t c =
    let a = c.args in
    let sizes = a.self.now.sizes.now in
    let some = c.if-blocks-eq0.false in
    let one = next a.blocks some in
    let parts = parted sizes a.blocks a.parts some c.requires.parts_value in
    let few = room a.blocks a.above some c.requires.blocks_bound in
    let unit = doubled (length sizes) a.blocks c.power_of_two.result some c.requires.blocks_in_bounds c.requires.both_rows.blocks c.power_of_two.ensures in
    (omega arith, (c.requires.both_rows, (omega arith, (omega arith, omega arith))))

pub overflow_sub-parts-2 : goal.overflow_sub-parts-2
overflow_sub-parts-2 t c = omega (arith, parted c.args.self.now.sizes.now c.args.blocks c.args.parts c.if-blocks-eq0.false c.requires.parts_value)

pub folded-requires-2 : goal.folded-requires-2
folded-requires-2 t c =
    let a = c.args in
    let some = c.if-blocks-eq0.false in
    let one = next a.blocks some in
    let parts = parted a.self.now.sizes.now a.blocks a.parts some c.requires.parts_value in
    let few = room a.blocks a.above some c.requires.blocks_bound in
    (omega arith, (c.requires.both_rows, (omega arith, (omega arith, omega arith))))

-- how the last block joins the others
pub counts-requires-clause-joining : goal.counts-requires-clause-joining
counts-requires-clause-joining t c =
    let a = c.args in
    let sizes = a.self.now.sizes.now in
    let one = next a.blocks c.if-blocks-eq0.false in
    let below : a.blocks - 1 < length sizes = omega arith in
    let unit = doubled (length sizes) a.blocks c.power_of_two.result c.if-blocks-eq0.false c.requires.blocks_in_bounds c.requires.both_rows.blocks
    c.power_of_two.ensures in
    joins_small c.requires.both_rows (a.blocks - 1) below a.self.now.words.now a.above _ (ap (λ (x : ℕ). a.above + x) unit) _ _ c.folded.ensures
    c.folded-2.ensures

pub counts-requires-clause-parts_bound : goal.counts-requires-clause-parts_bound
counts-requires-clause-parts_bound t c = omega (arith, parts_within c.requires.both_rows c.args.blocks c.requires.blocks_in_bounds)

pub counts-requires-clause-by_index : goal.counts-requires-clause-by_index
counts-requires-clause-by_index t c =
    let a = c.args in
    let self = a.self.now in
    let sizes = self.sizes.now in
    let one = next a.blocks c.if-blocks-eq0.false in
    let below : a.blocks - 1 < length sizes = omega arith in
    let unit = doubled (length sizes) a.blocks c.power_of_two.result c.if-blocks-eq0.false c.requires.blocks_in_bounds c.requires.both_rows.blocks
    c.power_of_two.ensures in
    λ k h. joins_next c.requires.both_rows (a.blocks - 1) below self.words.now a.above _ (ap (λ (x : ℕ). a.above + x) unit) _ _ c.folded.ensures
    c.folded-2.ensures k
    ∙ ap (λ (r : ℕ). counts_over sizes self.running.now r (over self.words.now a.above) k) (sym one)
    ∙ counts_beyond c.requires.both_rows a.blocks c.requires.blocks_in_bounds (over self.words.now a.above) k (omega arith)

pub returns : goal.returns
returns t c =
    let a = c.args in
    let self = a.self.now in
    let sizes = self.sizes.now in
    let one = next a.blocks c.if-blocks-eq0.false in
    let below : a.blocks - 1 < length sizes = omega arith in
    let unit = doubled (length sizes) a.blocks c.power_of_two.result c.if-blocks-eq0.false c.requires.blocks_in_bounds c.requires.both_rows.blocks
    c.power_of_two.ensures in
    c.counts.ensures
    ∙ tabulate_same 17 _ _ (λ k h. joins_next c.requires.both_rows (a.blocks - 1) below self.words.now a.above _ (ap (λ (x : ℕ). a.above + x) unit) _ _
    c.folded.ensures c.folded-2.ensures k
    ∙ ap (λ (r : ℕ). counts_over sizes self.running.now r (over self.words.now a.above) k) (sym one))
