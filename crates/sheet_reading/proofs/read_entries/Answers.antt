-- `sheet_reading::read_entries` meets its contract. The loop walks along the entries (`EntriesWalk`), those so far in the cells.
-- Assumes nothing.
use mathlib.Core.Path.{◌≡◌, sym, ap, ◌∙◌, subst}
use Prim.Native.Nat.{ℕ, ◌+◌, ◌≤◌}
use native.Mathlib.Omega.{arith}
use lib.IntN.{ℤ, pos}
use lib.ListN.{length, take, set, replicate}
use lib.Seq.{length-take-le}
use mir.Facts.{to_z-of_z}
use mir.Syntax.{w64}
use Rattle.std.specs.Prelude.{Err}
use Rattle.std.proofs.lemmas.Result.{err_from_is_err_and}
use Rattle.codec.specs.declared.Field.TheVariants as field
use Rattle.codec.proofs.WriteAfterRead.{read_form}
use Rattle.codec.proofs.Found.{answer_number, answer_refused}
use Rattle.vector_kind.specs.Kinds.{length_of, entry_count}
use Rattle.vector_kind.specs.declared.Kind.{Kind}
use Rattle.vector_kind.proofs.KindNumbers.{entries_few}
use Rattle.vector.specs.InStruct.{most_entries}
use Rattle.sheet.proofs.Codes.{length_few}
use Rattle.sheet_reading.proofs.Walk.{EntriesWalk, walk_none, walk_more, read_stopped, read_left, read_refused, read_given}
use Rattle.sheet_reading.proofs.read_entries.Goals as goal

-- the kind's own length, which is no more than the cells
module _ (kind : Kind) (n count : ℕ) (h : n ≤ 16) (e : count ≡ entry_count kind n) where
  known : count ≡ length_of kind n
  known = e ∙ entries_few kind n h

  few : count ≤ most_entries
  few = omega (arith, known, length_few kind n h)

  -- the cells in front are so many
  wide : length (take count (replicate most_entries (pos 0))) ≡ count
  wide = length-take-le count (replicate most_entries (pos 0)) few

pub loop-entry-init : goal.loop-entry-init
loop-entry-init c =
    walk_none c.args.bytes.now c.args.kind c.entries-length.result c.args.start (few c.args.kind c.args.n _ c.requires.n_bound c.entries-length.ensures)

pub returns-in_err-number : goal.returns-in_err-number
returns-in_err-number c =
    let a = c.args in
    let cells = wide a.kind a.n _ c.requires.n_bound c.entries-length.ensures in
    let p = err_from_is_err_and c.from_residual.result c.from_residual.ensures.1 in
    rw (p.1, p.2)
    (read_stopped a.n c.loop-entry.invariant (known a.kind a.n _ c.requires.n_bound c.entries-length.ensures) (omega arith) _
    (answer_refused _ _ (sym c.in_err-number.was ∙ c.read_number.ensures)))

pub decode-requires : goal.decode-requires
decode-requires c =
    let a = c.args in
    (read_form a.bytes.now c.loop-entry.next field.Sheet _ _ (λ i. omega (arith, c.type_inv.bytes i))
    (answer_number _ _ _ (sym c.in_ok-number.was ∙ c.read_number.ensures))).allowed

pub loop-entry-preserved : goal.loop-entry-preserved
loop-entry-preserved c =
    let a = c.args in
    let l = c.loop-entry in
    let cells = wide a.kind a.n _ c.requires.n_bound c.entries-length.ensures in
    let value : ℕ = c.in_ok-number.number.value in
    let after : ℕ = c.in_ok-number.number.next in
    subst (λ (z : ℤ). EntriesWalk a.bytes.now a.kind c.entries-length.result a.start (set l.entry-items l.entry-index z) after (l.entry-index + 1))
    (sym (to_z-of_z {w = w64} (record { sfits = c.decode.type_inv }) ∙ c.decode.ensures))
    (walk_more l.invariant (omega arith) value after (answer_number _ _ _ (sym c.in_ok-number.was ∙ c.read_number.ensures)))

pub returns-then-next-bytes : goal.returns-then-next-bytes
returns-then-next-bytes c =
    let a = c.args in
    let cells = wide a.kind a.n _ c.requires.n_bound c.entries-length.ensures in
    ap Err c.at.ensures
    ∙ read_left a.n c.loop-entry.invariant (known a.kind a.n _ c.requires.n_bound c.entries-length.ensures) c.requires.le_n c.requires.n_bound (omega arith)
    c.if-next-bytes.true

pub returns-in_err-judge : goal.returns-in_err-judge
returns-in_err-judge c =
    let a = c.args in
    let cells = wide a.kind a.n _ c.requires.n_bound c.entries-length.ensures in
    let p = err_from_is_err_and c.from_residual-in_err-judge.result c.from_residual-in_err-judge.ensures.1 in
    rw (p.1, p.2)
    (read_refused a.n c.loop-entry.invariant (known a.kind a.n _ c.requires.n_bound c.entries-length.ensures) c.requires.le_n c.requires.n_bound (omega arith) _
    c.in_err-judge.ensures c.if-next-bytes.false)

pub returns : goal.returns
returns c =
    let a = c.args in
    let cells = wide a.kind a.n _ c.requires.n_bound c.entries-length.ensures in
    read_given a.n c.loop-entry.invariant (known a.kind a.n _ c.requires.n_bound c.entries-length.ensures) c.requires.le_n c.requires.n_bound (omega arith)
    c.in_ok-judge.ensures c.if-next-bytes.false
