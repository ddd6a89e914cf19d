-- `vector_conversion::convert` meets its contract: a refused vector and a short buffer leave the cells alone, and else they are written by the path counts.
-- Assumes nothing.
use mathlib.Core.Path.{◌≡◌, sym, ap, ◌∙◌, subst}
use mathlib.Core.List.{List, ◌++◌}
use Prim.Native.Nat.{ℕ, ◌≤◌}
use lib.IntN.{ℤ}
use lib.ListN.{length, drop}
use Rattle.std.specs.Prelude.{Ok}
use Rattle.std.proofs.lemmas.Result.{err_from_is_err_and}
use Rattle.answer.specs.Outcome.{and_then, room, Verdict}
use Rattle.answer.proofs.Outcomes.{then_passed, room_accepted}
use Rattle.answer.proofs.Deliveries.{checked_refused, checked_whole}
use Rattle.vector_kind.specs.Kinds.{length_of, entry_count}
use Rattle.vector_kind.specs.declared.Kind.{Kind}
use Rattle.vector_kind.proofs.KindNumbers.{entries_few}
use Rattle.numbers.proofs.Tables.{tabulate_length}
use Rattle.vector_conversion.specs.Vectors.{counts_of, vector_refusal, figure, vector_of, converted}
use Rattle.vector_conversion.specs.Inside.{cells_of}
use Rattle.vector_conversion.proofs.Acceptance.{accepted_vector}
use Rattle.vector_conversion.proofs.Conversions.{vector_same}
use Rattle.vector_conversion.proofs.convert.Goals as goal

-- the cells needed are the converted vector's
module _ (target kind : Kind) (n : ℕ) (entries : List ℤ) (accepted : Ok tt ≡ vector_refusal kind n entries) (needed : ℕ) (e : needed ≡ entry_count target n) where
  few : n ≤ 16
  few = (accepted_vector kind n entries (sym accepted)).few

  cells_few : needed ≡ length_of target n
  cells_few = e ∙ entries_few target n few

  cells_needed : needed ≡ length (converted target kind n entries)
  cells_needed = cells_few ∙ sym (tabulate_length (length_of target n) (figure target n (counts_of kind n entries)))

  checked : (cells : List ℤ) (said : Verdict) → said ≡ room needed (length cells) → and_then (vector_refusal kind n entries) (room needed (length cells)) ≡ said
  checked cells said e = then_passed _ (sym accepted) ∙ sym e

pub returns-in_err-room : goal.returns-in_err-room
returns-in_err-room c =
    let a = c.args in
    let found = c.in_ok-counts.ensures in
    let p = err_from_is_err_and c.from_residual-in_err-room.result c.from_residual-in_err-room.ensures.1 in
    rw (p.1, p.2)
    (checked_refused (vector_refusal a.kind a.n a.entries.now) (converted a.target a.kind a.n a.entries.now) a.cells.now c.entries-needed.result
    (λ _. cells_needed a.target a.kind a.n a.entries.now found.accepted _ c.entries-needed.ensures)
    (checked a.target a.kind a.n a.entries.now found.accepted _ c.entries-needed.ensures a.cells.now _ c.in_err-room.ensures))

pub write-requires-clause-n_bound : goal.write-requires-clause-n_bound
write-requires-clause-n_bound c =
    let a = c.args in
    few a.target a.kind a.n a.entries.now c.in_ok-counts.ensures.accepted _ c.entries-needed.ensures

pub write-requires-clause-n_in_bounds : goal.write-requires-clause-n_in_bounds
write-requires-clause-n_in_bounds c =
    let a = c.args in
    subst (λ (k : ℕ). k ≤ length a.cells.now) (cells_few a.target a.kind a.n a.entries.now c.in_ok-counts.ensures.accepted _ c.entries-needed.ensures)
    (room_accepted _ _ (sym c.in_ok-room.ensures))

pub returns : goal.returns
returns c =
    let a = c.args in
    let cells = a.cells.now in
    let result = converted a.target a.kind a.n a.entries.now in
    let found = c.in_ok-counts.ensures in
    let known : c.entries-needed.result ≡ length_of a.target a.n = cells_few a.target a.kind a.n a.entries.now found.accepted _ c.entries-needed.ensures in
    let same : vector_of a.target a.n (cells_of c.in_ok-counts.counts) ≡ result
    = vector_same a.target a.n (cells_of c.in_ok-counts.counts) (counts_of a.kind a.n a.entries.now) found.cells in
    checked_whole (vector_refusal a.kind a.n a.entries.now) result cells c.entries-needed.result
    (λ _. cells_needed a.target a.kind a.n a.entries.now found.accepted _ c.entries-needed.ensures)
    (checked a.target a.kind a.n a.entries.now found.accepted _ c.entries-needed.ensures cells _ c.in_ok-room.ensures) _
    (c.write.ensures ∙ ap (λ (xs : List ℤ). xs ++ drop (length_of a.target a.n) cells) same ∙ ap (λ (k : ℕ). result ++ drop k cells) (sym known))
