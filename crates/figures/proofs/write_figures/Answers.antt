-- `figures::write_figures` meets its contract: the words are counted once, the vectors are written by the row of all path sets, and the
-- importances are made by the rows of the parts and handed out.
-- Assumes nothing.
use mathlib.Core.Path.{◌≡◌, sym, ap, ◌∙◌}
use mathlib.Core.List.{List}
use Prim.Native.Nat.{ℕ, ◌+◌, ◌≤◌}
use native.Mathlib.Omega.{arith}
use lib.IntN.{ℤ, pos}
use lib.ListN.{length, take}
use lib.Seq.{length-take-le}
use Rattle.std.specs.Prelude.{Ok}
use Rattle.answer.specs.Outcome.{front, delivered}
use Rattle.answer.proofs.Outcomes.{then_accepted}
use Rattle.numbers.proofs.Tables.{tabulate_length}
use Rattle.theory_sets.specs.Tables.{in_table}
use Rattle.structure.specs.Checks.{table_refusal}
use Rattle.structure.specs.Accepted.{AcceptedTable}
use Rattle.structure.proofs.Acceptance.{accepted_table}
use Rattle.vector_kind.specs.declared.Kind.{Kind}
use Rattle.vector_kind.specs.declared.Kind.TheVariants.{PathCounts, Signature, Domination}
use Rattle.vector_conversion.specs.Vectors.{vector_refusal, converted, figures_of}
use Rattle.theory_figures.specs.Figures.{path_counts, importances}
use Rattle.figures_counts.specs.Rows.{row}
use Rattle.figures.specs.All.{room_refusal}
use Rattle.figures.specs.Inside.{counts_of, entries_of, rows_in, figures_refusal}
use Rattle.figures.proofs.Machines.{table_few, table_entries, all_row, table_rows, table_importances}
use Rattle.figures.proofs.Rooms.{Room, room_accepted, made_room, made_front, importances_front, all_in_front_lem}
use Rattle.figures.proofs.Claims.{vectors_accepted, vectors_converted}
use Rattle.figures.proofs.write_figures.Goals as goal

-- the table is accepted, and there is room
module _ (n : ℕ) (table : List ℕ) (counts signature domination importance : ℕ) (passed : figures_refusal n table counts signature domination importance ≡ Ok tt) where
  verdict : table_refusal n table ≡ Ok tt
  verdict = (then_accepted (table_refusal n table) (room_refusal n counts signature domination importance) passed).0

  accepted : AcceptedTable n table
  accepted = accepted_table n table verdict

  room : Room n counts signature domination importance
  room =
      room_accepted n counts signature domination importance
      (then_accepted (table_refusal n table) (room_refusal n counts signature domination importance) passed).1

-- the row of all path sets as entries
module _ (n : ℕ) (table : List ℕ) (verdict : table_refusal n table ≡ Ok tt) (rows : List ℕ) (counted : rows ≡ rows_in table) (made : List ℤ)
    (is : made ≡ entries_of (row 16 rows)) where
  enough : n + 1 ≤ length made
  enough = omega (arith, (accepted_table n table verdict).few, ap length is ∙ tabulate_length 17 (λ s. pos (counts_of (row 16 rows) s)))

  entries : take (n + 1) made ≡ path_counts n (in_table table)
  entries =
      let a = accepted_table n table verdict in
      table_entries n table a (row 16 rows) (all_row n table a rows counted) made is

  -- what they are converted to
  vector : (kind : Kind) → converted kind PathCounts n (take (n + 1) made) ≡ figures_of kind n (in_table table)
  vector kind = ap (converted kind PathCounts n) entries ∙ vectors_converted n table verdict PathCounts kind

pub signed-entries-requires : goal.signed-entries-requires
signed-entries-requires c =
    let a = accepted _ _ _ _ _ _ c.requires in
    table_few _ _ a (row 16 c.rows_of-rows.result) (all_row _ _ a c.rows_of-rows.result c.rows_of-rows.ensures)

pub overflow_add-entries : goal.overflow_add-entries
overflow_add-entries c = record { fits = omega (arith, (accepted _ _ _ _ _ _ c.requires).few) }

pub slice_bounds-entries-end : goal.slice_bounds-entries-end
slice_bounds-entries-end c = enough _ _ (verdict _ _ _ _ _ _ c.requires) _ c.rows_of-rows.ensures _ c.signed-entries.ensures

pub slice_bounds-write_vectors-end : goal.slice_bounds-write_vectors-end
slice_bounds-write_vectors-end c = sym (length-take-le _ c.signed-entries.result (enough _ _ (verdict _ _ _ _ _ _ c.requires) _ c.rows_of-rows.ensures _ c.signed-entries.ensures))

pub write_vectors-requires : goal.write_vectors-requires
write_vectors-requires c =
    let a = c.args in
    record {
      entries_accepted = ap (vector_refusal PathCounts a.n) (entries _ _ (verdict _ _ _ _ _ _ c.requires) _ c.rows_of-rows.ensures _ c.signed-entries.ensures) ∙ vectors_accepted a.n a.table.now (verdict _ _ _ _ _ _ c.requires) PathCounts;
      counts_long = (room _ _ _ _ _ _ c.requires).for_counts;
      signature_long = (room _ _ _ _ _ _ c.requires).for_signature;
      domination_long = (room _ _ _ _ _ _ c.requires).for_domination;
    }

pub part_importances-made-requires : goal.part_importances-made-requires
part_importances-made-requires c =
    table_rows _ _ (accepted _ _ _ _ _ _ c.requires) c.rows_of-rows.result c.rows_of-rows.ensures

pub slice_bounds-made-end : goal.slice_bounds-made-end
slice_bounds-made-end c = made_room _ _ _ _ c.part_importances-made.ensures

pub slice_bounds-hand_out-end : goal.slice_bounds-hand_out-end
slice_bounds-hand_out-end c = sym (length-take-le _ _ (made_room _ _ _ _ c.part_importances-made.ensures))

pub returns : goal.returns
returns c =
    let a = c.args in
    let stands = c.write_vectors.ensures in
    let works = in_table a.table.now in
    let parts : take a.n c.part_importances-made.result ≡ importances a.n works =
    made_front a.n _ _ _ c.part_importances-made.ensures
    ∙ table_importances _ _ (accepted _ _ _ _ _ _ c.requires) c.rows_of-rows.result c.rows_of-rows.ensures in
    all_in_front_lem a.n works _ _ _ _ _
    (stands.counts_after ∙ ap (λ (xs : List ℤ). front xs a.counts.now) (vector _ _ (verdict _ _ _ _ _ _ c.requires) _ c.rows_of-rows.ensures _ c.signed-entries.ensures PathCounts))
    (stands.signature_after ∙ ap (λ (xs : List ℤ). front xs a.signature.now) (vector _ _ (verdict _ _ _ _ _ _ c.requires) _ c.rows_of-rows.ensures _ c.signed-entries.ensures Signature))
    (stands.domination_after ∙ ap (λ (xs : List ℤ). front xs a.domination.now) (vector _ _ (verdict _ _ _ _ _ _ c.requires) _ c.rows_of-rows.ensures _ c.signed-entries.ensures Domination))
    (importances_front a.n works a.importance.now _ _ (room _ _ _ _ _ _ c.requires).for_importance
    (c.hand_out.ensures ∙ ap (λ (xs : List ℕ). delivered (Ok tt) xs a.importance.now) parts))
