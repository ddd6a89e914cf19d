-- `figures::vector` meets its contract: a refused table leaves the cells alone, and else its path counts are an accepted vector, which is
-- converted.
-- Assumes nothing.
use mathlib.Core.Path.{◌≡◌, refl, sym, ap, ap₂, ◌∙◌}
use mathlib.Core.List.{List}
use Prim.Native.Nat.{ℕ, ◌+◌, ◌≤◌}
use native.Mathlib.Omega.{arith}
use lib.IntN.{ℤ, pos}
use lib.ListN.{length, take}
use lib.Seq.{length-take-le}
use Rattle.std.specs.Prelude.{Ok}
use Rattle.answer.specs.Outcome.{delivered, Verdict}
use Rattle.numbers.proofs.Tables.{tabulate_length}
use Rattle.theory_sets.specs.Tables.{in_table}
use Rattle.structure.specs.Checks.{table_refusal}
use Rattle.structure.specs.Accepted.{AcceptedTable}
use Rattle.structure.proofs.Acceptance.{accepted_table}
use Rattle.vector_kind.specs.declared.Kind.TheVariants.{PathCounts}
use Rattle.vector_conversion.specs.Vectors.{vector_refusal, converted}
use Rattle.theory_figures.specs.Figures.{path_counts}
use Rattle.figures.specs.Inside.{counts_of, entries_of, sized_in}
use Rattle.figures.proofs.Machines.{table_entries}
use Rattle.figures.proofs.Claims.{vectors_accepted, vectors_converted}
use Rattle.figures.proofs.vector.Goals as goal

-- the path counts as entries are enough, and are the table's
module _ (n : ℕ) (table : List ℕ) (verdict : table_refusal n table ≡ Ok tt) (made : List ℤ) (is : made ≡ entries_of (sized_in table)) where
  accepted : AcceptedTable n table
  accepted = accepted_table n table verdict

  room : n + 1 ≤ length made
  room = omega (arith, accepted.few, ap length is ∙ tabulate_length 17 (λ s. pos (counts_of (sized_in table) s)))

  entries : take (n + 1) made ≡ path_counts n (in_table table)
  entries = table_entries n table accepted (sized_in table) refl made is

pub overflow_add-entries : goal.overflow_add-entries
overflow_add-entries c =
    let accepted = accepted_table c.args.n c.args.table.now (sym c.table_verdict.ensures ∙ c.in_ok-table_verdict.was) in
    record { fits = omega (arith, accepted.few) }

pub slice_bounds-entries-end : goal.slice_bounds-entries-end
slice_bounds-entries-end c = room _ _ (sym c.table_verdict.ensures ∙ c.in_ok-table_verdict.was) _ c.entries_of-entries.ensures

pub slice_bounds-convert-end : goal.slice_bounds-convert-end
slice_bounds-convert-end c = sym (length-take-le _ c.entries_of-entries.result (room _ _ (sym c.table_verdict.ensures ∙ c.in_ok-table_verdict.was) _ c.entries_of-entries.ensures))

pub returns : goal.returns
returns c =
    let a = c.args in
    c.convert.ensures
    ∙ ap₂ (λ (v : Verdict) (xs : List ℤ). delivered v xs a.cells.now)
    (ap (vector_refusal PathCounts a.n) (entries _ _ (sym c.table_verdict.ensures ∙ c.in_ok-table_verdict.was) _ c.entries_of-entries.ensures) ∙ vectors_accepted a.n a.table.now (sym c.table_verdict.ensures ∙ c.in_ok-table_verdict.was) PathCounts ∙ sym (sym c.table_verdict.ensures ∙ c.in_ok-table_verdict.was))
    (ap (converted a.kind PathCounts a.n) (entries _ _ (sym c.table_verdict.ensures ∙ c.in_ok-table_verdict.was) _ c.entries_of-entries.ensures) ∙ vectors_converted a.n a.table.now (sym c.table_verdict.ensures ∙ c.in_ok-table_verdict.was) PathCounts a.kind)
