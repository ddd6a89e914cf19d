-- `sheet::write_as` meets its contract: a refused vector leaves the bytes alone; else what it is converted to has a place in 17 cells and a sheet that
-- no array of 155 bytes is too short for, and that is handed out.
-- Assumes nothing.
use mathlib.Core.Path.{◌≡◌, sym, ap, ◌∙◌, subst}
use mathlib.Core.List.{List}
use Prim.Native.Nat.{ℕ, ◌≤◌}
use lib.IntN.{ℤ, pos}
use lib.ListN.{length, take, replicate}
use Rattle.std.specs.Prelude.{Ok}
use Rattle.std.proofs.lemmas.Result.{err_from_is_err_and}
use Rattle.answer.specs.Outcome.{outcome, delivered, Numbered, Verdict}
use Rattle.answer.proofs.Deliveries.{Given, given, refused_kept, refused_by}
use Rattle.vector.specs.InStruct.{most_entries}
use Rattle.vector.proofs.InStruct.{converted_fits}
use Rattle.vector_kind.specs.declared.Kind.{Kind}
use Rattle.vector_conversion.specs.Vectors.{vector_refusal, converted}
use Rattle.vector_conversion.proofs.Conversions.{conversion_accepted}
use Rattle.sheet.specs.Saving.{sheet_as}
use Rattle.sheet.specs.Sheets.{sheet_bytes}
use Rattle.sheet.proofs.Lengths.{written_longest}
use Rattle.sheet.proofs.write_as.Goals as goal

-- a vector that was converted is accepted, and what it converts to stands in front of the cells
module _ (kind : Kind) (n : ℕ) (entries : List ℤ) (target : Kind) (count : ℕ) (cells : List ℤ)
    (done : outcome (Ok count) cells ≡ delivered (vector_refusal kind n entries) (converted target kind n entries) (replicate most_entries (pos 0))) where
  whole : Given (vector_refusal kind n entries) (converted target kind n entries) (replicate most_entries (pos 0)) cells count
  whole = given _ _ _ _ _ done

  short : length (sheet_bytes target n (take count cells)) ≤ 155
  short =
      subst (λ (l : List ℤ). length (sheet_bytes target n l) ≤ 155) (sym whole.front)
      (written_longest target n (converted target kind n entries) (conversion_accepted kind n entries whole.accepted target))

  -- the sheet stands in front of the array
  handed : (length : ℕ) (bytes buffer : List ℕ) → outcome (Ok length) bytes ≡ delivered (Ok tt) (sheet_bytes target n (take count cells)) (replicate 155 0)
      → delivered (Ok tt) (take length bytes) buffer ≡ delivered (vector_refusal kind n entries) (sheet_as target kind n entries) buffer
  handed length bytes buffer made =
      let sheet = given (Ok tt) (sheet_bytes target n (take count cells)) (replicate 155 0) bytes length made in
      ap (λ (sheet : List ℕ). delivered (Ok tt) sheet buffer) (sheet.front ∙ ap (sheet_bytes target n) whole.front)
      ∙ ap (λ (v : Verdict). delivered v (sheet_as target kind n entries) buffer) (sym whole.accepted)

pub write_numbers-length-requires : goal.write_numbers-length-requires
write_numbers-length-requires c =
    let a = c.args in
    short a.kind a.n a.entries.now a.target c.in_ok-count.count c.convert.new.cells
    (ap (λ (said : Numbered). outcome said c.convert.new.cells) (sym c.in_ok-count.was) ∙ c.convert.ensures)

pub returns-in_err-count : goal.returns-in_err-count
returns-in_err-count c =
    let a = c.args in
    let p = err_from_is_err_and c.from_residual.result c.from_residual.ensures.1 in
    rw (p.1, p.2)
    (refused_kept (vector_refusal a.kind a.n a.entries.now) (sheet_as a.target a.kind a.n a.entries.now) a.buffer.now _
    (refused_by _ _ (replicate most_entries (pos 0)) c.convert.new.cells _ (converted_fits a.target a.kind a.n a.entries.now)
    (ap (λ (said : Numbered). outcome said c.convert.new.cells) (sym c.in_err-count.was) ∙ c.convert.ensures)))

pub returns : goal.returns
returns c =
    let a = c.args in
    c.hand_out.ensures
    ∙ handed a.kind a.n a.entries.now a.target c.in_ok-count.count c.convert.new.cells
    (ap (λ (said : Numbered). outcome said c.convert.new.cells) (sym c.in_ok-count.was) ∙ c.convert.ensures)
    c.write_numbers-length.result c.write_numbers-length.new.buffer a.buffer.now c.write_numbers-length.ensures
