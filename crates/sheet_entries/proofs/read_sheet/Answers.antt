-- `sheet_entries::read_sheet` meets its contract: a refused sheet leaves the cells alone, and else its entries are handed out.
-- Assumes nothing.
use mathlib.Core.Path.{◌≡◌, sym, ap, ◌∙◌}
use mathlib.Core.List.{List}
use Prim.Native.Nat.{ℕ}
use native.Mathlib.Omega.{arith}
use lib.IntN.{ℤ}
use lib.ListN.{length, take}
use Rattle.std.specs.Prelude.{Ok}
use Rattle.std.proofs.lemmas.Result.{err_from_is_err_and}
use Rattle.answer.specs.Outcome.{outcome, retold, delivered, Numbered}
use Rattle.codec.specs.Reads.{Read}
use Rattle.vector.specs.declared.Vector.{Vector}
use Rattle.vector.specs.InStruct.{entries_of}
use Rattle.sheet.specs.Sheets.{Sheet, sheet_of}
use Rattle.sheet_reading.specs.Answers.{sheet_read}
use Rattle.sheet_reading.proofs.Reading.{sheet_given, sheet_refused}
use Rattle.sheet_entries.specs.Answers.{entries_read, entries_delivered}
use Rattle.sheet_entries.proofs.read_sheet.Goals as goal

-- what is told of a vector that was read, with the answer to handing out its entries
module _ (bytes : List ℕ) (vector : Vector) (read : Ok vector ≡ sheet_read (sheet_of bytes)) (cells now : List ℤ) (said : Numbered)
    (handed : outcome said now ≡ delivered (Ok tt) (entries_of vector) cells) where
  told : outcome (entries_read vector.kind vector.n said) now ≡ entries_delivered (sheet_of bytes) cells
  told =
      let given = sheet_given (sheet_of bytes) vector read in
      ap (retold (entries_read vector.kind vector.n)) handed ∙ ap (λ (s : Read Sheet). entries_delivered s cells) (sym given.given)

  told_as : (answer : Numbered) → said ≡ answer → outcome (entries_read vector.kind vector.n answer) now ≡ entries_delivered (sheet_of bytes) cells
  told_as answer is = ap (λ (s : Numbered). outcome (entries_read vector.kind vector.n s) now) (sym is) ∙ told

pub returns-in_err-vector : goal.returns-in_err-vector
returns-in_err-vector c =
    let a = c.args in
    let p = err_from_is_err_and c.from_residual.result c.from_residual.ensures.1 in
    rw (p.1, p.2) (ap (λ (s : Read Sheet). entries_delivered s a.cells.now) (sym (sheet_refused (sheet_of a.bytes.now) _ c.in_err-vector.ensures)))

pub returns-in_err-length : goal.returns-in_err-length
returns-in_err-length c =
    let a = c.args in
    let p = err_from_is_err_and c.from_residual-in_err-length.result c.from_residual-in_err-length.ensures.1 in
    rw (p.1, p.2)
    (told_as a.bytes.now c.in_ok-vector.vector c.in_ok-vector.ensures a.cells.now _ _ c.hand_out.ensures _ c.in_err-length.was)

pub returns : goal.returns
returns c =
    let a = c.args in
    told_as a.bytes.now c.in_ok-vector.vector c.in_ok-vector.ensures a.cells.now _ _ c.hand_out.ensures _ c.in_ok-length.was
