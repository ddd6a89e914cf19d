-- What a sheet in a struct says of the sheet. Assumes nothing.
use mathlib.Core.Path.{◌≡◌, refl, sym, ap, subst}
use mathlib.Core.List.{List}
use Prim.Native.Nat.{ℕ, ◌-◌, ◌≤◌}
use native.Mathlib.Omega.{arith}
use lib.IntN.{ℤ, pos}
use lib.ListN.{length, replicate, length-append}
use Rattle.std.specs.Prelude.{Ok, Err}
use Rattle.answer.specs.declared.Refusal.{Refusal}
use Rattle.vector.specs.InStruct.{most_entries, entry_cells, entries_of, vector_holding}
use Rattle.sheet_reading.specs.Answers.{sheet_read}
use Rattle.codec.specs.Reads.{Read, found, refused}
use Rattle.sheet.specs.Sheets.{Sheet, sheet}
use Rattle.vector.specs.declared.Vector.{Vector}
use Rattle.sheet_reading.proofs.Walk.{entries_held}

-- the sheet of a vector that was read
pub record GivenAs (read : Read Sheet) (vector : Vector) : Type 0 where
  pub end : ℕ
  pub given : read ≡ found (sheet vector.kind vector.n (entries_of vector)) end
  pub counted : length (entries_of vector) ≡ vector.length
  pub inside : vector.length ≤ length vector.entries

pub sheet_given : (read : Read Sheet) (vector : Vector) → Ok vector ≡ sheet_read read → GivenAs read vector
sheet_given (refused why) vector e = let clash : ◌≡◌ {A = ℕ} 0 1 = cc in absurd (omega arith)
sheet_given (found s end) vector e =
    let held = entries_held (length s.entries) (entry_cells s.entries) s.entries refl refl in
    let same : vector ≡ vector_holding s.kind s.n s.entries = cc e in
    subst (λ (v : Vector). GivenAs (found s end) v) (sym same)
    (record {
      end = end;
      given = ap (λ (entries : List ℤ). found (sheet s.kind s.n entries) end) (sym held);
      counted = ap length held;
      inside = omega (arith, length-append s.entries (replicate (most_entries - length s.entries) (pos 0)));
    })

-- a refused sheet
pub sheet_refused : (read : Read Sheet) (why : Refusal) → Err why ≡ sheet_read read → read ≡ refused why
sheet_refused (refused other) why e = cc
sheet_refused (found s end) why e = let clash : ◌≡◌ {A = ℕ} 0 1 = cc in absurd (omega arith)
