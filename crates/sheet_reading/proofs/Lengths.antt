-- No sheet that is accepted is longer than 155 bytes, since it is the byte form of an accepted vector. Assumes nothing.
use mathlib.Core.Path.{◌≡◌, subst}
use mathlib.Core.List.{List}
use Prim.Native.Nat.{ℕ, ◌≤◌}
use lib.ListN.{length}
use Rattle.codec.specs.Bytes.{Bytes}
use Rattle.codec.specs.Reads.{found}
use Rattle.sheet.specs.Sheets.{Sheet, sheet_of}
use Rattle.sheet.proofs.Lengths.{written_longest}
use Rattle.sheet_reading.proofs.SheetForm.{sheet_form}

pub accepted_longest : (bytes : List ℕ) → Bytes bytes → (s : Sheet) (end : ℕ) → sheet_of bytes ≡ found s end → length bytes ≤ 155
accepted_longest bytes narrow s end e =
    let form = sheet_form bytes narrow s.kind s.n s.entries end e in
    subst (λ (l : List ℕ). length l ≤ 155) form.0 (written_longest s.kind s.n s.entries form.1)
