-- Cells of a fixed number: items in front, and a filler in the spare cells behind the last.
-- Assumes nothing.
use mathlib.Core.Path.{◌≡◌, sym, ◌∙◌}
use mathlib.Core.List.{List, [], ◌∷◌, ◌++◌, append_assoc}
use Prim.Native.Nat.{ℕ, suc, ◌-◌, ◌<◌}
use native.Mathlib.Omega.{arith}
use lib.ListN.{length, set, replicate, length-append}
use lib.Seq.{set_at}

-- one more item behind some fills the first spare cell
pub cells_more : {A : Type 0} (room : ℕ) (filler : A) (items : List A) (count : ℕ) (item : A) → length items ≡ count → count < room
    → set (items ++ replicate (room - length items) filler) count item ≡ (items ++ (item ∷ [])) ++ replicate (room - length (items ++ (item ∷ []))) filler
cells_more room filler items count item counted few =
    let spare : room - length items ≡ suc (room - length (items ++ (item ∷ []))) = simp length-append (omega arith) in
    rw spare (set_at items filler _ item count counted ∙ sym (append_assoc items (item ∷ []) _))
