-- Bytes written over a part of a buffer are placed there. Assumes nothing.
use mathlib.Core.Path.{◌≡◌, sym, ap, ap₂, ◌∙◌}
use mathlib.Core.List.{List, ◌++◌, append_assoc}
use Prim.Native.Nat.{ℕ, ◌+◌, ◌-◌, ◌≤◌}
use native.Mathlib.Nat.{le-add_right}
use lib.ListN.{length, take, drop}
use borrow.Rule.Slice.PartMut.{put_mid, Post-is}
use Rattle.answer.specs.Outcome.{outcome}
use Rattle.answer.specs.Placed.{placed}
use Rattle.answer.proofs.Placing.{placed_fits}

pub placed_part : (buffer form new : List ℕ) (start : ℕ) → new ≡ form → start + length form ≤ length buffer
    → outcome (start + length form) (put_mid start (start + length form - start) buffer new) ≡ placed buffer start form
placed_part buffer form new start same fits =
    let end : ℕ = start + length form in
    ap₂ (λ (now rest : List ℕ). outcome end (take start buffer ++ (now ++ rest))) same (Post-is start end buffer (le-add_right start (length form)))
    ∙ ap (outcome end) (sym (append_assoc (take start buffer) form (drop end buffer))) ∙ sym (placed_fits buffer start form fits)
