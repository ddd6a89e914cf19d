-- `sheet::write_vector_as` meets its contract: what is looked at of a vector is judged as the vector, and of an accepted one it is all its entries.
-- Assumes nothing.
use mathlib.Core.Path.{◌≡◌, refl, ap, ◌∙◌}
use mathlib.Core.List.{List}
use Prim.Native.Nat.{ℕ}
use native.Mathlib.Omega.{arith}
use lib.IntN.{ℤ}
use lib.ListN.{length, take}
use Rattle.std.specs.Prelude.{Ok, Err}
use Rattle.answer.specs.Outcome.{delivered, Verdict}
use Rattle.vector.specs.Inside.{lent_cells}
use Rattle.vector.specs.InStruct.{most_entries, entries_of, struct_refusal}
use Rattle.vector.specs.declared.Vector.{Vector}
use Rattle.vector.proofs.InStruct.{lent_judged, lent_held}
use Rattle.vector_conversion.specs.Vectors.{vector_refusal}
use Rattle.vector_kind.specs.declared.Kind.{Kind}
use Rattle.sheet.specs.Saving.{sheet_as}
use Rattle.sheet.proofs.write_vector_as.Goals as goal

module _ (vector : Vector) (all : length vector.entries ≡ most_entries) (target : Kind) (buffer : List ℕ) where
  abbrev looked : List ℤ
  looked = take (lent_cells vector.length) vector.entries

  held : (v : Verdict) → struct_refusal vector ≡ v
      → delivered v (sheet_as target vector.kind vector.n looked) buffer ≡ delivered v (sheet_as target vector.kind vector.n (entries_of vector)) buffer
  held (Err why) is = refl
  held (Ok _) is = ap (λ (l : List ℤ). delivered (Ok tt) (sheet_as target vector.kind vector.n l) buffer) (lent_held vector is)

  same : delivered (vector_refusal vector.kind vector.n looked) (sheet_as target vector.kind vector.n looked) buffer
      ≡ delivered (struct_refusal vector) (sheet_as target vector.kind vector.n (entries_of vector)) buffer
  same = ap (λ (v : Verdict). delivered v (sheet_as target vector.kind vector.n looked) buffer) (lent_judged vector all) ∙ held (struct_refusal vector) refl

pub returns : goal.returns
returns c =
    let a = c.args in
    c.write_as.ensures
    ∙ ap (λ (l : List ℤ). delivered (vector_refusal a.vector.kind a.vector.n l) (sheet_as a.target a.vector.kind a.vector.n l) a.buffer.now) c.entries.ensures
    ∙ same a.vector (omega arith) a.target a.buffer.now
