-- `vector::Vector::convert` meets its contract: the entries are converted into cells that hold 0.
-- Assumes nothing.
use mathlib.Core.Path.{◌≡◌, sym, ap, ap₂, ◌∙◌}
use mathlib.Core.List.{List}
use Prim.Native.Nat.{ℕ}
use native.Mathlib.Omega.{arith}
use lib.IntN.{ℤ, pos}
use lib.ListN.{length, take, replicate}
use Rattle.std.specs.Prelude.{Ok, Err, Result}
use Rattle.std.proofs.lemmas.Result.{err_from_is_err_and}
use Rattle.answer.specs.Outcome.{outcome, delivered, Numbered, Verdict}
use Rattle.answer.specs.declared.Refusal.{Refusal}
use Rattle.vector.specs.InStruct.{most_entries, vector_holding, entries_of, struct_refusal, given, struct_converted}
use Rattle.vector.specs.Inside.{lent_cells}
use Rattle.vector_conversion.specs.Vectors.{vector_refusal, converted}
use Rattle.vector_kind.specs.declared.Kind.{Kind}
use Rattle.vector.specs.declared.Vector.{Vector}
use Rattle.vector.proofs.InStruct.{lent_judged, lent_held, zeros_behind, converted_fits}
use Rattle.answer.proofs.Deliveries.{refused_by}
use Rattle.answer.proofs.Deliveries.{given as written_whole}
use Rattle.vector.proofs.Vector.convert.Goals as goal

-- the verdict on what is looked at, and what it is converted to
module _ (vector : Vector) (all : length vector.entries ≡ most_entries) (target : Kind) (lent : List ℤ) (looked : lent ≡ take (lent_cells vector.length) vector.entries)
    (said : Numbered) (now : List ℤ)
    (left : outcome said now ≡ delivered (vector_refusal vector.kind vector.n lent) (converted target vector.kind vector.n lent) (replicate most_entries (pos 0))) where
  same : vector_refusal vector.kind vector.n lent ≡ struct_refusal vector
  same = ap (vector_refusal vector.kind vector.n) looked ∙ lent_judged vector all

  -- what is given where the vector is judged so
  abbrev held : Verdict → Result Vector Refusal
  held v = given v (vector_holding target vector.n (converted target vector.kind vector.n (entries_of vector)))

  why_refused : (why : Refusal) → said ≡ Err why → Err why ≡ struct_converted vector target
  why_refused why e =
      ap held (sym (refused_by _ _ (replicate most_entries (pos 0)) now why (converted_fits target vector.kind vector.n lent) (ap (λ (s : Numbered). outcome s now) (sym e) ∙ left)) ∙ same)

  what_written : (long : ℕ) → said ≡ Ok long → Ok (record { kind = target; n = vector.n; length = long; entries = now }) ≡ struct_converted vector target
  what_written long e =
      let whole = written_whole _ _ (replicate most_entries (pos 0)) now long (ap (λ (s : Numbered). outcome s now) (sym e) ∙ left) in
      let accepted : struct_refusal vector ≡ Ok tt = sym same ∙ whole.accepted in
      ap₂ (λ (k : ℕ) (cells : List ℤ). given (Ok tt) (record { kind = target; n = vector.n; length = k; entries = cells })) whole.counted (whole.stands ∙ zeros_behind (converted target vector.kind vector.n lent))
      ∙ ap (λ (l : List ℤ). given (Ok tt) (vector_holding target vector.n (converted target vector.kind vector.n l)))
      (looked ∙ lent_held vector accepted)
      ∙ ap held (sym accepted)

pub returns-in_err-length : goal.returns-in_err-length
returns-in_err-length c =
    let p = err_from_is_err_and c.from_residual.result c.from_residual.ensures.1 in
    rw (p.1, p.2) (why_refused c.args.self (omega arith) c.args.target _ c.entries.ensures _ _ c.convert.ensures _ c.in_err-length.was)

pub returns : goal.returns
returns c = what_written c.args.self (omega arith) c.args.target _ c.entries.ensures _ _ c.convert.ensures _ c.in_ok-length.was
