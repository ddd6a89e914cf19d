-- Saving a vector (02, §11): 34 comes first; a vector of kind 1, 3 or 4 is saved as it is; and whatever is written begins with one of these
-- kinds. Assumes nothing.
use mathlib.Core.Path.{◌≡◌, refl, sym, ap, ◌∙◌, subst}
use mathlib.Core.List.{List, ◌++◌}
use mathlib.Core.Logic.{inl, inr}
use Prim.Native.Nat.{ℕ}
use native.Mathlib.Omega.{arith}
use lib.IntN.{ℤ}
use lib.ListN.{length, drop}
use borrow.Author.Tests.{eq-eqb, ne_eqb}
use Rattle.std.specs.Prelude.{Ok, Err}
use Rattle.answer.specs.Outcome.{at, outcome, delivered, Verdict}
use Rattle.answer.specs.declared.Reason.TheVariants.{TailSheet}
use Rattle.answer.proofs.Deliveries.{given}
use Rattle.answer.proofs.Outcomes.{refuse_held, refuse_passed}
use Rattle.codec.specs.ByteForm.{grouped, bytes_of}
use Rattle.vector_kind.specs.Kinds.{kind_number, kind_of}
use Rattle.vector_kind.specs.declared.Kind.{Kind}
use Rattle.vector_kind.specs.declared.Kind.TheVariants.{PathCounts, Tail, Signature, Domination}
use Rattle.vector_kind.proofs.KindNumbers.{tail_number}
use Rattle.vector_conversion.specs.Vectors.{vector_refusal}
use Rattle.vector_conversion.proofs.Conversions.{conversion_same}
use Rattle.sheet.specs.Sheets.{sheet_bytes}
use Rattle.sheet.specs.Saving.{sheet_as, saved_kind, saved_sheet, tail_sheet_refusal, WrittenKindFirst}

-- ---- 34

pub tail_held : (target : ℕ) (later : Verdict) → target ≡ 2 → tail_sheet_refusal target later ≡ Err (at TailSheet 0)
tail_held target later h = refuse_held _ TailSheet 0 later (eq-eqb target 2 h)

pub tail_passed : (target : ℕ) (later : Verdict) → (target ≡ 2 → ⊥) → tail_sheet_refusal target later ≡ later
tail_passed target later h = refuse_passed _ TailSheet 0 later (ne_eqb target 2 h)

refused_tail : (target : ℕ) (later : Verdict) → target ≡ 2 → tail_sheet_refusal target later ≡ Ok tt → ⊥
refused_tail target later h accepted =
    let clash : ◌≡◌ {A = ℕ} 0 1 = cc (sym (tail_held target later h) ∙ accepted) in absurd (omega arith)

-- ---- the kind that is saved

saved_kind_own : (kind : Kind) → (kind ≡ Tail → ⊥) → saved_kind kind ≡ kind
saved_kind_own PathCounts other = refl
saved_kind_own Tail other = absurd (other refl)
saved_kind_own Signature other = refl
saved_kind_own Domination other = refl

-- an accepted vector is saved as it is, unless it is a tail
pub saved_own : (kind : Kind) (n : ℕ) (entries : List ℤ) → (kind ≡ Tail → ⊥) → vector_refusal kind n entries ≡ Ok tt
    → saved_sheet kind n entries ≡ sheet_bytes kind n entries
saved_own kind n entries other accepted =
    ap (λ (target : Kind). sheet_as target kind n entries) (saved_kind_own kind other) ∙ ap (sheet_bytes kind n) (conversion_same kind n entries accepted)

-- ---- what is written begins with kind 1, 3 or 4

sheet_first : (target : Kind) → (target ≡ Tail → ⊥) → (n : ℕ) (entries : List ℤ) (rest : List ℕ) → WrittenKindFirst (sheet_bytes target n entries ++ rest)
unfolding sheet_bytes bytes_of grouped
sheet_first PathCounts other n entries rest = inl refl
sheet_first Tail other n entries rest = absurd (other refl)
sheet_first Signature other n entries rest = inr (inl refl)
sheet_first Domination other n entries rest = inr (inr refl)

module _ (n : ℕ) (entries : List ℤ) (before after : List ℕ) (count : ℕ) where
  -- a sheet of another kind than the tail, where it was written
  handed_first : (judged : Verdict) (target : Kind) → (judged ≡ Ok tt → target ≡ Tail → ⊥) → (sheet : List ℤ)
      → outcome (Ok count) after ≡ delivered judged (sheet_bytes target n sheet) before → WrittenKindFirst after
  handed_first judged target other sheet e =
      let m = given judged (sheet_bytes target n sheet) before after count e in
      subst WrittenKindFirst (sym m.stands) (sheet_first target (other m.accepted) n sheet (drop (length (sheet_bytes target n sheet)) before))

  -- by saving, whatever is judged of the vector
  pub saved_first : (judged : Verdict) (kind : Kind) → outcome (Ok count) after ≡ delivered judged (saved_sheet kind n entries) before → WrittenKindFirst after
  saved_first judged kind = handed_first judged (saved_kind kind) (λ accepted. never kind) _
    where
      never : (kind : Kind) → saved_kind kind ≡ Tail → ⊥
      never PathCounts same = absurd (omega (arith, ap kind_number same))
      never Tail same = absurd (omega (arith, ap kind_number same))
      never Signature same = absurd (omega (arith, ap kind_number same))
      never Domination same = absurd (omega (arith, ap kind_number same))

  -- by name
  pub named_first : (target : Kind) (later : Verdict) (kind : Kind)
      → outcome (Ok count) after ≡ delivered (tail_sheet_refusal (kind_number target) later) (sheet_as target kind n entries) before → WrittenKindFirst after
  named_first target later kind = handed_first (tail_sheet_refusal (kind_number target) later) target (λ accepted same. refused_tail _ later (ap kind_number same) accepted) _

  -- and by a kind's number
  pub numbered_first : (target : ℕ) (later : Verdict) (kind : Kind)
      → outcome (Ok count) after ≡ delivered (tail_sheet_refusal target later) (sheet_as (kind_of target) kind n entries) before → WrittenKindFirst after
  numbered_first target later kind = handed_first (tail_sheet_refusal target later) (kind_of target) (λ accepted same. refused_tail target later (tail_number target same) accepted) _
