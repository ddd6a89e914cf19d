-- A walk along the sets of a record: it meets them in their order, and each step finds what the definition says.
-- Assumes nothing.
use mathlib.Core.Path.{◌≡◌, sym, ap, ◌∙◌}
use mathlib.Core.List.{List, [], ◌∷◌, ◌++◌, append_assoc, append-nil}
use Prim.Native.Nat.{ℕ, zero, suc, ◌-◌}
use native.Mathlib.Nat.{pos_of_ne-zero}
use native.Mathlib.Omega.{arith}
use Rattle.std.specs.Prelude.{Err}
use Rattle.answer.specs.declared.Refusal.{Refusal}
use Rattle.codec.specs.declared.Field.TheVariants as field
use Rattle.codec.specs.Reads.{Read, found, reading_of, answered, Reading}
use Rattle.codec.specs.Reading.{number_at}
use Rattle.codec.specs.FieldReads.{field_at, fields_at}
use Rattle.codec.proofs.Found.{then_found, field_number, answer_number, answer_refused}
use Rattle.std.specs.Prelude.{Some, None}
use Rattle.record.specs.Records.{set_refusal, sets_at}
use Rattle.record.specs.Contents.{step, cursor, step_on, step_from, step_at, met_in}

-- ---- along the sets

pub walk_sets : (bytes : List ℕ) (n more : ℕ) (earlier : List ℕ) (start : ℕ) (sets : List ℕ) (end : ℕ) → sets_at bytes n more earlier start ≡ found sets end
    → earlier ++ met_in more bytes (step_at bytes (cursor start more)) ≡ sets
unfolding fields_at step_at
walk_sets bytes n zero earlier start sets end e = let same : earlier ≡ sets = cc in append-nil earlier ∙ same
walk_sets bytes n (suc more) earlier start sets end e =
    let a = then_found (field_at bytes start field.Set (set_refusal n earlier start)) _ sets end e in
    let v : ℕ = a.0 in
    let next : ℕ = a.1 in
    let read : number_at bytes start field.Set ≡ found v next = field_number bytes start field.Set (set_refusal n earlier start) v next a.2 in
    ap (λ (r : Read ℕ). earlier ++ met_in (suc more) bytes (step_on r more)) read
    ∙ sym (append_assoc earlier (v ∷ []) (met_in more bytes (step_at bytes (cursor next more))))
    ∙ walk_sets bytes n more (earlier ++ (v ∷ [])) next sets end a.3

-- ---- a step of a walk

module _ (bytes : List ℕ) (next left : ℕ) where
  pub step_none : left ≡ 0 → None ≡ step_at bytes (cursor next left)
  unfolding step_at
  step_none e = sym (ap (step_from bytes next) e)

  module _ (some : left ≡ 0 → ⊥) {r : Reading ℕ} (read : r ≡ reading_of (number_at bytes next field.Set)) where
    here : step_on (number_at bytes next field.Set) (left - 1) ≡ step_at bytes (cursor next left)
    unfolding step_at
    here = let more : left ≡ suc (left - 1) = omega (arith, pos_of_ne-zero some) in sym (ap (step_from bytes next) more)

    pub step_ended : (why : Refusal) → r ≡ Err why → None ≡ step_at bytes (cursor next left)
    step_ended why e = sym (ap (λ (f : Read ℕ). step_on f (left - 1)) (answer_refused (number_at bytes next field.Set) why (sym e ∙ read))) ∙ here

    pub step_set : (value after : ℕ) → r ≡ answered value after → Some (step value (cursor after (left - 1))) ≡ step_at bytes (cursor next left)
    step_set value after e = sym (ap (λ (f : Read ℕ). step_on f (left - 1)) (answer_number (number_at bytes next field.Set) value after (sym e ∙ read))) ∙ here
