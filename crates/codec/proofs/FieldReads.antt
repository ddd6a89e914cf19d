-- Laws of numbers of a field one after the other, for any judge that passes a number at any place if at one: what was written is found, what is
-- found was written and passed, and where it ends.
-- Assumes nothing.
use mathlib.Core.Path.{◌≡◌, refl, sym, ap, ◌∙◌, subst}
use mathlib.Core.List.{List, [], ◌∷◌, ◌++◌, append_assoc, append-nil}
use Prim.Native.Nat.{ℕ, zero, suc, ◌+◌, ◌-◌, ◌*◌, ◌≤◌, ◌<◌}
use native.Mathlib.Nat.{add-zero, sub-zero}
use native.Mathlib.Omega.{arith}
use lib.ListN.{length, get_or, drop, length-append}
use Rattle.std.specs.Prelude.{Ok}
use Rattle.answer.specs.declared.Refusal.{Refusal}
use Rattle.codec.specs.declared.Field.{Field}
use Rattle.codec.specs.Fields.{groups, top}
use Rattle.codec.specs.ByteForm.{bytes_of, forms_of}
use Rattle.codec.specs.Reads.{Read, found, refused, then}
use Rattle.codec.specs.FieldReads.{Judge, field_at, fields_at}
use Rattle.codec.specs.Bytes.{Bytes}
use Rattle.codec.proofs.ByteForms.{forms_most}
use Rattle.codec.proofs.ReadAfterWrite.{form_groups}
use Rattle.codec.proofs.Found.{then_found, found_then, Stands, stands_none, stands_both, behind, field_found, field_read}

-- a judge that passes a number at any place if at one
abbrev pub AnyPlace : Judge → Type 0
AnyPlace judge = (earlier : List ℕ) (place other number : ℕ) → judge earlier place number ≡ Ok tt → judge earlier other number ≡ Ok tt

-- each number passes after the earlier ones, wherever it stands
abbrev pub Follow : Judge → List ℕ → List ℕ → Type 0
Follow judge earlier [] = Unit {0}
Follow judge earlier (number ∷ numbers) = ((place : ℕ) → judge earlier place number ≡ Ok tt) × Follow judge (earlier ++ (number ∷ [])) numbers

-- no number is over the field's top value
abbrev pub AllAllowed : Field → List ℕ → Type 0
AllAllowed field [] = Unit {0}
AllAllowed field (number ∷ numbers) = (number ≤ top field) × AllAllowed field numbers

-- numbers that a field allows take no more bytes than its groups allow
pub forms_allowed : (field : Field) (numbers : List ℕ) → AllAllowed field numbers → length (forms_of numbers) ≤ groups field * length numbers
forms_allowed field numbers allowed = forms_most (groups field) numbers (λ i. form_groups field (get_or numbers i 0) (each numbers allowed i))
  where
    each : (numbers : List ℕ) → AllAllowed field numbers → (i : ℕ) → get_or numbers i 0 ≤ top field
    each [] allowed i = omega arith
    each (x ∷ numbers) allowed zero = allowed.0
    each (x ∷ numbers) allowed (suc i) = each numbers allowed.1 i

module _ (bytes : List ℕ) (field : Field) (judge : Judge) where
  -- there are as many numbers as were to be read
  pub fields_counted : (more : ℕ) (earlier : List ℕ) (start : ℕ) (numbers : List ℕ) (end : ℕ) → fields_at bytes field judge more earlier start ≡ found numbers end → length numbers ≡ length earlier + more
  unfolding fields_at
  fields_counted zero earlier start numbers end e = let same : earlier ≡ numbers = cc in omega (arith, ap length same)
  fields_counted (suc more) earlier start numbers end e =
      let a = then_found (field_at bytes start field (judge earlier start)) _ numbers end e in
      omega (arith, fields_counted more (earlier ++ (a.0 ∷ [])) a.1 numbers end a.3, length-append earlier (a.0 ∷ []))

  -- what is found behind the earlier numbers
  pub record FieldsRead (more : ℕ) (earlier : List ℕ) (start : ℕ) (numbers : List ℕ) (end : ℕ) : Type 0 where
    pub rest : List ℕ
    pub behind_earlier : numbers ≡ earlier ++ rest
    pub counted : length rest ≡ more
    pub follow : Follow judge earlier rest
    pub allowed : AllAllowed field rest
    pub stands : Stands bytes start end (forms_of rest)

  pub fields_found : AnyPlace judge → (more : ℕ) (earlier : List ℕ) (start : ℕ) (numbers : List ℕ) (end : ℕ) → Bytes bytes → start ≤ length bytes
      → fields_at bytes field judge more earlier start ≡ found numbers end → FieldsRead more earlier start numbers end
  unfolding fields_at forms_of
  fields_found anywhere zero earlier start numbers end small inside e =
      let same : earlier ≡ numbers = cc in
      let stays : start ≡ end = cc in
      record {
        rest = [];
        behind_earlier = sym (append-nil earlier ∙ same);
        counted = refl;
        follow = tt;
        allowed = tt;
        stands = subst (λ (k : ℕ). Stands bytes start k []) stays (stands_none bytes start inside);
      }
  fields_found anywhere (suc more) earlier start numbers end small inside e =
      let first = then_found (field_at bytes start field (judge earlier start)) _ numbers end e in
      let v : ℕ = first.0 in
      let next : ℕ = first.1 in
      let f = field_found bytes start field (judge earlier start) v next small first.2 in
      let later = fields_found anywhere more (earlier ++ (v ∷ [])) next numbers end small f.stands.inside first.3 in
      record {
        rest = v ∷ later.rest;
        behind_earlier = later.behind_earlier ∙ append_assoc earlier (v ∷ []) later.rest;
        counted = ap suc later.counted;
        follow = (λ place. anywhere earlier start place v f.passed, later.follow);
        allowed = (f.allowed, later.allowed);
        stands = stands_both f.stands later.stands;
      }

  pub fields_read : (numbers earlier : List ℕ) (start : ℕ) (rest : List ℕ) → AllAllowed field numbers → Follow judge earlier numbers → drop start bytes ≡ forms_of numbers ++ rest
      → fields_at bytes field judge (length numbers) earlier start ≡ found (earlier ++ numbers) (start + length (forms_of numbers))
  unfolding fields_at forms_of
  fields_read [] earlier start rest allowed follow e = rw (append-nil, add-zero)
  fields_read (v ∷ numbers) earlier start rest allowed follow e =
      let forms : drop start bytes ≡ bytes_of v ++ (forms_of numbers ++ rest) = e ∙ append_assoc (bytes_of v) (forms_of numbers) rest in
      let next : ℕ = start + length (bytes_of v) in
      let ends : next + length (forms_of numbers) ≡ start + length (bytes_of v ++ forms_of numbers) = omega (arith, length-append (bytes_of v) (forms_of numbers)) in
      let first : field_at bytes start field (judge earlier start) ≡ found v next =
      field_read bytes start field (judge earlier start) v (forms_of numbers ++ rest) forms allowed.0 (follow.0 start) in
      found_then _ first
      (fields_read numbers (earlier ++ (v ∷ [])) next rest allowed.1 follow.1 (behind bytes start (bytes_of v) (forms_of numbers ++ rest) forms)
      ∙ rw (append_assoc, ends))

-- ---- a walk along the numbers: what is known before the number at an index

pub record FieldsWalk (bytes : List ℕ) (field : Field) (judge : Judge) (count start : ℕ) (earlier : List ℕ) (next index : ℕ) : Type 0 where
  pub within : index ≤ count
  pub counted : length earlier ≡ index
  pub rest : fields_at bytes field judge (count - index) earlier next ≡ fields_at bytes field judge count [] start

pub fields_walk_none : (bytes : List ℕ) (field : Field) (judge : Judge) (count start : ℕ) → FieldsWalk bytes field judge count start [] start 0
fields_walk_none bytes field judge count start = record {
  within = omega arith;
  counted = refl;
  rest = ap (λ (k : ℕ). fields_at bytes field judge k [] start) (sub-zero count);
}

module _ {bytes : List ℕ} {field : Field} {judge : Judge} {count start : ℕ} {earlier : List ℕ} {next index : ℕ} (walk : FieldsWalk bytes field judge count start earlier next index) where
  -- the numbers from here on, the one at the index first
  abbrev onward : ℕ → ℕ → Read (List ℕ)
  onward number after = fields_at bytes field judge (count - (index + 1)) (earlier ++ (number ∷ [])) after

  step : index < count → fields_at bytes field judge count [] start ≡ then (field_at bytes next field (judge earlier next)) onward
  unfolding fields_at
  step h =
      let more : count - index ≡ suc (count - (index + 1)) = omega arith in
      sym walk.rest ∙ ap (λ (k : ℕ). fields_at bytes field judge k earlier next) more

  pub fields_walk_more : index < count → (value after : ℕ) → found value after ≡ field_at bytes next field (judge earlier next)
      → FieldsWalk bytes field judge count start (earlier ++ (value ∷ [])) after (index + 1)
  fields_walk_more h value after e = record {
    within = omega arith;
    counted = length-append earlier (value ∷ []) ∙ ap (λ (k : ℕ). k + 1) walk.counted;
    rest = sym (step h ∙ ap (λ (r : Read ℕ). then r onward) (sym e));
  }

  pub fields_walk_refused : index < count → (why : Refusal) → refused why ≡ field_at bytes next field (judge earlier next) → fields_at bytes field judge count [] start ≡ refused why
  fields_walk_refused h why e = step h ∙ ap (λ (r : Read ℕ). then r onward) (sym e)

  pub fields_walk_end : count ≤ index → fields_at bytes field judge count [] start ≡ found earlier next
  unfolding fields_at
  fields_walk_end h =
      let none : count - index ≡ 0 = omega arith in
      sym walk.rest ∙ ap (λ (k : ℕ). fields_at bytes field judge k earlier next) none
