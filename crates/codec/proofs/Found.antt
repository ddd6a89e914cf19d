-- Laws of what stands at a position: what is found after something, what stands there as bytes, and a number of a field that was read.
-- Assumes nothing.
use mathlib.Core.Path.{◌≡◌, refl, sym, ap, ◌∙◌}
use mathlib.Core.Bool.{Bool, true, false, cond}
use mathlib.Core.List.{List, [], ◌++◌, append_assoc}
use Prim.Native.Nat.{ℕ, ◌+◌, ◌≤◌}
use native.Mathlib.Nat.{add-zero}
use native.Mathlib.Omega.{arith}
use borrow.Author.Tests.{le-ltb, ltb-false}
use lib.Dec.{ltb}
use lib.ListN.{length, drop, length-append}
use lib.Seq.{drop-drop, drop-append_seam}
use Rattle.std.specs.Prelude.{Ok, Err}
use Rattle.answer.specs.declared.Reason.TheVariants.{BytesLeft}
use Rattle.answer.specs.Outcome.{at, Verdict}
use Rattle.answer.specs.declared.Refusal.{Refusal}
use Rattle.codec.specs.declared.Standing.{Standing}
use Rattle.codec.specs.declared.Field.{Field}
use Rattle.codec.specs.Fields.{top}
use Rattle.codec.specs.ByteForm.{bytes_of}
use Rattle.codec.specs.Reads.{Read, found, refused, then, unless, alone, reading_of, answered, Reading}
use Rattle.codec.specs.Reading.{number_at}
use Rattle.codec.specs.FieldReads.{judged, field_at}
use Rattle.codec.proofs.ReadAfterWrite.{form_read}
use Rattle.codec.specs.Bytes.{Bytes}
use Rattle.codec.proofs.WriteAfterRead.{read_form}

-- ---- one thing after the other

-- what is found after something is found after what that is
pub then_found : {A B : Type 0} (first : Read A) (later : A → ℕ → Read B) (b : B) (end : ℕ) → then first later ≡ found b end → (a : A) × (next : ℕ) × (first ≡ found a next) × (later a next ≡ found b end)
then_found (found a next) later b end e = (a, next, refl, e)
then_found (refused r) later b end e = let z : ◌≡◌ {A = ℕ} 0 1 = cc in absurd (omega arith)

-- and the other way round
pub found_then : {A B : Type 0} {first : Read A} (later : A → ℕ → Read B) {b : B} {end : ℕ} {a : A} {next : ℕ} → first ≡ found a next → later a next ≡ found b end → then first later ≡ found b end
found_then {A} later e h = ap (λ (r : Read A). then r later) e ∙ h

-- where something else is found first, what comes later finds the same
pub then_other : {A B : Type 0} (first other : Read A) (later : A → ℕ → Read B) (b : B) (end : ℕ)
    → ((a : A) (next : ℕ) → first ≡ found a next → later a next ≡ found b end → other ≡ found a next) → then first later ≡ found b end → then other later ≡ found b end
then_other first other later b end same e =
    let a = then_found first later b end e in
    found_then later (same a.0 a.1 a.2 a.3) a.3

-- what is read after equal things is equal where it is equal for what was found
pub then_alike : {A B : Type 0} (first other : Read A) (later last : A → ℕ → Read B) → other ≡ first → ((a : A) (next : ℕ) → first ≡ found a next → last a next ≡ later a next)
    → then other last ≡ then first later
then_alike {A} {B} (found a next) other later last e h = ap (λ (r : Read A). then r last) e ∙ h a next refl
then_alike {A} {B} (refused r) other later last e h = ap (λ (r : Read A). then r last) e

pub unless_found : {A : Type 0} (v : Verdict) (later : Read A) (a : A) (next : ℕ) → unless v later ≡ found a next → (v ≡ Ok tt) × (later ≡ found a next)
unless_found (Ok _) later a next e = (refl, e)
unless_found (Err r) later a next e = let z : ◌≡◌ {A = ℕ} 0 1 = cc in absurd (omega arith)

-- what is found alone has nothing behind it
pub alone_found : {A : Type 0} (bytes : List ℕ) (a : A) (i : ℕ) (b : A) (next : ℕ) → alone bytes a i ≡ found b next → (a ≡ b) × (i ≡ next) × (length bytes ≤ next)
alone_found {A} bytes a i b next = cases (ltb i (length bytes)) refl
  where
    cases : (left : Bool) → ltb i (length bytes) ≡ left → cond left (refused (at BytesLeft i)) (found a i) ≡ found b next → (a ≡ b) × (i ≡ next) × (length bytes ≤ next)
    cases true h e = let z : ◌≡◌ {A = ℕ} 0 1 = cc in absurd (omega arith)
    cases false h e = let same : i ≡ next = cc in (cc, same, omega (arith, ltb-false i (length bytes) h))

-- ---- bytes at a position

-- bytes that stand at a position of the input, whole, with the position behind them
pub record Stands (bytes : List ℕ) (start next : ℕ) (form : List ℕ) : Type 0 where
  pub stands : drop start bytes ≡ form ++ drop next bytes
  pub position : next ≡ start + length form
  pub inside : next ≤ length bytes

pub stands_none : (bytes : List ℕ) (start : ℕ) → start ≤ length bytes → Stands bytes start start []
stands_none bytes start h = record { stands = refl; position = sym (add-zero start); inside = h }

pub stands_both : {bytes : List ℕ} {start middle next : ℕ} {front rest : List ℕ} → Stands bytes start middle front → Stands bytes middle next rest → Stands bytes start next (front ++ rest)
stands_both {bytes} {start} {middle} {next} {front} {rest} a b = record {
  stands = a.stands ∙ ap (λ (l : List ℕ). front ++ l) b.stands ∙ sym (append_assoc front rest (drop next bytes));
  position = omega (arith, a.position, b.position, length-append front rest);
  inside = b.inside;
}

-- what stands behind the first of two forms
pub behind : (bytes : List ℕ) (start : ℕ) (front rest : List ℕ) → drop start bytes ≡ front ++ rest → drop (start + length front) bytes ≡ rest
behind bytes start front rest e =
    sym (drop-drop (length front) start bytes) ∙ ap (drop (length front)) e ∙ drop-append_seam front rest

-- ---- a number of a field

judged_found : (refusal : ℕ → Verdict) (r : Read ℕ) (v next : ℕ) → judged refusal r ≡ found v next → (refusal v ≡ Ok tt) × (r ≡ found v next)
judged_found refusal (found w after) v next e =
    let passed = unless_found (refusal w) (found w after) v next e in
    let value : w ≡ v = cc passed.1 in
    (ap refusal (sym value) ∙ passed.0, cc passed.1)
judged_found refusal (refused r) v next e = let z : ◌≡◌ {A = ℕ} 0 1 = cc in absurd (omega arith)

-- what a field finds
pub record Passed (bytes : List ℕ) (start : ℕ) (field : Field) (refusal : ℕ → Verdict) (v next : ℕ) : Type 0 where
  pub passed : refusal v ≡ Ok tt
  pub stands : Stands bytes start next (bytes_of v)
  pub allowed : v ≤ top field

module _ (bytes : List ℕ) (start : ℕ) (field : Field) (refusal : ℕ → Verdict) where
  module _ (v next : ℕ) where
    pub field_found : Bytes bytes → field_at bytes start field refusal ≡ found v next → Passed bytes start field refusal v next
    unfolding field_at
    field_found small e =
        let j = judged_found refusal (number_at bytes start field) v next e in
        let r = read_form bytes start field v next small j.1 in
        record {
          passed = j.0;
          stands = record { stands = r.form; position = r.position; inside = r.inside };
          allowed = r.allowed;
        }

    -- what is found passed the checks
    pub field_checked : field_at bytes start field refusal ≡ found v next → refusal v ≡ Ok tt
    unfolding field_at
    field_checked e = (judged_found refusal (number_at bytes start field) v next e).0

    -- and is the number that stands there
    pub field_number : field_at bytes start field refusal ≡ found v next → number_at bytes start field ≡ found v next
    unfolding field_at
    field_number e = (judged_found refusal (number_at bytes start field) v next e).1

  -- a form that passes the checks is found
  pub field_read : (v : ℕ) (rest : List ℕ) → drop start bytes ≡ bytes_of v ++ rest → v ≤ top field → refusal v ≡ Ok tt → field_at bytes start field refusal ≡ found v (start + length (bytes_of v))
  unfolding field_at
  field_read v rest e h passed =
      let read : number_at bytes start field ≡ found v (start + length (bytes_of v)) =
      form_read bytes start field v rest e ∙ simp (le-ltb (top field) v h) in
      ap (judged refusal) read
      ∙ ap (λ (w : Verdict). unless w (found v (start + length (bytes_of v)))) passed

-- ---- from an answer

-- what an answer says was read
module _ {A : Type 0} where
  -- what was read, from its answer
  read_back : Reading A → Read A
  read_back (Ok here) = found here.value here.next
  read_back (Err why) = refused why

  read_again : (r : Read A) → read_back (reading_of r) ≡ r
  unfolding read_back
  read_again (found value next) = refl
  read_again (refused why) = refl

  pub answer_number : (r : Read A) (v : A) (next : ℕ) → answered v next ≡ reading_of r → r ≡ found v next
  unfolding read_back
  answer_number r v next e = sym (ap read_back e ∙ read_again r)

  pub answer_refused : (r : Read A) (why : Refusal) → Err why ≡ reading_of r → r ≡ refused why
  unfolding read_back
  answer_refused r why e = sym (ap read_back e ∙ read_again r)

-- what a `?` hands on, and what stands behind it
module _ {A B C : Type 0} (r : Read A) (k : A → ℕ → Read B) (form : Read B → C) where
  pub handed_on : (why : Refusal) → Err why ≡ reading_of r → form (refused why) ≡ form (then r k)
  handed_on why e = sym (ap (λ (x : Read A). form (then x k)) (answer_refused r why e))

  pub gone_on : (here : Standing A) → Ok here ≡ reading_of r → form (k here.value here.next) ≡ form (then r k)
  gone_on here e = sym (ap (λ (x : Read A). form (then x k)) (answer_number r here.value here.next e))

module _ (bytes : List ℕ) (start : ℕ) (field : Field) (refusal : ℕ → Verdict) {r : Reading ℕ} (read : r ≡ reading_of (number_at bytes start field)) where
  -- no number
  pub field_ended : (why : Refusal) → r ≡ Err why → refused why ≡ field_at bytes start field refusal
  unfolding field_at
  field_ended why e = sym (ap (judged refusal) (answer_refused (number_at bytes start field) why (sym e ∙ read)))

  -- a number that passes the checks
  pub field_passed : (value next : ℕ) → r ≡ answered value next → refusal value ≡ Ok tt → found value next ≡ field_at bytes start field refusal
  unfolding field_at
  field_passed value next e passed =
      sym (ap (judged refusal) (answer_number (number_at bytes start field) value next (sym e ∙ read)) ∙ ap (λ (v : Verdict). unless v (found value next)) passed)

  -- a number that a check refuses
  pub field_held : (value next : ℕ) (why : Refusal) → r ≡ answered value next → refusal value ≡ Err why → refused why ≡ field_at bytes start field refusal
  unfolding field_at
  field_held value next why e held =
      sym (ap (judged refusal) (answer_number (number_at bytes start field) value next (sym e ∙ read)) ∙ ap (λ (v : Verdict). unless v (found value next)) held)
