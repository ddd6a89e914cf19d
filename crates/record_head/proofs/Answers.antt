-- What an answer of one of the reading functions tells of what stands before the sets.
-- Assumes nothing.
use mathlib.Core.Path.{◌≡◌, sym, ap, ap₂, ◌∙◌, subst}
use mathlib.Core.List.{List}
use Prim.Native.Nat.{ℕ, ◌≤◌}
use native.Mathlib.Omega.{arith}
use Rattle.std.specs.Prelude.{Ok, Err}
use Rattle.answer.specs.Outcome.{Verdict}
use Rattle.answer.specs.declared.Refusal.{Refusal}
use Rattle.record_parts.specs.declared.PartList.{PartList}
use Rattle.codec.specs.declared.Field.TheVariants.{Count}
use Rattle.codec.specs.Reads.{Read, found, refused}
use Rattle.codec.specs.FieldReads.{field_at}
use Rattle.record_head.specs.declared.Heading.{Heading}
use Rattle.record_head.specs.Headings.{set_count_refusal, parts_at, Head, head_at, heading_of}
use Rattle.record_numbers.specs.Numbering.{most_parts}
use Rattle.codec.proofs.Found.{then_found}
use Rattle.record_head.proofs.PartNumbers.{parts_few}

-- an accepting verdict is no refusal
pub not_both : {A : Type 0} {v : Verdict} {why : Refusal} → v ≡ Ok tt → v ≡ Err why → A
not_both a b = let z : ◌≡◌ {A = ℕ} 0 1 = cc in absurd (omega arith)

-- what stands before the sets, from its answer
pub heading_given : (read : Read Head) (h : Heading) → Ok h ≡ heading_of read → read ≡ found (record { parts = h.list; count = h.sets }) h.begin
heading_given (found head begin) h e =
    let same : record { list = head.parts; sets = head.count; begin = begin } ≡ h = cc e in
    ap (λ (x : Heading). found (record { parts = x.list; count = x.sets }) x.begin) same
heading_given (refused why) h e = let z : ◌≡◌ {A = ℕ} 0 1 = cc in absurd (omega arith)

pub heading_refused : (read : Read Head) (why : Refusal) → Err why ≡ heading_of read → read ≡ refused why
heading_refused (found head begin) why e = let z : ◌≡◌ {A = ℕ} 0 1 = cc in absurd (omega arith)
heading_refused (refused r) why e = let same : r ≡ why = cc e in ap refused same

-- ---- what stands before the sets, from its parts

module _ (bytes : List ℕ) (start : ℕ) where
  pub head_no_parts : (why : Refusal) → parts_at bytes start ≡ refused why → head_at bytes start ≡ refused why
  unfolding head_at
  head_no_parts why e = rw e

  module _ (parts : PartList) (next : ℕ) where
    pub head_no_count : (why : Refusal) → parts_at bytes start ≡ found parts next → field_at bytes next Count (set_count_refusal next) ≡ refused why → head_at bytes start ≡ refused why
    unfolding head_at
    head_no_count why e d = rw (e, d)

    pub head_given : (count begin : ℕ) → parts_at bytes start ≡ found parts next → field_at bytes next Count (set_count_refusal next) ≡ found count begin
        → head_at bytes start ≡ found (record { parts = parts; count = count }) begin
    unfolding head_at
    head_given count begin e d = rw (e, d)

-- the number of parts of a head is that of a part list that was read, so 16 at the most
pub head_few : (bytes : List ℕ) (start : ℕ) (head : Head) (begin : ℕ) → head_at bytes start ≡ found head begin → head.parts.count ≤ most_parts
unfolding head_at
head_few bytes start head begin e =
    let a = then_found (parts_at bytes start) _ head begin e in
    let b = then_found (field_at bytes a.1 Count (set_count_refusal a.1)) _ head begin a.3 in
    let same : record { parts = a.0; count = b.0 } ≡ head = cc b.3 in
    subst (λ (h : Head). h.parts.count ≤ most_parts) same (parts_few bytes start a.0 a.1 a.2)
