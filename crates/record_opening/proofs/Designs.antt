-- What was opened: of a refused record its refusal, and of an accepted one a record that keeps the rules, whose sets stand in front of the array.
-- Assumes nothing.
use mathlib.Core.Path.{◌≡◌, refl, sym, ap, ap₂, ◌∙◌}
use mathlib.Core.List.{List}
use Prim.Native.Nat.{ℕ, ◌≤◌}
use native.Mathlib.Omega.{arith}
use lib.ListN.{length, take, drop, length-replicate}
use lib.Seq.{take-append_seam}
use Rattle.std.specs.Prelude.{Ok, Err}
use Rattle.answer.specs.declared.Refusal.{Refusal}
use Rattle.answer.proofs.Outcomes.{InFront, in_front_length}
use Rattle.codec.specs.Bytes.{Bytes}
use Rattle.codec.specs.Reads.{Read, found, refused}
use Rattle.record_retired.specs.Retired.{retired_of}
use Rattle.record_editions.specs.Editions.{Stored, design_of, retired_in, edition_of, whole_stored}
use Rattle.record_editions.specs.EditionBytes.{StoredRules}
use Rattle.record_editions.proofs.RoundTrip.{stored_written, rules_design}
use Rattle.record_opening.specs.declared.Opened.{Opened}
use Rattle.record_opening.specs.Opening.{opened_of}
use Rattle.record_opening.proofs.Loading.{room}

-- a result in front of an array is what its first cells hold
front_taken : {buffer result now : List ℕ} {next : ℕ} → InFront buffer result now next → take next now ≡ result
front_taken {buffer} {result} front =
    ap₂ (λ (k : ℕ) (l : List ℕ). take k l) front.ends front.stands ∙ take-append_seam result (drop (length result) buffer)

-- what was opened of an accepted record
pub record RecordOpened (bytes : List ℕ) (o : Opened) : Type 0 where
  pub s : Stored
  pub next : ℕ
  pub read : whole_stored bytes ≡ found s next
  pub rules : StoredRules s
  pub list : o.list ≡ (design_of s).parts
  pub front : InFront room (design_of s).sets o.sets o.count
  pub edition : o.edition ≡ edition_of s
  pub retired : o.retired ≡ retired_of (retired_in s)

module _ (bytes : List ℕ) (o : Opened) (e : o ≡ opened_of (whole_stored bytes)) where
  pub opened_record : Bytes bytes → o.verdict ≡ Ok tt → RecordOpened bytes o
  opened_record bounded v = cases (whole_stored bytes) refl
    where
      cases : (r : Read Stored) → whole_stored bytes ≡ r → RecordOpened bytes o
      cases (refused why) h =
          let same : Err why ≡ Ok tt = sym (ap (λ (x : Opened). x.verdict) (e ∙ ap opened_of h)) ∙ v in
          let z : ◌≡◌ {A = ℕ} 0 1 = cc in
          absurd (omega arith)
      cases (found s next) h =
          let same : o ≡ opened_of (found s next) = e ∙ ap opened_of h in
          record {
            s = s;
            next = next;
            read = h;
            rules = (stored_written bytes s next bounded h).0;
            list = ap (λ (x : Opened). x.list) same;
            front = record { ends = ap (λ (x : Opened). x.count) same; stands = ap (λ (x : Opened). x.sets) same };
            edition = ap (λ (x : Opened). x.edition) same;
            retired = ap (λ (x : Opened). x.retired) same;
          }

  -- what the verdict refuses the record for is what reading it does
  pub opened_why : (why : Refusal) → o.verdict ≡ Err why → whole_stored bytes ≡ refused why
  opened_why why v = cases (whole_stored bytes) refl
    where
      cases : (r : Read Stored) → whole_stored bytes ≡ r → r ≡ refused why
      cases (refused r) h =
          let same : Err r ≡ Err why = sym (ap (λ (x : Opened). x.verdict) (e ∙ ap opened_of h)) ∙ v in
          let one : r ≡ why = cc in
          ap (λ (x : Refusal). refused x) one
      cases (found s next) h =
          let same : (Ok tt) ≡ Err why = sym (ap (λ (x : Opened). x.verdict) (e ∙ ap opened_of h)) ∙ v in
          let z : ◌≡◌ {A = ℕ} 0 1 = cc in
          absurd (omega arith)

-- ---- the sets in the array

module _ {bytes : List ℕ} {o : Opened} (w : RecordOpened bytes o) where
  pub sets_front : take o.count o.sets ≡ (design_of w.s).sets
  sets_front = front_taken w.front

  pub sets_counted : o.count ≡ length (design_of w.s).sets
  sets_counted = w.front.ends

  pub sets_few : o.count ≤ 12870
  sets_few = omega (arith, sets_counted, (rules_design w.s w.rules).sets.most)

  pub sets_room : length o.sets ≡ 12870
  sets_room =
      in_front_length room (design_of w.s).sets o.sets o.count w.front (omega (arith, (rules_design w.s w.rules).sets.most, length-replicate {A = ℕ} 12870 0))
      ∙ length-replicate {A = ℕ} 12870 0
