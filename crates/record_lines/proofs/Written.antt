-- What a change writes is accepted again and read as the record that the change gives, in either edition; so are a record of parts that already
-- have numbers, and a first record.
-- Assumes nothing.
use mathlib.Core.Path.{◌≡◌, refl, sym, ap, ap₂, ◌∙◌, subst}
use mathlib.Core.List.{List}
use Prim.Native.Nat.{ℕ, ◌+◌}
use native.Mathlib.Omega.{arith}
use lib.ListN.{take}
use Rattle.std.specs.Prelude.{Ok}
use Rattle.answer.specs.Outcome.{Outcome, outcome, delivered, Numbered, Verdict}
use Rattle.answer.proofs.Outcomes.{then_accepted}
use Rattle.answer.proofs.Deliveries.{Given, given}
use Rattle.codec.specs.Bytes.{Bytes}
use Rattle.numbers.specs.Tables.{tabulate}
use Rattle.codec.specs.Reads.{Read, found, refused}
use Rattle.record.specs.Records.{Design}
use Rattle.record_editions.specs.Editions.{Stored, first, design_of, retired_in, edition_of, whole_stored, whole_record}
use Rattle.record_editions.specs.EditionBytes.{stored_bytes, StoredRules}
use Rattle.record.specs.RecordBytes.{record_bytes, DesignRules}
use Rattle.record_editions.proofs.RoundTrip.{stored_written, whole_stored_lem, stored_design, design_found, rules_design}
use Rattle.record_lines.specs.Changes.{Change, change_refusal, changed, entered_design, first_design}
use Rattle.record_lines.specs.Records.{edition_after, back_refusal, stored_refusal, changed_stored, changed_read, changed_record, entered_refusal, entered_record, first_record}
use Rattle.record_lines.proofs.Stored.{changed_design, stored_rules}
use Rattle.record_lines.proofs.Rules.{changed_rules, entered_rules, first_refusal_entered, first_design_entered}

-- What a change that was made means: nothing refused it; what it gives keeps the rules, stands in front of the buffer in its byte form, and
-- is read again as that record.
pub record Made (change : Change) (s : Stored) (outcome : Outcome Numbered (List ℕ)) (n : ℕ) : Type 0 where
  pub accepted : stored_refusal change s ≡ Ok tt
  pub again : StoredRules (changed_stored change s)
  pub written : take n outcome.buffer ≡ stored_bytes (changed_stored change s)
  pub accepted_again : whole_stored (take n outcome.buffer) ≡ found (changed_stored change s) n

module _ (change : Change) (bytes buffer : List ℕ) (n : ℕ) (e : (changed_record change bytes buffer).answer ≡ Ok n) where
  -- a change of a record that was read
  pub made_stored : (s : Stored) (next : ℕ) → whole_stored bytes ≡ found s next → StoredRules s → Made change s (changed_record change bytes buffer) n
  unfolding changed_record
  made_stored s next read rules = rw read (made (rw read at e))
    where
      made : (changed_read change (found s next) buffer).answer ≡ Ok n → Made change s (changed_read change (found s next) buffer) n
      made e =
          let left = (changed_read change (found s next) buffer).buffer in
          let g = given (stored_refusal change s) (stored_bytes (changed_stored change s)) buffer left n (ap (λ (w : Numbered). outcome w left) (sym e)) in
          let again = stored_rules change s rules g.accepted in
          record {
            accepted = g.accepted;
            again = again;
            written = g.front;
            accepted_again = ap whole_stored g.front ∙ whole_stored_lem (changed_stored change s) again ∙ ap (found (changed_stored change s)) (sym g.counted);
          }

  -- only a record is changed
  pub made_of : (s : Stored) × (next : ℕ) × (whole_stored bytes ≡ found s next)
  unfolding changed_record
  made_of = cases (whole_stored bytes) refl e
    where
      cases : (read : Read Stored) → whole_stored bytes ≡ read → (changed_read change read buffer).answer ≡ Ok n → (s : Stored) × (next : ℕ) × (whole_stored bytes ≡ found s next)
      cases (refused r) here e = let z : ◌≡◌ {A = ℕ} 0 1 = cc in absurd (omega arith)
      cases (found s next) here e = (s, next, here)

  -- so whatever a change of bytes writes is accepted again, as the changed record
  pub change_stored : Bytes bytes → (s : Stored) × (next : ℕ) × (whole_stored bytes ≡ found s next) × Made change s (changed_record change bytes buffer) n
  change_stored small =
      let old = made_of in
      (old.0, old.1, old.2, made_stored old.0 old.1 old.2 (stored_written bytes old.0 old.1 small old.2).0)

  -- and its design is the changed design, whatever the edition
  pub record DesignMade (d : Design) : Type 0 where
    pub accepted : change_refusal change d ≡ Ok tt
    pub again : DesignRules (changed change d)
    pub accepted_again : whole_record (take n (changed_record change bytes buffer).buffer) ≡ found (changed change d) n

  pub made_read : Bytes bytes → (d : Design) (next : ℕ) → whole_record bytes ≡ found d next → DesignMade d
  made_read small d next read =
      let f = design_found bytes d next read in
      let rules = (stored_written bytes f.stored next small f.read).0 in
      let m = made_stored f.stored next f.read rules in
      let mine : Design = design_of f.stored in
      let accepted = (then_accepted (change_refusal change mine) (back_refusal (edition_after change (edition_of f.stored)) (retired_in f.stored)) m.accepted).0 in
      let now : whole_record (take n (changed_record change bytes buffer).buffer) ≡ found (changed change mine) n =
      stored_design (take n (changed_record change bytes buffer).buffer) (changed_stored change f.stored) n m.accepted_again ∙ ap (λ (x : Design). found x n) (changed_design change f.stored) in
      subst DesignMade f.same (record { accepted = accepted; again = changed_rules change mine (rules_design f.stored rules) accepted; accepted_again = now })

  pub change_read : Bytes bytes → (d : Design) × (next : ℕ) × (whole_record bytes ≡ found d next) × DesignMade d
  change_read small =
      let old = made_of in
      let read = stored_design bytes old.0 old.1 old.2 in
      (design_of old.0, old.1, read, made_read small (design_of old.0) old.1 read)

-- ---- records to start from

module _ (mark : ℕ) (numbers list buffer : List ℕ) (k : ℕ) (e : (entered_record mark numbers list buffer).answer ≡ Ok k) where
  made_entered : Given (entered_refusal mark numbers list) (record_bytes (entered_design mark numbers list)) buffer (entered_record mark numbers list buffer).buffer k
  unfolding entered_record
  made_entered =
      let bytes = record_bytes (entered_design mark numbers list) in
      let left = (delivered (entered_refusal mark numbers list) bytes buffer).buffer in
      given (entered_refusal mark numbers list) bytes buffer left k (ap (λ (w : Numbered). outcome w left) (sym e))

  pub entered_keeps : DesignRules (entered_design mark numbers list)
  entered_keeps = entered_rules mark numbers list made_entered.accepted

  -- What is entered is accepted, as a record of edition 1, and read back as it was given: these numbers, this mark, the minimal sets.
  pub entered_stored : whole_stored (take k (entered_record mark numbers list buffer).buffer) ≡ found (first (entered_design mark numbers list)) k
  unfolding stored_bytes
  entered_stored =
      ap whole_stored made_entered.front ∙ whole_stored_lem (first (entered_design mark numbers list)) entered_keeps
      ∙ ap (found (first (entered_design mark numbers list))) (sym made_entered.counted)

  pub entered_read : whole_record (take k (entered_record mark numbers list buffer).buffer) ≡ found (entered_design mark numbers list) k
  entered_read = stored_design (take k (entered_record mark numbers list buffer).buffer) (first (entered_design mark numbers list)) k entered_stored

-- with the numbers 1 to n and the mark n it is the first record
pub first_entered : (n : ℕ) (list buffer : List ℕ) → first_record n list buffer ≡ entered_record n (tabulate n (λ i. i + 1)) list buffer
unfolding first_record entered_record
first_entered n list buffer =
    ap₂ (λ (v : Verdict) (d : Design). delivered v (record_bytes d) buffer) (first_refusal_entered n list) (first_design_entered n list)

-- so a first record is accepted, and read as the first design
pub first_read_lem : (n : ℕ) (list buffer : List ℕ) (k : ℕ) → (first_record n list buffer).answer ≡ Ok k → whole_record (take k (first_record n list buffer).buffer) ≡ found (first_design n list) k
first_read_lem n list buffer k e =
    let same = first_entered n list buffer in
    ap (λ (o : Outcome Numbered (List ℕ)). whole_record (take k o.buffer)) same
    ∙ entered_read n (tabulate n (λ i. i + 1)) list buffer k (ap (λ (o : Outcome Numbered (List ℕ)). o.answer) (sym same) ∙ e)
    ∙ ap (λ (d : Design). found d k) (sym (first_design_entered n list))
