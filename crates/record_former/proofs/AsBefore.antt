-- "Records accepted until now read as before" (02, §7): bytes that were accepted while part numbers reached 2^32-1 give the same part list, the
-- same sets, stretch and table, as a record of edition 1, and are what is written of them; what a change wrote then it writes now. They are
-- exactly the bytes that are accepted now in edition 1 with a mark of 2^32-1 at most.
-- Assumes nothing.
use mathlib.Core.Path.{◌≡◌, refl, sym, ap, ap₂, ◌∙◌, subst}
use mathlib.Core.Bool.{Bool, false}
use mathlib.Core.List.{List, []}
use mathlib.Core.Logic.{◌↔◌}
use Prim.Native.Nat.{ℕ, ◌-◌, ◌^◌, ◌≤◌, ◌<◌}
use native.Mathlib.Omega.{arith}
use borrow.Author.Tests.{eqb-false}
use lib.Dec.{eqb}
use Rattle.std.specs.Prelude.{Ok}
use Rattle.numbers.proofs.Bools.{false_of}
use Rattle.answer.specs.declared.Reason.TheVariants.{FullMachine, NumbersSpent}
use Rattle.answer.specs.Outcome.{outcome, delivered, Numbered, Verdict}
use Rattle.answer.proofs.Outcomes.{refuse_accepted}
use Rattle.answer.proofs.Deliveries.{given}
use Rattle.codec.specs.declared.Field.TheVariants.{Count}
use Rattle.codec.specs.Fields.{top}
use Rattle.codec.specs.Bytes.{Bytes}
use Rattle.codec.specs.Reads.{Read, found, refused, then, alone}
use Rattle.codec.specs.FieldReads.{field_at}
use Rattle.codec.proofs.Found.{then_found, then_other, alone_found}
use Rattle.theory_sets.specs.Structures.{listed}
use Rattle.theory_sets.specs.Tables.{table_of}
use Rattle.record_numbers.specs.Numbering.{most_parts, top_number}
use Rattle.record_parts.specs.declared.Changed.{Changed}
use Rattle.record_parts.specs.PartLists.{numbers_of}
use Rattle.record_parts.proofs.OneChange.{added_given}
use Rattle.record_head.specs.Headings.{set_count_refusal, parts_at, Head, head_at}
use Rattle.record.specs.declared.Contents.{Contents}
use Rattle.record.specs.Records.{sets_at, Design, design, DesignAt, design_at, record_at}
use Rattle.record.specs.RecordBytes.{record_bytes, DesignRules}
use Rattle.record.specs.Contents.{contents_of, with_words_of, stretch_of}
use Rattle.record_tail.specs.Tails.{tail_at}
use Rattle.record_editions.specs.Editions.{Stored, first, second, StoredAt, fresh_counts, second_there, second_at, edition_at, stored_at, only_stored, whole_stored, body_of, only_record, whole_record, former_only}
use Rattle.record_editions.specs.EditionBytes.{stored_bytes}
use Rattle.record_editions.specs.Contents.{whole_contents, design_or, design_in, whole_with_words}
use Rattle.record_editions.proofs.RoundTrip.{stored_written}
use Rattle.record_editions.proofs.AsBefore.{other_as_before, accepted_as_before, read_as_before as stored-as-before}
use Rattle.record_lines.specs.Changes.{change_refusal, changed}
use Rattle.record_lines.specs.Records.{stored_refusal, changed_stored, changed_read, changed_record}
use Rattle.record_lines.proofs.Refusals.{add_part_exactly, unconverted_refusal}
use Rattle.record_former.specs.Former.{FormerChange, add_part, take_out, add_set, as_now, former_field, former_parts_at, former_head_at, former_record_at, former_record, former_change_refusal, former_changed, former_changed_read, former_changed_record, in_first, ReadAsBefore}
use Rattle.record_former.proofs.Fields.{parts_now, parts_marked, parts_then}

module _ (bytes : List ℕ) (small : Bytes bytes) where
  -- ---- until then, and now

  head_now : (start : ℕ) (head : Head) (begin : ℕ) → former_head_at bytes start ≡ found head begin → head_at bytes start ≡ found head begin
  unfolding former_head_at head_at
  head_now start head begin =
      then_other (former_parts_at bytes start) (parts_at bytes start) _ head begin (λ parts next e later. parts_now bytes small start parts next e)

  -- a record that was read at a position of any bytes is read there as it was
  pub record_now : (start : ℕ) (here : DesignAt) (next : ℕ) → former_record_at bytes start ≡ found here next → record_at bytes start ≡ found here next
  unfolding former_record_at record_at
  record_now start here next =
      then_other (former_head_at bytes start) (head_at bytes start) _ here next (λ head begin e later. head_now start head begin e)

  only_now : (here : DesignAt) (next : ℕ) → former_record bytes ≡ found here next → former_only bytes ≡ found here next
  unfolding former_record former_only
  only_now here next =
      then_other (former_record_at bytes 0) (record_at bytes 0) (alone bytes) here next (λ at end e later. record_now 0 at end e)

  -- ---- which bytes were accepted

  -- with a mark of 2^32-1 at most
  head_marked : (start : ℕ) (head : Head) (begin : ℕ) → former_head_at bytes start ≡ found head begin → head.parts.mark ≤ top former_field
  unfolding former_head_at
  head_marked start head begin e =
      let a = then_found (former_parts_at bytes start) _ head begin e in
      let b = then_found (field_at bytes a.1 Count (set_count_refusal a.1)) _ head begin a.3 in
      let same : record { parts = a.0; count = b.0 } ≡ head = cc b.3 in
      subst (λ (h : Head). h.parts.mark ≤ top former_field) same (parts_marked bytes small start a.0 a.1 a.2)

  record_marked : (start : ℕ) (here : DesignAt) (next : ℕ) → former_record_at bytes start ≡ found here next → here.design.parts.mark ≤ top former_field
  unfolding former_record_at
  record_marked start here next e =
      let a = then_found (former_head_at bytes start) _ here next e in
      let b = then_found (sets_at bytes a.0.parts.count a.0.count [] a.1) _ here next a.3 in
      let same : design_at a.0.parts b.0 a.1 b.1 ≡ here = cc b.3 in
      subst (λ (w : DesignAt). w.design.parts.mark ≤ top former_field) same (head_marked start a.0 a.1 a.2)

  only_marked : (here : DesignAt) (next : ℕ) → former_record bytes ≡ found here next → here.design.parts.mark ≤ top former_field
  unfolding former_record
  only_marked here next e =
      let a = then_found (former_record_at bytes 0) (alone bytes) here next e in
      let last = alone_found bytes a.0 a.1 here next a.3 in
      subst (λ (w : DesignAt). w.design.parts.mark ≤ top former_field) last.0 (record_marked 0 a.0 a.1 a.2)

  -- and what is accepted now with such a mark was accepted
  head_then : (start : ℕ) (head : Head) (begin : ℕ) → head.parts.mark ≤ top former_field → head_at bytes start ≡ found head begin → former_head_at bytes start ≡ found head begin
  unfolding former_head_at head_at
  head_then start head begin low =
      then_other (parts_at bytes start) (former_parts_at bytes start) _ head begin (λ parts next e later.
      let b = then_found (field_at bytes next Count (set_count_refusal next)) _ head begin later in
      let same : record { parts = parts; count = b.0 } ≡ head = cc b.3 in
      parts_then bytes small start parts next (subst (λ (h : Head). h.parts.mark ≤ top former_field) (sym same) low) e)

  record_then : (start : ℕ) (here : DesignAt) (next : ℕ) → here.design.parts.mark ≤ top former_field → record_at bytes start ≡ found here next → former_record_at bytes start ≡ found here next
  unfolding former_record_at record_at
  record_then start here next low =
      then_other (head_at bytes start) (former_head_at bytes start) _ here next (λ head begin e later.
      let b = then_found (sets_at bytes head.parts.count head.count [] begin) _ here next later in
      let same : design_at head.parts b.0 begin b.1 ≡ here = cc b.3 in
      head_then start head begin (subst (λ (w : DesignAt). w.design.parts.mark ≤ top former_field) (sym same) low) e)

  only_then : (here : DesignAt) (next : ℕ) → here.design.parts.mark ≤ top former_field → former_only bytes ≡ found here next → former_record bytes ≡ found here next
  unfolding former_record former_only
  only_then here next low =
      then_other (record_at bytes 0) (former_record_at bytes 0) (alone bytes) here next (λ at end e later.
      record_then 0 at end (subst (λ (w : DesignAt). w.design.parts.mark ≤ top former_field) (sym (alone_found bytes at end here next later).0) low) e)

  -- of a record of edition 1 the numbers 0 and 2 do not stand in front
  no_second : (here : DesignAt) (next : ℕ) → only_stored bytes ≡ found (in_first here) next → second_there bytes 0 ≡ false
  unfolding only_stored stored_at
  no_second here next e = false_of (second_there bytes 0) (λ there.
      let a = then_found (edition_at (second_there bytes 0) bytes 0) (alone bytes) (in_first here) next e in
      let last = alone_found bytes a.0 a.1 (in_first here) next a.3 in
      let b = then_found (record_at bytes 2) (second_at bytes) a.0 a.1 (ap (λ (q : Bool). edition_at q bytes 0) (sym there) ∙ a.2) in
      let c = then_found (tail_at bytes b.0.design.parts.mark (numbers_of b.0.design.parts) (fresh_counts b.0.design) b.1) _ a.0 a.1 b.3 in
      let two : record { stored = second b.0.design c.0; begin = b.0.begin; end = b.0.end } ≡ a.0 = cc c.3 in
      let z : ◌≡◌ {A = ℕ} 0 1 = cc (ap (λ (x : StoredAt). x.stored) (two ∙ last.0)) in
      omega arith)

  first_then : (here : DesignAt) (next : ℕ) → only_stored bytes ≡ found (in_first here) next → former_only bytes ≡ found here next
  unfolding only_record
  first_then here next e = sym (other_as_before bytes (no_second here next e)) ∙ ap body_of e

  -- bytes were accepted exactly if they are accepted now in edition 1 with a mark of 2^32-1 at most
  pub accepted_before : (here : DesignAt) (next : ℕ) → (former_record bytes ≡ found here next) ↔ ((only_stored bytes ≡ found (in_first here) next) × (here.design.parts.mark ≤ 2 ^ 32 - 1))
  accepted_before here next = (
    λ e. (accepted_as_before bytes small here next (only_now here next e), only_marked here next e),
    λ both. only_then here next both.1 (first_then here next both.0),
  )

  -- ---- what they give

  pub read_as_before : (here : DesignAt) (next : ℕ) → former_record bytes ≡ found here next → ReadAsBefore bytes here next
  unfolding whole_record only_record whole_contents whole_with_words design_in stored_bytes
  read_as_before here next e =
      let before = only_now here next e in
      let edition : whole_stored bytes ≡ found (first here.design) next = stored-as-before bytes small here next before in
      let only : only_record bytes ≡ found here next = ap body_of (accepted_as_before bytes small here next before) in
      let design : whole_record bytes ≡ found here.design next = ap (λ (r : Read DesignAt). then r (λ at end. found at.design end)) only in
      let contents : whole_contents bytes ≡ contents_of (found here next) = ap contents_of only in
      record {
        edition = edition;
        design = design;
        contents = contents;
        stretch = ap (λ (c : Contents). stretch_of c bytes) contents;
        words = ap with_words_of only;
        table = λ buffer. ap₂ (λ (v : Verdict) (d : Design). delivered v (table_of d.parts.count (listed d.sets)) buffer) (ap (λ (c : Contents). c.verdict) contents) (ap design_or design);
        written = (stored_written bytes (first here.design) next small edition).1;
      }

  -- ---- what a change writes

  -- nothing that did not refuse a change then refuses it now, and it gives the same design
  change_now : (change : FormerChange) (d : Design) → DesignRules d → d.parts.mark ≤ top former_field → former_change_refusal change d ≡ Ok tt
      → (change_refusal (as_now change) d ≡ Ok tt) × (changed (as_now change) d ≡ former_changed change d)
  change_now (take_out position) d rules low accepted = (accepted, refl)
  change_now (add_set set) d rules low accepted = (accepted, refl)
  change_now add_part d rules low accepted =
      let s = refuse_accepted (eqb d.parts.count most_parts) FullMachine 0 _ accepted in
      let t = refuse_accepted (eqb d.parts.mark (top former_field)) NumbersSpent 0 (Ok tt) s.1 in
      let few : d.parts.count < most_parts = omega (arith, eqb-false d.parts.count most_parts s.0, rules.parts.rules.few) in
      let under : d.parts.mark < top_number = omega (arith, eqb-false d.parts.mark (top former_field) t.0) in (
        (add_part_exactly d rules).1 (few, under),
        ap (λ (c : Changed). design c.list d.sets) (added_given d.parts rules.parts few under),
      )

  -- of a record of edition 1 each of these changes writes edition 1, and 32 is not asked
  change_first : (change : FormerChange) (d : Design)
      → (stored_refusal (as_now change) (first d) ≡ change_refusal (as_now change) d) × (stored_bytes (changed_stored (as_now change) (first d)) ≡ record_bytes (changed (as_now change) d))
  unfolding changed_stored stored_bytes
  change_first add_part d = (unconverted_refusal (as_now add_part) (first d) refl, refl)
  change_first (take_out position) d = (unconverted_refusal (as_now (take_out position)) (first d) refl, refl)
  change_first (add_set set) d = (unconverted_refusal (as_now (add_set set)) (first d) refl, refl)

  -- what a change wrote then, it writes now, and answers and leaves the buffer as it did
  pub change_as_before : (change : FormerChange) (buffer : List ℕ) (n : ℕ) → (former_changed_record change bytes buffer).answer ≡ Ok n
      → changed_record (as_now change) bytes buffer ≡ former_changed_record change bytes buffer
  unfolding former_changed_record changed_record
  change_as_before change buffer n = cases (former_record bytes) refl
    where
      cases : (read : Read DesignAt) → former_record bytes ≡ read → (former_changed_read change read buffer).answer ≡ Ok n
          → changed_read (as_now change) (whole_stored bytes) buffer ≡ former_changed_read change read buffer
      cases (refused r) here e = let z : ◌≡◌ {A = ℕ} 0 1 = cc in absurd (omega arith)
      cases (found at next) here e =
          let d : Design = at.design in
          let before = read_as_before at next here in
          let left = (former_changed_read change (found at next) buffer).buffer in
          let g = given (former_change_refusal change d) (record_bytes (former_changed change d)) buffer left n (ap (λ (w : Numbered). outcome w left) (sym e)) in
          let same = change_now change d (stored_written bytes (first d) next small before.edition).0 (only_marked at next here) g.accepted in
          let one = change_first change d in
          ap (λ (r : Read Stored). changed_read (as_now change) r buffer) before.edition
          ∙ ap₂ (λ (v : Verdict) (l : List ℕ). delivered v l buffer) (one.0 ∙ same.0 ∙ sym g.accepted) (one.1 ∙ ap record_bytes same.1)
