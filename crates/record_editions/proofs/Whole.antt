-- What the contents of a whole record tell: an accepted one's are those of its design, its sets' bytes are their byte forms, a walk along
-- them meets the sets in their order, and the edition and the retired numbers are those of the record.
-- Assumes nothing.
use mathlib.Core.Path.{◌≡◌, refl, sym, ap, ap₂, ◌∙◌, subst}
use mathlib.Core.List.{List, []}
use Prim.Native.Nat.{ℕ, ◌+◌, ◌-◌, ◌*◌, ◌≤◌}
use native.Mathlib.Omega.{arith}
use lib.ListN.{length, take, drop, replicate, length-append}
use lib.Seq.{take-append_seam, length-take-le}
use Rattle.std.specs.Prelude.{Ok, Err}
use Rattle.answer.specs.Outcome.{outcome, delivered, valued, Verdict}
use Rattle.answer.specs.declared.Refusal.{Refusal}
use Rattle.codec.specs.ByteForm.{forms_of}
use Rattle.codec.specs.Reads.{Read, found, refused, then}
use Rattle.codec.specs.Bytes.{Bytes}
use Rattle.codec.proofs.Found.{Stands}
use Rattle.numbers.specs.Tables.{tabulate}
use Rattle.numbers.proofs.Counts.{up_to_16_given}
use Rattle.theory_sets.specs.Structures.{listed}
use Rattle.theory_sets.specs.Tables.{packed, table_of, table_length}
use Rattle.structure_words.specs.Words.{in_words}
use Rattle.structure.proofs.Walks.{words_table}
use Rattle.record.specs.declared.Contents.{Contents}
use Rattle.record.specs.declared.WithWords.{WithWords}
use Rattle.record.specs.Records.{sets_at, Design, DesignAt}
use Rattle.record.specs.RecordBytes.{DesignRules}
use Rattle.record.specs.Contents.{nothing, contents_of, structure_words, with_words_of, table_of_words, stretch_of, cursor, step_at, met_in}
use Rattle.record.proofs.Walks.{walk_sets}
use Rattle.record_retired.specs.declared.Retired.{Retired}
use Rattle.record_retired.specs.Retired.{most_retired, retired_of}
use Rattle.record_editions.specs.declared.Edition.{Edition}
use Rattle.record_editions.specs.declared.StoredRead.{StoredRead}
use Rattle.record_editions.specs.Editions.{Stored, design_of, edition_of, StoredAt, stored_at, only_stored, whole_stored, body_at, body_of, only_record, whole_record}
use Rattle.record_editions.specs.Contents.{contents_at, whole_contents, record_refusal, design_or, design_in, whole_with_words, first_cursor, stored_read_of, whole_stored_read, edition_number, edition_or, retired_or, edition_given, retired_given, end_given}
use Rattle.record_editions.proofs.RoundTrip.{stored_found, whole_found, design_found}
use Rattle.record_editions.proofs.Answers.{contents_whole}

-- ---- accepted or refused

-- an accepted record has a design
pub accepted_design : (bytes : List ℕ) → (whole_contents bytes).verdict ≡ Ok tt → (d : Design) × (end : ℕ) × (whole_record bytes ≡ found d end)
unfolding whole_contents whole_record
accepted_design bytes = cases (only_record bytes)
  where
    cases : (only : Read DesignAt) → (contents_of only).verdict ≡ Ok tt → (d : Design) × (end : ℕ) × (then only (λ here next. found here.design next) ≡ found d end)
    cases (refused why) v = let z : ◌≡◌ {A = ℕ} 0 1 = cc in absurd (omega arith)
    cases (found here next) v = (here.design, next, refl)

-- a refused one has nothing
pub refused_nothing : (bytes : List ℕ) (why : Refusal) → (whole_contents bytes).verdict ≡ Err why → whole_contents bytes ≡ nothing why
unfolding whole_contents
refused_nothing bytes why = cases (only_record bytes)
  where
    cases : (only : Read DesignAt) → (contents_of only).verdict ≡ Err why → contents_of only ≡ nothing why
    cases (refused r) v = let same : r ≡ why = cc v in ap nothing same
    cases (found here next) v = let z : ◌≡◌ {A = ℕ} 0 1 = cc in absurd (omega arith)

-- and its refusal is the one that reading it finds
pub refused_contents : (bytes : List ℕ) (why : Refusal) → whole_record bytes ≡ refused why → whole_contents bytes ≡ nothing why
unfolding whole_contents whole_record
refused_contents bytes why = cases (only_record bytes)
  where
    cases : (only : Read DesignAt) → then only (λ here next. found here.design next) ≡ refused why → contents_of only ≡ nothing why
    cases (refused r) e = let same : r ≡ why = cc e in ap nothing same
    cases (found here next) e = let z : ◌≡◌ {A = ℕ} 0 1 = cc in absurd (omega arith)

-- ---- from the design

-- what the contents of an accepted record are
pub record DesignRead (bytes : List ℕ) (d : Design) (next : ℕ) : Type 0 where
  pub rules : DesignRules d
  pub begin : ℕ
  pub end : ℕ
  pub contents : whole_contents bytes ≡ record { list = d.parts; sets = length d.sets; begin = begin; end = end; next = next; verdict = (Ok tt) }
  pub with_words : whole_with_words bytes ≡ record { contents = whole_contents bytes; words = structure_words d.parts.count d.sets }
  pub sets_at_lem : sets_at bytes d.parts.count (length d.sets) [] begin ≡ found d.sets end
  pub stands : Stands bytes begin end (forms_of d.sets)

pub design_read_lem : (bytes : List ℕ) → Bytes bytes → (d : Design) (next : ℕ) → whole_record bytes ≡ found d next → DesignRead bytes d next
unfolding whole_contents whole_with_words only_record
design_read_lem bytes small d next e =
    let f = design_found bytes d next e in
    let w = whole_found bytes f.stored next f.read in
    let here : StoredAt = w.here in
    let mine : Design = design_of here.stored in
    let r = stored_found bytes 0 small here next w.read in
    let same : mine ≡ d = ap design_of w.same ∙ f.same in
    let whole : contents_of (body_of (only_stored bytes)) ≡ contents_of (found (body_at here) next) = ap (λ (k : Read StoredAt). contents_of (body_of k)) w.only in
    subst (λ (x : Design). DesignRead bytes x next) same
    (record {
      rules = r.design_rules;
      begin = here.begin;
      end = here.end;
      contents = whole;
      with_words = ap (λ (k : Read StoredAt). with_words_of (body_of k)) w.only ∙ ap (λ (k : Contents). record { contents = k; words = structure_words mine.parts.count mine.sets }) (sym whole);
      sets_at_lem = r.sets_at_lem;
      stands = r.sets;
    })

-- the sets' stretch lies inside the bytes
pub stretch_inside : (bytes : List ℕ) → Bytes bytes → ((whole_contents bytes).begin ≤ (whole_contents bytes).end) × ((whole_contents bytes).end ≤ length bytes)
stretch_inside bytes small = cases (whole_contents bytes).verdict refl
  where
    cases : (v : Verdict) → (whole_contents bytes).verdict ≡ v → ((whole_contents bytes).begin ≤ (whole_contents bytes).end) × ((whole_contents bytes).end ≤ length bytes)
    cases (Ok _) v =
        let a = accepted_design bytes v in
        let r = design_read_lem bytes small a.0 a.1 a.2 in
        subst (λ (k : Contents). (k.begin ≤ k.end) × (k.end ≤ length bytes)) (sym r.contents) (omega (arith, r.stands.position), r.stands.inside)
    cases (Err why) v =
        subst (λ (k : Contents). (k.begin ≤ k.end) × (k.end ≤ length bytes)) (sym (refused_nothing bytes why v)) (omega arith, omega arith)

-- the stretch of an accepted record is the byte forms of its sets, one after the other
pub stretch_sets : (bytes : List ℕ) → Bytes bytes → (d : Design) (end : ℕ) → whole_record bytes ≡ found d end → stretch_of (whole_contents bytes) bytes ≡ forms_of d.sets
stretch_sets bytes small d end e =
    let r = design_read_lem bytes small d end e in
    let long : r.end - r.begin ≡ length (forms_of d.sets) = omega (arith, r.stands.position) in
    ap (λ (c : Contents). stretch_of c bytes) r.contents ∙ ap₂ (λ (k : ℕ) (l : List ℕ). take k l) long r.stands.stands ∙ take-append_seam (forms_of d.sets) (drop r.end bytes)

-- ---- a walk along the sets

-- a walk from the contents of a record that stands anywhere in the bytes meets its sets, each once and in their order
pub walk_meets_at : (bytes : List ℕ) (start : ℕ) → Bytes bytes → (here : StoredAt) (next : ℕ) → stored_at bytes start ≡ found here next
    → met_in (contents_at bytes start).sets bytes (step_at bytes (cursor (contents_at bytes start).begin (contents_at bytes start).sets)) ≡ (design_of here.stored).sets
unfolding contents_at
walk_meets_at bytes start small here next e =
    let r = stored_found bytes start small here next e in
    let d : Design = design_of here.stored in
    ap (λ (k : Read StoredAt). met_in (contents_of (body_of k)).sets bytes (step_at bytes (cursor (contents_of (body_of k)).begin (contents_of (body_of k)).sets))) e
    ∙ walk_sets bytes d.parts.count (length d.sets) [] here.begin d.sets here.end r.sets_at_lem

-- and so does one from the first cursor of an accepted record
pub walk_meets : (bytes : List ℕ) → Bytes bytes → (d : Design) (end : ℕ) → whole_record bytes ≡ found d end → met_in (length d.sets) bytes (step_at bytes (first_cursor bytes)) ≡ d.sets
walk_meets bytes small d end e =
    let r = design_read_lem bytes small d end e in
    ap (λ (c : Contents). met_in (length d.sets) bytes (step_at bytes (cursor c.begin c.sets))) r.contents
    ∙ walk_sets bytes d.parts.count (length d.sets) [] r.begin d.sets r.end r.sets_at_lem

-- ---- an accepted answer with its words

pub record WordsRead (d : Design) (w : WithWords) : Type 0 where
  pub count : w.contents.list.count ≡ d.parts.count
  pub few : d.parts.count ≤ 16
  pub words : w.words ≡ structure_words d.parts.count d.sets

pub words_read : (bytes : List ℕ) (w : WithWords) → Bytes bytes → w ≡ whole_with_words bytes → w.contents.verdict ≡ Ok tt → WordsRead (design_in bytes) w
unfolding design_in
words_read bytes w small e v =
    let same : w.contents ≡ whole_contents bytes = contents_whole bytes w e in
    let accepts : (whole_contents bytes).verdict ≡ Ok tt = sym (ap (λ (k : Contents). k.verdict) same) ∙ v in
    let a = accepted_design bytes accepts in
    let r = design_read_lem bytes small a.0 a.1 a.2 in
    subst (λ (d : Design). WordsRead d w) (sym (ap design_or a.2))
    (record {
      count = ap (λ (k : Contents). k.list.count) (same ∙ r.contents);
      few = r.rules.parts.rules.few;
      words = ap (λ (k : WithWords). k.words) (e ∙ r.with_words);
    })

-- what the words of a record give is its table
pub words_delivered : (bytes : List ℕ) (w : WithWords) → Bytes bytes → w ≡ whole_with_words bytes → (buffer : List ℕ)
    → delivered w.contents.verdict (table_of_words w.contents.list.count w.words) buffer
    ≡ delivered (record_refusal bytes) (table_of (design_in bytes).parts.count (listed (design_in bytes).sets)) buffer
words_delivered bytes w small e buffer = cases w.contents.verdict refl
  where
    judged : w.contents.verdict ≡ record_refusal bytes
    judged = ap (λ (k : Contents). k.verdict) (contents_whole bytes w e)

    cases : (v : Verdict) → w.contents.verdict ≡ v → delivered w.contents.verdict (table_of_words w.contents.list.count w.words) buffer
        ≡ delivered (record_refusal bytes) (table_of (design_in bytes).parts.count (listed (design_in bytes).sets)) buffer
    cases (Err why) v =
        ap (λ (x : Verdict). delivered x (table_of_words w.contents.list.count w.words) buffer) v
        ∙ sym (ap (λ (x : Verdict). delivered x (table_of (design_in bytes).parts.count (listed (design_in bytes).sets)) buffer) (sym judged ∙ v))
    cases (Ok _) v =
        let r = words_read bytes w small e v in
        let d : Design = design_in bytes in
        let n : ℕ = d.parts.count in
        ap₂ (λ (x : Verdict) (table : List ℕ). delivered x table buffer) judged
        (ap₂ (λ (k : ℕ) (words : List ℕ). table_of_words k words) r.count r.words
        ∙ ap (λ (k : ℕ). tabulate k (λ b. packed 8 (λ i. in_words (structure_words n d.sets) (8 * b + i)))) (up_to_16_given n (table_length n) r.few)
        ∙ words_table n (listed d.sets) r.few)

-- ---- the edition, the retired numbers and the end

-- what is read says the record's edition and its retired numbers
pub record Told (bytes : List ℕ) (w : StoredRead) : Type 0 where
  pub judged : w.body.contents.verdict ≡ record_refusal bytes
  pub edition : w.edition ≡ edition_or (whole_stored bytes)
  pub retired : w.retired ≡ retired_of (retired_or (whole_stored bytes))

pub stored_told : (bytes : List ℕ) (w : StoredRead) → w ≡ whole_stored_read bytes → Told bytes w
unfolding whole_stored_read whole_stored whole_contents only_record
stored_told bytes w e = record {
  judged = ap (λ (x : StoredRead). x.body.contents.verdict) e ∙ verdict (only_stored bytes);
  edition = ap (λ (x : StoredRead). x.edition) e ∙ edition (only_stored bytes);
  retired = ap (λ (x : StoredRead). x.retired) e ∙ retired (only_stored bytes);
}
  where
    verdict : (read : Read StoredAt) → (stored_read_of read).body.contents.verdict ≡ (contents_of (body_of read)).verdict
    verdict (found here next) = refl
    verdict (refused why) = refl

    edition : (read : Read StoredAt) → (stored_read_of read).edition ≡ edition_or (then read (λ here next. found here.stored next))
    edition (found here next) = refl
    edition (refused why) = refl

    retired : (read : Read StoredAt) → (stored_read_of read).retired ≡ retired_of (retired_or (then read (λ here next. found here.stored next)))
    retired (found here next) = refl
    retired (refused why) = refl

module _ (bytes : List ℕ) (w : StoredRead) (told : Told bytes w) where
  pub edition_refused : (why : Refusal) → w.body.contents.verdict ≡ Err why → Err why ≡ edition_given bytes
  unfolding edition_given
  edition_refused why v = ap (λ (x : Verdict). valued x (edition_number (edition_or (whole_stored bytes)))) (sym v ∙ told.judged)

  pub edition_given_lem : w.body.contents.verdict ≡ Ok tt → (edition : Edition) → w.edition ≡ edition → Ok (edition_number edition) ≡ edition_given bytes
  unfolding edition_given
  edition_given_lem v edition e = ap (λ (k : Edition). Ok (edition_number k)) (sym e ∙ told.edition) ∙ ap (λ (x : Verdict). valued x (edition_number (edition_or (whole_stored bytes)))) (sym v ∙ told.judged)

  -- the numbers stand in front of the cells
  pub retired_room : w.retired.count ≤ length w.retired.numbers
  retired_room =
      subst (λ (r : Retired). r.count ≤ length r.numbers) (sym told.retired) (omega (arith, length-append (retired_or (whole_stored bytes)) (replicate (most_retired - length (retired_or (whole_stored bytes))) 0)))

  pub retired_counted : w.retired.count ≡ length (take w.retired.count w.retired.numbers)
  retired_counted = sym (length-take-le w.retired.count w.retired.numbers retired_room)

  module _ (buffer : List ℕ) where
    pub retired_refused : (why : Refusal) → w.body.contents.verdict ≡ Err why → outcome (Err why) buffer ≡ retired_given bytes buffer
    unfolding retired_given
    retired_refused why v = ap (λ (x : Verdict). delivered x (retired_or (whole_stored bytes)) buffer) (sym v ∙ told.judged)

    pub retired_given_lem : w.body.contents.verdict ≡ Ok tt → delivered (Ok tt) (take w.retired.count w.retired.numbers) buffer ≡ retired_given bytes buffer
    unfolding retired_given
    retired_given_lem v =
        let l : List ℕ = retired_or (whole_stored bytes) in
        ap (λ (r : Retired). delivered (Ok tt) (take r.count r.numbers) buffer) told.retired
        ∙ ap (λ (k : List ℕ). delivered (Ok tt) k buffer) (take-append_seam l _)
        ∙ ap (λ (x : Verdict). delivered x l buffer) (sym v ∙ told.judged)

-- the edition that is given of an accepted record is its own
pub edition_read : (bytes : List ℕ) (s : Stored) (next : ℕ) → whole_stored bytes ≡ found s next → edition_given bytes ≡ Ok (edition_number (edition_of s))
unfolding edition_given whole_contents only_record
edition_read bytes s next e =
    let w = whole_found bytes s next e in
    let accepted : (contents_of (body_of (only_stored bytes))).verdict ≡ Ok tt = ap (λ (k : Read StoredAt). (contents_of (body_of k)).verdict) w.only in
    ap (λ (v : Verdict). valued v (edition_number (edition_or (whole_stored bytes)))) accepted ∙ ap (λ (r : Read Stored). Ok (edition_number (edition_or r))) e

-- the position after a record
module _ (bytes : List ℕ) (start : ℕ) (k : Contents) (e : k ≡ contents_at bytes start) where
  pub end_refused : (why : Refusal) → k.verdict ≡ Err why → Err why ≡ end_given bytes start
  unfolding end_given
  end_refused why v = sym (ap (λ (x : Verdict). valued x k.next) v) ∙ ap (λ (x : Contents). valued x.verdict x.next) e

  pub end_given_lem : k.verdict ≡ Ok tt → Ok k.next ≡ end_given bytes start
  unfolding end_given
  end_given_lem v = sym (ap (λ (x : Verdict). valued x k.next) v) ∙ ap (λ (x : Contents). valued x.verdict x.next) e
