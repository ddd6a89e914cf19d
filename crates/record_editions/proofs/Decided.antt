-- The first 40,000 bytes decide, in either edition: a record is read by its first 39,300 bytes at the most, so that an input of at least 40,000
-- bytes never ends inside a number and always has a byte left.
-- Assumes nothing.
use mathlib.Core.Path.{◌≡◌, refl, sym, ap, ◌∙◌}
use mathlib.Core.Bool.{Bool, true, false}
use mathlib.Core.List.{List}
use Prim.Native.Nat.{ℕ, ◌+◌, ◌≤◌}
use native.Mathlib.Omega.{arith}
use borrow.Author.Tests.{lt-ltb}
use lib.ListN.{length, take}
use lib.Seq.{length-take-le, get_or-take}
use Rattle.answer.specs.declared.Refusal.{Refusal}
use Rattle.codec.specs.Reads.{Read, found, refused, then, alone}
use Rattle.codec.specs.Bytes.{Bytes}
use Rattle.codec.proofs.Found.{then_found, then_alike}
use Rattle.record_parts.specs.PartLists.{numbers_of}
use Rattle.record_tail.specs.Tails.{tail_at}
use Rattle.record_tail.proofs.Decided.{tail_next, tail_first}
use Rattle.record.specs.Records.{Design, DesignAt, record_at}
use Rattle.record.proofs.RoundTrip.{record_found}
use Rattle.record.proofs.Decided.{record_next, record_first}
use Rattle.record_editions.specs.Editions.{second, StoredAt, fresh_counts, second_there, first_at, second_at, edition_at, stored_at, only_stored, whole_stored, body_of, only_record, whole_record}
use Rattle.record_editions.specs.Contents.{whole_contents}
use Rattle.record_editions.proofs.Counts.{fresh_length}
use Rattle.record_editions.proofs.RoundTrip.{whole_found, design_found}
use Rattle.record_editions.proofs.Whole.{refused_contents}

-- ---- where a record ends at the latest

module _ (bytes : List ℕ) (small : Bytes bytes) where
  -- a record that was read has at most 17 path counts
  counts_few : (start : ℕ) (here : DesignAt) (next : ℕ) → record_at bytes start ≡ found here next → length (fresh_counts here.design) ≤ 17
  counts_few start here next e = omega (arith, fresh_length here.design, (record_found bytes start here next small e).rules.parts.rules.few)

  edition_next : (there : Bool) (start : ℕ) (here : StoredAt) (next : ℕ) → edition_at there bytes start ≡ found here next → next ≤ start + 39279
  edition_next false start here next e =
      let a = then_found (record_at bytes start) first_at here next e in
      let ends : a.1 ≡ next = cc a.3 in
      omega (arith, record_next bytes small start a.0 a.1 a.2)
  edition_next true start here next e =
      let a = then_found (record_at bytes (start + 2)) (second_at bytes) here next e in
      let d : Design = a.0.design in
      let b = then_found (tail_at bytes d.parts.mark (numbers_of d.parts) (fresh_counts d) a.1) _ here next a.3 in
      let ends : b.1 ≡ next = cc b.3 in
      let body = record_next bytes small (start + 2) a.0 a.1 a.2 in
      let tail = tail_next bytes small d.parts.mark (numbers_of d.parts) (fresh_counts d) a.1 b.0 b.1 b.2 in
      omega (arith, counts_few (start + 2) a.0 a.1 a.2)

  pub stored_next : (start : ℕ) (here : StoredAt) (next : ℕ) → stored_at bytes start ≡ found here next → next ≤ start + 39279
  unfolding stored_at
  stored_next start here next e = edition_next (second_there bytes start) start here next e

-- ---- the first bytes alone

module _ (bytes : List ℕ) (small : Bytes bytes) (most : ℕ) (long : most ≤ length bytes) (start : ℕ) (h : start + 39300 ≤ most) where
  there_first : second_there (take most bytes) start ≡ second_there bytes start
  unfolding second_there
  there_first = rw (get_or-take most bytes start 1 (omega arith), get_or-take most bytes (start + 1) 1 (omega arith)) refl

  edition_first : (there : Bool) → edition_at there (take most bytes) start ≡ edition_at there bytes start
  edition_first false = ap (λ (r : Read DesignAt). then r first_at) (record_first bytes small most long start (omega arith))
  edition_first true =
      then_alike (record_at bytes (start + 2)) (record_at (take most bytes) (start + 2)) (second_at bytes) (second_at (take most bytes))
      (record_first bytes small most long (start + 2) (omega arith)) (λ here next e.
      let d : Design = here.design in
      let near = record_next bytes small (start + 2) here next e in
      ap (λ (r : Read (List ℕ)). then r (λ retired end. found (record { stored = second d retired; begin = here.begin; end = here.end }) end))
      (tail_first bytes small d.parts.mark (numbers_of d.parts) (fresh_counts d) most long next (omega (arith, counts_few bytes small (start + 2) here next e))))

  -- a record is read by its first 39,300 bytes
  pub stored_first : stored_at (take most bytes) start ≡ stored_at bytes start
  unfolding stored_at
  stored_first = ap (λ (b : Bool). edition_at b (take most bytes) start) there_first ∙ edition_first (second_there bytes start)

only_first : (bytes : List ℕ) → Bytes bytes → 40000 ≤ length bytes → only_stored (take 40000 bytes) ≡ only_stored bytes
unfolding only_stored
only_first bytes small long =
    then_alike (stored_at bytes 0) (stored_at (take 40000 bytes) 0) (alone bytes) (alone (take 40000 bytes)) (stored_first bytes small 40000 long 0 (omega arith))
    (λ here next e.
    let near = stored_next bytes small 0 here next e in
    let all : length (take 40000 bytes) ≡ 40000 = length-take-le 40000 bytes long in
    simp (lt-ltb next (length bytes) (omega arith), lt-ltb next (length (take 40000 bytes)) (omega arith)))

-- any input of at least 40,000 bytes is decided by its first 40,000
pub stored_decided : (bytes : List ℕ) → Bytes bytes → 40000 ≤ length bytes → whole_stored (take 40000 bytes) ≡ whole_stored bytes
unfolding whole_stored
stored_decided bytes small long = ap (λ (only : Read StoredAt). then only (λ here next. found here.stored next)) (only_first bytes small long)

pub whole_first : (bytes : List ℕ) → Bytes bytes → 40000 ≤ length bytes → whole_record (take 40000 bytes) ≡ whole_record bytes
unfolding whole_record only_record
whole_first bytes small long = ap (λ (only : Read StoredAt). then (body_of only) (λ here next. found here.design next)) (only_first bytes small long)

-- such an input is always refused: a record that ends sooner leaves a byte
pub long_refused : (bytes : List ℕ) → Bytes bytes → 40000 ≤ length bytes → (why : Refusal) × (whole_record bytes ≡ refused why)
long_refused bytes small long = cases (whole_record bytes) refl
  where
    cases : (whole : Read Design) → whole_record bytes ≡ whole → (why : Refusal) × (whole_record bytes ≡ refused why)
    cases (refused why) e = (why, e)
    cases (found d end) e =
        let f = design_found bytes d end e in
        let w = whole_found bytes f.stored end f.read in
        absurd (omega (arith, w.nothing_left, stored_next bytes small 0 w.here end w.read))

-- and gets the same answer from the first 40,000 bytes
pub contents_first : (bytes : List ℕ) → Bytes bytes → 40000 ≤ length bytes → whole_contents (take 40000 bytes) ≡ whole_contents bytes
contents_first bytes small long =
    let w = long_refused bytes small long in
    refused_contents (take 40000 bytes) w.0 (whole_first bytes small long ∙ w.1) ∙ sym (refused_contents bytes w.0 w.1)
