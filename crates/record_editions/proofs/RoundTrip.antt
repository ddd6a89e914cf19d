-- Read after write and write after read, for records of either edition: an accepted record keeps the rules and has exactly one byte form, which
-- is read as that record wherever it stands.
-- Assumes nothing.
use mathlib.Core.Path.{◌≡◌, refl, sym, ap, ap₂, ◌∙◌, subst}
use mathlib.Core.Bool.{Bool, true, false, ◌&&◌}
use mathlib.Core.List.{List, [], ◌∷◌, ◌++◌, append_assoc, append-nil}
use Prim.Native.Nat.{ℕ, zero, suc, ◌+◌, ◌≤◌, ◌<◌}
use native.Mathlib.Nat.{le_antisymm, zero-add, add-zero, le_refl}
use native.Mathlib.Omega.{arith}
use borrow.Author.Tests.{eqb-true, ne_eqb, le-ltb}
use lib.Dec.{eqb}
use lib.ListN.{length, drop, get_or, length-append}
use lib.Seq.{drop-cons, drop-length, get_or-drop}
use Rattle.numbers.proofs.Bools.{and_left, and_right}
use Rattle.answer.specs.declared.Refusal.{Refusal}
use Rattle.codec.specs.Reads.{Read, found, refused, then, alone}
use Rattle.codec.specs.ByteForm.{bytes_of, forms_of}
use Rattle.codec.specs.Bytes.{Bytes}
use Rattle.codec.proofs.Found.{then_found, found_then, alone_found, Stands, stands_both, behind}
use Rattle.codec.proofs.ByteForms.{bytes_small}
use Rattle.record_parts.specs.PartLists.{numbers_of}
use Rattle.record_head.specs.HeadingBytes.{parts_bytes, head_bytes}
use Rattle.record.specs.Records.{sets_at, Design, DesignAt, record_at}
use Rattle.record.specs.RecordBytes.{record_bytes, DesignRules}
use Rattle.record.proofs.RoundTrip.{RecordRead, record_found, record_read}
use Rattle.record_retired.specs.Retired.{RetiredRules}
use Rattle.record_tail.specs.Tails.{tail_at}
use Rattle.record_tail.specs.TailBytes.{tail_bytes}
use Rattle.record_tail.proofs.RoundTrip.{tail_found, tail_read}
use Rattle.record_editions.specs.Editions.{Stored, first, second, design_of, StoredAt, fresh_counts, second_there, first_at, second_at, edition_at, stored_at, only_stored, whole_stored, body_at, only_record, whole_record}
use Rattle.record_editions.specs.EditionBytes.{stored_bytes, StoredRules}
use Rattle.record_editions.proofs.Counts.{fresh_allowed}

-- ---- the numbers 0 and 2

-- where another byte stands than the one for nothing, the bytes go on
inside : (bytes : List ℕ) (i v : ℕ) → get_or bytes i 1 ≡ v → (v ≡ 1 → ⊥) → i < length bytes
inside [] i v e other = absurd (other (sym e))
inside (x ∷ bytes) zero v e other = omega arith
inside (x ∷ bytes) (suc i) v e other = omega (arith, inside bytes i v e other)

-- where they stand in front of the body
front : (bytes : List ℕ) (start : ℕ) → second_there bytes start ≡ true → Stands bytes start (start + 2) (0 ∷ 2 ∷ [])
unfolding second_there
front bytes start h =
    let zero_there : get_or bytes start 1 ≡ 0 = eqb-true _ _ (and_left (eqb (get_or bytes start 1) 0) (eqb (get_or bytes (start + 1) 1) 2) h) in
    let two_there : get_or bytes (start + 1) 1 ≡ 2 = eqb-true _ _ (and_right (eqb (get_or bytes start 1) 0) (eqb (get_or bytes (start + 1) 1) 2) h) in
    let one = inside bytes start 0 zero_there (λ e. omega (arith, e)) in
    let two = inside bytes (start + 1) 2 two_there (λ e. omega (arith, e)) in
    let next : suc start ≡ start + 1 = omega arith in
    let last : suc (start + 1) ≡ start + 2 = omega arith in
    let later : drop (suc start) bytes ≡ 2 ∷ drop (start + 2) bytes =
    ap (λ (k : ℕ). drop k bytes) next ∙ drop-cons bytes (start + 1) 1 two ∙ ap₂ (λ (x k : ℕ). x ∷ drop k bytes) two_there last in
    record {
      stands = drop-cons bytes start 1 one ∙ ap₂ (λ (x : ℕ) (l : List ℕ). x ∷ l) zero_there later;
      position = refl;
      inside = omega arith;
    }

-- the byte at a place, and the one behind it, from what stands there
byte_here : (bytes : List ℕ) (start x : ℕ) (rest : List ℕ) → drop start bytes ≡ x ∷ rest → get_or bytes start 1 ≡ x
byte_here bytes start x rest e = ap (λ (k : ℕ). get_or bytes k 1) (sym (add-zero start)) ∙ sym (get_or-drop start bytes 0 1) ∙ ap (λ (l : List ℕ). get_or l 0 1) e

byte_next : (bytes : List ℕ) (start x y : ℕ) (rest : List ℕ) → drop start bytes ≡ x ∷ y ∷ rest → get_or bytes (start + 1) 1 ≡ y
byte_next bytes start x y rest e = sym (get_or-drop start bytes 1 1) ∙ ap (λ (l : List ℕ). get_or l 1 1) e

second_there_lem : (bytes : List ℕ) (start : ℕ) (rest : List ℕ) → drop start bytes ≡ 0 ∷ 2 ∷ rest → second_there bytes start ≡ true
unfolding second_there
second_there_lem bytes start rest e = rw (byte_here bytes start 0 (2 ∷ rest) e, byte_next bytes start 0 2 rest e) refl

-- a record of edition 1 begins with its number of parts, which is no 0
first_byte : (d : Design) → DesignRules d → (rest : List ℕ) × (record_bytes d ≡ d.parts.count ∷ rest)
unfolding record_bytes head_bytes parts_bytes
first_byte d r =
    let after : List ℕ = bytes_of d.parts.mark ++ forms_of (numbers_of d.parts) in
    let count : List ℕ = bytes_of (length d.sets) in (
      (after ++ count) ++ forms_of d.sets,
      ap (λ (l : List ℕ). ((l ++ after) ++ count) ++ forms_of d.sets) (bytes_small d.parts.count (omega (arith, r.parts.rules.few))),
    )

pub first_there : (bytes : List ℕ) (start : ℕ) (d : Design) (rest : List ℕ) → DesignRules d → drop start bytes ≡ record_bytes d ++ rest → second_there bytes start ≡ false
unfolding second_there
first_there bytes start d rest r e =
    let f = first_byte d r in
    let here : get_or bytes start 1 ≡ d.parts.count = byte_here bytes start d.parts.count (f.0 ++ rest) (e ∙ ap (λ (l : List ℕ). l ++ rest) f.1) in
    ap (λ (b : Bool). b && eqb (get_or bytes (start + 1) 1) 2) (ne_eqb (get_or bytes start 1) 0 (λ z. omega (arith, here, z, r.parts.rules.some)))

-- ---- at a position

-- what is found as a record keeps the rules, its byte form stands there, and its sets stand where it says
pub record StoredFound (bytes : List ℕ) (start : ℕ) (here : StoredAt) (next : ℕ) : Type 0 where
  pub rules : StoredRules here.stored
  pub design_rules : DesignRules (design_of here.stored)
  pub sets_at_lem : sets_at bytes (design_of here.stored).parts.count (length (design_of here.stored).sets) [] here.begin ≡ found (design_of here.stored).sets here.end
  pub sets : Stands bytes here.begin here.end (forms_of (design_of here.stored).sets)
  pub stands : Stands bytes start next (stored_bytes here.stored)

module _ (bytes : List ℕ) (start : ℕ) (small : Bytes bytes) where
  first_found : (here : StoredAt) (next : ℕ) → then (record_at bytes start) first_at ≡ found here next → StoredFound bytes start here next
  unfolding stored_bytes
  first_found here next e =
      let a = then_found (record_at bytes start) first_at here next e in
      let r = record_found bytes start a.0 a.1 small a.2 in
      let same : record { stored = first a.0.design; begin = a.0.begin; end = a.0.end } ≡ here = cc a.3 in
      let ends : a.1 ≡ next = cc a.3 in
      subst (λ (h : StoredAt). StoredFound bytes start h next) same
      (record {
        rules = r.rules;
        design_rules = r.rules;
        sets_at_lem = r.sets_at_lem;
        sets = r.sets;
        stands = subst (λ (k : ℕ). Stands bytes start k (record_bytes a.0.design)) ends r.stands;
      })

  -- what stands behind the body in edition 2
  second_found : second_there bytes start ≡ true → (body : DesignAt) (middle : ℕ) → RecordRead bytes (start + 2) body middle → (here : StoredAt) (next : ℕ)
      → second_at bytes body middle ≡ found here next → StoredFound bytes start here next
  unfolding stored_bytes
  second_found there body middle r here next e =
      let d : Design = body.design in
      let b = then_found (tail_at bytes d.parts.mark (numbers_of d.parts) (fresh_counts d) middle) _ here next e in
      let t = tail_found bytes d.parts.mark (numbers_of d.parts) (fresh_counts d) middle b.0 b.1 small b.2 in
      let same : record { stored = second d b.0; begin = body.begin; end = body.end } ≡ here = cc b.3 in
      let ends : b.1 ≡ next = cc b.3 in
      let whole : Stands bytes start b.1 (0 ∷ 2 ∷ (record_bytes d ++ tail_bytes b.0 (fresh_counts d))) = stands_both (front bytes start there) (stands_both r.stands t.stands) in
      subst (λ (h : StoredAt). StoredFound bytes start h next) same
      (record {
        rules = (r.rules, t.rules);
        design_rules = r.rules;
        sets_at_lem = r.sets_at_lem;
        sets = r.sets;
        stands = subst (λ (k : ℕ). Stands bytes start k (0 ∷ 2 ∷ (record_bytes d ++ tail_bytes b.0 (fresh_counts d)))) ends whole;
      })

  edition_found : (there : Bool) → second_there bytes start ≡ there → (here : StoredAt) (next : ℕ) → edition_at there bytes start ≡ found here next → StoredFound bytes start here next
  edition_found false h here next e = first_found here next e
  edition_found true h here next e =
      let a = then_found (record_at bytes (start + 2)) (second_at bytes) here next e in
      second_found h a.0 a.1 (record_found bytes (start + 2) a.0 a.1 small a.2) here next a.3

  pub stored_found : (here : StoredAt) (next : ℕ) → stored_at bytes start ≡ found here next → StoredFound bytes start here next
  unfolding stored_at
  stored_found here next e = edition_found (second_there bytes start) refl here next e

-- ---- where its byte form stands

-- a record where it stands, with the body from a position on
abbrev pub standing : Stored → ℕ → StoredAt
standing s from = record {
  stored = s;
  begin = from + length (head_bytes (design_of s).parts (length (design_of s).sets));
  end = from + length (record_bytes (design_of s));
}

-- where the body begins: behind the numbers 0 and 2 in edition 2
abbrev pub body_from : Stored → ℕ → ℕ
body_from (first d) start = start
body_from (second d retired) start = start + 2

module _ (bytes : List ℕ) (start : ℕ) (rest : List ℕ) where
  first_read_lem : (d : Design) → DesignRules d → drop start bytes ≡ record_bytes d ++ rest → stored_at bytes start ≡ found (standing (first d) start) (start + length (record_bytes d))
  unfolding stored_at
  first_read_lem d r e =
      ap (λ (b : Bool). edition_at b bytes start) (first_there bytes start d rest r e)
      ∙ found_then first_at (record_read bytes start d rest r e) refl

  second_read_lem : (d : Design) (retired : List ℕ) → DesignRules d → RetiredRules d.parts.mark (numbers_of d.parts) retired
      → drop start bytes ≡ 0 ∷ 2 ∷ ((record_bytes d ++ tail_bytes retired (fresh_counts d)) ++ rest)
      → stored_at bytes start ≡ found (standing (second d retired) (start + 2)) (start + 2 + length (record_bytes d) + length (tail_bytes retired (fresh_counts d)))
  unfolding stored_at
  second_read_lem d retired r q e =
      let tail : List ℕ = tail_bytes retired (fresh_counts d) in
      let body : drop (start + 2) bytes ≡ record_bytes d ++ (tail ++ rest) =
      behind bytes start (0 ∷ 2 ∷ []) ((record_bytes d ++ tail) ++ rest) e ∙ append_assoc (record_bytes d) tail rest in
      let last : drop (start + 2 + length (record_bytes d)) bytes ≡ tail ++ rest = behind bytes (start + 2) (record_bytes d) (tail ++ rest) body in
      ap (λ (b : Bool). edition_at b bytes start) (second_there_lem bytes start ((record_bytes d ++ tail) ++ rest) e)
      ∙ found_then (second_at bytes) (record_read bytes (start + 2) d (tail ++ rest) r body)
      (found_then _ (tail_read bytes d.parts.mark (numbers_of d.parts) (fresh_counts d) (start + 2 + length (record_bytes d)) retired rest r.parts.rules.top q (fresh_allowed d r.parts.rules.few) last) refl)

  -- a record that keeps the rules is read where its byte form stands
  pub stored_read : (s : Stored) → StoredRules s → drop start bytes ≡ stored_bytes s ++ rest → stored_at bytes start ≡ found (standing s (body_from s start)) (start + length (stored_bytes s))
  unfolding stored_bytes
  stored_read (first d) r e = first_read_lem d r e
  stored_read (second d retired) r e =
      second_read_lem d retired r.0 r.1 e
      ∙ ap (found (standing (second d retired) (start + 2))) (omega (arith, length-append (record_bytes d) (tail_bytes retired (fresh_counts d))))

-- ---- the whole record

-- the record that the bytes are is one that is read from the first byte on, with nothing left
pub only_found : (bytes : List ℕ) (here : StoredAt) (next : ℕ) → only_stored bytes ≡ found here next → (stored_at bytes 0 ≡ found here next) × (length bytes ≤ next)
unfolding only_stored
only_found bytes here next e =
    let a = then_found (stored_at bytes 0) (alone bytes) here next e in
    let last = alone_found bytes a.0 a.1 here next a.3 in
    (a.2 ∙ ap₂ (λ (x : StoredAt) (k : ℕ). found x k) last.0 last.1, last.2)

-- what is known of it
pub record WholeFound (bytes : List ℕ) (s : Stored) (next : ℕ) : Type 0 where
  pub here : StoredAt
  pub same : here.stored ≡ s
  pub only : only_stored bytes ≡ found here next
  pub read : stored_at bytes 0 ≡ found here next
  pub nothing_left : length bytes ≤ next

pub whole_found : (bytes : List ℕ) (s : Stored) (next : ℕ) → whole_stored bytes ≡ found s next → WholeFound bytes s next
unfolding whole_stored
whole_found bytes s next e =
    let a = then_found (only_stored bytes) (λ here after. found here.stored after) s next e in
    let ends : a.1 ≡ next = cc a.3 in
    let only : only_stored bytes ≡ found a.0 next = a.2 ∙ ap (found a.0) ends in
    let read = only_found bytes a.0 next only in
    record { here = a.0; same = cc a.3; only = only; read = read.0; nothing_left = read.1 }

-- write after read: bytes that are accepted are the byte form of what was read
pub stored_written : (bytes : List ℕ) (s : Stored) (next : ℕ) → Bytes bytes → whole_stored bytes ≡ found s next → StoredRules s × (stored_bytes s ≡ bytes) × (next ≡ length bytes)
stored_written bytes s next small e =
    let w = whole_found bytes s next e in
    let r = stored_found bytes 0 small w.here next w.read in
    let ends : next ≡ length bytes = le_antisymm r.stands.inside w.nothing_left in
    let rest : drop next bytes ≡ [] = ap (λ (k : ℕ). drop k bytes) ends ∙ drop-length bytes in
    subst (λ (x : Stored). StoredRules x × (stored_bytes x ≡ bytes) × (next ≡ length bytes)) w.same
    (r.rules, sym (r.stands.stands ∙ ap (λ (l : List ℕ). stored_bytes w.here.stored ++ l) rest ∙ append-nil (stored_bytes w.here.stored)), ends)

-- read after write: the byte form of a record that keeps the rules is accepted as that record
pub whole_stored_lem : (s : Stored) → StoredRules s → whole_stored (stored_bytes s) ≡ found s (length (stored_bytes s))
unfolding whole_stored only_stored
whole_stored_lem s r =
    let bytes : List ℕ = stored_bytes s in
    let read : stored_at bytes 0 ≡ found (standing s (body_from s 0)) (length bytes) =
    stored_read bytes 0 [] s r (sym (append-nil bytes)) ∙ ap (found (standing s (body_from s 0))) (zero-add (length bytes)) in
    ap (λ (f : Read StoredAt). then (then f (alone bytes)) (λ at next. found at.stored next)) read ∙ simp (le-ltb (length bytes) (length bytes) (le_refl (length bytes)))

-- so two inputs that are read as the same record are the same bytes
pub one_byte_form : (a b : List ℕ) (s : Stored) (i j : ℕ) → Bytes a → Bytes b → whole_stored a ≡ found s i → whole_stored b ≡ found s j → a ≡ b
one_byte_form a b s i j small-a small_b read_a read-b = sym (stored_written a s i small-a read_a).1 ∙ (stored_written b s j small_b read-b).1

-- ---- the design of a record

-- a record that is read has its design
pub stored_design : (bytes : List ℕ) (s : Stored) (next : ℕ) → whole_stored bytes ≡ found s next → whole_record bytes ≡ found (design_of s) next
unfolding whole_record only_record
stored_design bytes s next e =
    let w = whole_found bytes s next e in
    ap (λ (f : Read StoredAt). then (then f (λ here after. found (body_at here) after)) (λ here after. found here.design after)) w.only
    ∙ ap (λ (x : Stored). found (design_of x) next) w.same

-- what is read of a design is what is read of the record
pub whole_design : (bytes : List ℕ) → whole_record bytes ≡ then (whole_stored bytes) (λ s next. found (design_of s) next)
unfolding whole_record only_record whole_stored
whole_design bytes = cases (only_stored bytes)
  where
    cases : (read : Read StoredAt) → then (then read (λ here next. found (body_at here) next)) (λ here next. found here.design next)
        ≡ then (then read (λ here next. found here.stored next)) (λ s next. found (design_of s) next)
    cases (refused r) = refl
    cases (found here next) = refl

-- a refusal is that of the record
pub refused_design : (bytes : List ℕ) (why : Refusal) → whole_stored bytes ≡ refused why → whole_record bytes ≡ refused why
unfolding whole_record only_record whole_stored
refused_design bytes why = cases (only_stored bytes)
  where
    cases : (read : Read StoredAt) → then read (λ here next. found here.stored next) ≡ refused why
        → then (then read (λ here next. found (body_at here) next)) (λ here next. found here.design next) ≡ refused why
    cases (refused r) e = let same : r ≡ why = cc e in ap refused same
    cases (found here next) e = let z : ◌≡◌ {A = ℕ} 0 1 = cc in absurd (omega arith)

-- and a design that is read is that of a record
pub record DesignFound (bytes : List ℕ) (d : Design) (next : ℕ) : Type 0 where
  pub stored : Stored
  pub read : whole_stored bytes ≡ found stored next
  pub same : design_of stored ≡ d

pub design_found : (bytes : List ℕ) (d : Design) (next : ℕ) → whole_record bytes ≡ found d next → DesignFound bytes d next
unfolding whole_record only_record whole_stored
design_found bytes d next e =
    let a = then_found (only_record bytes) (λ here after. found here.design after) d next e in
    let b = then_found (only_stored bytes) (λ here after. found (body_at here) after) a.0 a.1 a.2 in
    let ends : b.1 ≡ next = cc (b.3, a.3) in
    let body : body_at b.0 ≡ a.0 = cc b.3 in
    let mine : a.0.design ≡ d = cc a.3 in
    record {
      stored = b.0.stored;
      read = ap (λ (f : Read StoredAt). then f (λ here after. found here.stored after)) b.2 ∙ ap (found b.0.stored) ends;
      same = ap (λ (x : DesignAt). x.design) body ∙ mine;
    }

pub rules_design : (s : Stored) → StoredRules s → DesignRules (design_of s)
rules_design (first d) r = r
rules_design (second d retired) r = r.0

-- it keeps the rules, and no byte is left behind the record
pub design_rules : (bytes : List ℕ) (d : Design) (next : ℕ) → Bytes bytes → whole_record bytes ≡ found d next → DesignRules d × (next ≡ length bytes)
design_rules bytes d next small e =
    let f = design_found bytes d next e in
    let w = stored_written bytes f.stored next small f.read in
    (subst DesignRules f.same (rules_design f.stored w.0), w.2)

-- the byte form of a design in edition 1 is accepted as that design
pub whole_read : (d : Design) → DesignRules d → whole_record (record_bytes d) ≡ found d (length (record_bytes d))
unfolding stored_bytes
whole_read d r = stored_design (record_bytes d) (first d) (length (record_bytes d)) (whole_stored_lem (first d) r)
