-- What a reader finds: the number whose byte form stands at its place. In an accepted record of either edition that is each set at its first byte,
-- with the first byte of the next. None stands behind the last set of a record of edition 1, or of the stretch of the sets alone; in edition 2 the
-- retired numbers and the path counts stand there, which are numbers like the sets.
-- Assumes nothing.
use mathlib.Core.Path.{◌≡◌, refl, sym, ap, ap₂, ◌∙◌, subst}
use mathlib.Core.List.{List, [], ◌∷◌, ◌++◌, append_assoc, append-nil, Memᴰ}
use Prim.Native.Nat.{ℕ, zero, suc, ◌+◌, ◌^◌, ◌≤◌, ◌<◌}
use native.Mathlib.Nat.{add-zero}
use native.Mathlib.Omega.{arith}
use borrow.Author.Tests.{le-ltb}
use lib.ListN.{length, take, drop, get_or, length-append}
use lib.Pow.{pow_mono}
use lib.Seq.{drop-length}
use Rattle.codec.specs.declared.Field.TheVariants as field
use Rattle.codec.specs.Fields.{top}
use Rattle.codec.specs.ByteForm.{bytes_of, forms_of}
use Rattle.codec.specs.Reading.{number_at}
use Rattle.codec.proofs.Walk.{walked_none, walked_short}
use Rattle.codec.proofs.ReadAfterWrite.{form_read}
use Rattle.codec.specs.Bytes.{Bytes}
use Rattle.codec.proofs.WriteAfterRead.{read_form}
use Rattle.record.specs.declared.Contents.{Contents}
use Rattle.codec.specs.Reads.{Read, found, refused}
use Rattle.record.specs.Records.{Design}
use Rattle.record.specs.RecordBytes.{record_bytes}
use Rattle.record.specs.declared.Step.{Step}
use Rattle.codec.specs.declared.Standing.{Standing}
use Rattle.std.specs.Prelude.{Option, Some, None}
use Rattle.record.specs.Contents.{contents_of, stretch_of, cursor, step_on, step_at}
use Rattle.record_editions.specs.Editions.{first, StoredAt, whole_stored, body_of, only_record, whole_record}
use Rattle.record_editions.specs.EditionBytes.{stored_bytes}
use Rattle.record_editions.specs.Contents.{whole_contents}
use Rattle.codec.proofs.Found.{Stands, behind}
use Rattle.record_editions.proofs.RoundTrip.{standing, stored_read, whole_found, stored_written, stored_design}
use Rattle.record_editions.proofs.Whole.{design_read_lem, stretch_sets}
use Rattle.record_reader.specs.Places.{here, found_of, set_at, met_from}

-- ---- at any place of any bytes

-- what is found is a number in its byte form, with the place right behind it
pub set_stands : (bytes : List ℕ) (offset set next : ℕ) → Bytes bytes → set_at bytes offset ≡ here set next → Stands bytes offset next (bytes_of set)
unfolding set_at
set_stands bytes offset set next small = cases (number_at bytes offset field.Set) refl
  where
    cases : (r : Read ℕ) → number_at bytes offset field.Set ≡ r → found_of r ≡ here set next → Stands bytes offset next (bytes_of set)
    cases (refused why) read e = let z : ◌≡◌ {A = ℕ} 0 1 = cc in absurd (omega arith)
    cases (found value after) read e =
        let both : record { value = value; next = after } ≡ record { value = set; next = next } = cc e in
        let same : value ≡ set = ap (λ (x : Standing ℕ). x.value) both in
        let ends : after ≡ next = ap (λ (x : Standing ℕ). x.next) both in
        let r = read_form bytes offset field.Set set next small (read ∙ ap₂ (λ (v k : ℕ). found v k) same ends) in
        record { stands = r.form; position = r.position; inside = r.inside }

-- a number that a record allows is found where its byte form stands
pub stands_set : (bytes : List ℕ) (offset set : ℕ) (rest : List ℕ) → set ≤ top field.Set → drop offset bytes ≡ bytes_of set ++ rest → set_at bytes offset ≡ here set (offset + length (bytes_of set))
unfolding set_at
stands_set bytes offset set rest allowed e =
    let read : number_at bytes offset field.Set ≡ found set (offset + length (bytes_of set)) =
    form_read bytes offset field.Set set rest e ∙ simp (le-ltb (top field.Set) set allowed) in
    ap found_of read

-- nothing is found behind the last byte
pub none_behind : (bytes : List ℕ) (offset : ℕ) → length bytes ≤ offset → set_at bytes offset ≡ None
unfolding set_at
none_behind bytes offset over = ap found_of (walked_short (walked_none bytes offset 5) field.Set refl (omega arith) over)

-- what one step along the sets finds, and the place behind it
abbrev pub found_by : Option Step → Option (Standing ℕ)
found_by (Some taken) = here taken.set taken.cursor.next
found_by None = None

-- a cursor with sets left finds what a reader at its place finds
pub cursor_found : (bytes : List ℕ) (next left : ℕ) → found_by (step_at bytes (cursor next (suc left))) ≡ set_at bytes next
unfolding set_at step_at
cursor_found bytes next left = cases (number_at bytes next field.Set)
  where
    cases : (r : Read ℕ) → found_by (step_on r left) ≡ found_of r
    cases (found value after) = refl
    cases (refused why) = refl

-- ---- along sets that stand one after the other

module _ (bytes : List ℕ) (end : ℕ) where
  -- the others stand behind the first
  others : (start : ℕ) (front rest : List ℕ) → Stands bytes start end (front ++ rest) → Stands bytes (start + length front) end rest
  others start front rest s = record {
    stands = behind bytes start front (rest ++ drop end bytes) (s.stands ∙ append_assoc front rest (drop end bytes));
    position = omega (arith, s.position, length-append front rest);
    inside = s.inside;
  }

  first_found : (start set : ℕ) (rest : List ℕ) → set ≤ top field.Set → Stands bytes start end (bytes_of set ++ rest) → set_at bytes start ≡ here set (start + length (bytes_of set))
  first_found start set rest allowed s =
      stands_set bytes start set (rest ++ drop end bytes) allowed (s.stands ∙ append_assoc (bytes_of set) rest (drop end bytes))

  placed : (sets : List ℕ) (start i : ℕ) → ((a : ℕ) → Memᴰ a sets → a ≤ top field.Set) → Stands bytes start end (forms_of sets) → i < length sets
      → set_at bytes (start + length (forms_of (take i sets))) ≡ here (get_or sets i 0) (start + length (forms_of (take (suc i) sets)))
  unfolding forms_of
  placed [] start i allowed s h = absurd (omega arith)
  placed (set ∷ sets) start zero allowed s h =
      ap (set_at bytes) (add-zero start) ∙ first_found start set (forms_of sets) (allowed set (Memᴰ.head refl)) s
      ∙ ap (λ (form : List ℕ). here set (start + length form)) (sym (append-nil (bytes_of set)))
  placed (set ∷ sets) start (suc i) allowed s h =
      let from : (forms : List ℕ) → start + length (bytes_of set ++ forms) ≡ start + length (bytes_of set) + length forms = λ forms. omega (arith, length-append (bytes_of set) forms) in
      ap (set_at bytes) (from (forms_of (take i sets)))
      ∙ placed sets (start + length (bytes_of set)) i (λ a m. allowed a (Memᴰ.tail m)) (others start (bytes_of set) (forms_of sets) s) (omega (arith, h))
      ∙ ap (here (get_or sets i 0)) (sym (from (forms_of (take (suc i) sets))))

  -- moved each time to where the next one starts, a reader meets them, each once and in their order
  meets : (sets : List ℕ) (start : ℕ) → ((a : ℕ) → Memᴰ a sets → a ≤ top field.Set) → Stands bytes start end (forms_of sets)
      → met_from (length sets) bytes (set_at bytes start) ≡ sets
  unfolding forms_of
  meets [] start allowed s = refl
  meets (set ∷ sets) start allowed s =
      ap (met_from (suc (length sets)) bytes) (first_found start set (forms_of sets) (allowed set (Memᴰ.head refl)) s)
      ∙ ap (λ (l : List ℕ). set ∷ l) (meets sets (start + length (bytes_of set)) (λ a m. allowed a (Memᴰ.tail m)) (others start (bytes_of set) (forms_of sets) s))

  -- and then the end, where no byte stands behind them
  meets_all : (sets : List ℕ) (start : ℕ) → ((a : ℕ) → Memᴰ a sets → a ≤ top field.Set) → Stands bytes start end (forms_of sets) → length bytes ≤ end
      → met_from (suc (length sets)) bytes (set_at bytes start) ≡ sets
  unfolding forms_of
  meets_all [] start allowed s over = ap (met_from 1 bytes) (none_behind bytes start (omega (arith, s.position, over)))
  meets_all (set ∷ sets) start allowed s over =
      ap (met_from (suc (suc (length sets))) bytes) (first_found start set (forms_of sets) (allowed set (Memᴰ.head refl)) s)
      ∙ ap (λ (l : List ℕ). set ∷ l) (meets_all sets (start + length (bytes_of set)) (λ a m. allowed a (Memᴰ.tail m)) (others start (bytes_of set) (forms_of sets) s) over)

-- ---- along an accepted record

module _ (bytes : List ℕ) (small : Bytes bytes) (d : Design) (next : ℕ) (accepted : whole_record bytes ≡ found d next) where
  allowed : (a : ℕ) → Memᴰ a d.sets → a ≤ top field.Set
  allowed a m =
      let rules = (design_read_lem bytes small d next accepted).rules in
      let inside : 2 ^ d.parts.count ≤ 2 ^ 16 = pow_mono rules.parts.rules.few in
      omega (arith, (rules.sets.within a m).0)

  -- at the first byte of each set: that set, and the first byte of the next
  pub set_placed : (i : ℕ) → i < length d.sets
      → set_at bytes ((whole_contents bytes).begin + length (forms_of (take i d.sets)))
      ≡ here (get_or d.sets i 0) ((whole_contents bytes).begin + length (forms_of (take (suc i) d.sets)))
  set_placed i h =
      let r = design_read_lem bytes small d next accepted in
      subst (λ (c : Contents). set_at bytes (c.begin + length (forms_of (take i d.sets))) ≡ here (get_or d.sets i 0) (c.begin + length (forms_of (take (suc i) d.sets)))) (sym r.contents)
      (placed bytes r.end d.sets r.begin i allowed r.stands h)

  -- moved as many times to where the next set starts, a reader meets the sets, each once and in their order
  pub reader_meets : met_from (length d.sets) bytes (set_at bytes (whole_contents bytes).begin) ≡ d.sets
  reader_meets =
      let r = design_read_lem bytes small d next accepted in
      ap (λ (c : Contents). met_from (length d.sets) bytes (set_at bytes c.begin)) r.contents
      ∙ meets bytes r.end d.sets r.begin allowed r.stands

  -- and in the stretch of the sets alone, from its first byte on, the sets and then the end
  pub stretch_meets : met_from (suc (length d.sets)) (stretch_of (whole_contents bytes) bytes) (set_at (stretch_of (whole_contents bytes) bytes) 0) ≡ d.sets
  stretch_meets =
      let forms : List ℕ = forms_of d.sets in
      let alone : Stands forms 0 (length forms) forms =
      record { stands = sym (append-nil forms) ∙ ap (λ (l : List ℕ). forms ++ l) (sym (drop-length forms)); position = omega arith; inside = omega arith } in
      ap (λ (l : List ℕ). met_from (suc (length d.sets)) l (set_at l 0)) (stretch_sets bytes small d next accepted)
      ∙ meets_all forms (length forms) d.sets 0 allowed alone (omega arith)

-- ---- along a record of edition 1

module _ (bytes : List ℕ) (small : Bytes bytes) (d : Design) (next : ℕ) (accepted : whole_stored bytes ≡ found (first d) next) where
  -- the sets are the last of it
  sets_last : (whole_contents bytes).end ≡ length bytes
  unfolding whole_contents only_record stored_bytes
  sets_last =
      let f = whole_found bytes (first d) next accepted in
      let w = stored_written bytes (first d) next small accepted in
      let read = stored_read bytes 0 [] (first d) w.0 (sym w.1 ∙ sym (append-nil (record_bytes d))) in
      let standing_here : f.here ≡ standing (first d) 0 = cc (f.read, read) in
      ap (λ (k : Read StoredAt). (contents_of (body_of k)).end) f.only ∙ ap (λ (h : StoredAt). h.end) standing_here ∙ omega (arith, ap length w.1)

  -- so a reader meets the sets and then the end
  pub reader_ends : met_from (suc (length d.sets)) bytes (set_at bytes (whole_contents bytes).begin) ≡ d.sets
  reader_ends =
      let design = stored_design bytes (first d) next accepted in
      let r = design_read_lem bytes small d next design in
      ap (λ (c : Contents). met_from (suc (length d.sets)) bytes (set_at bytes c.begin)) r.contents
      ∙ meets_all bytes r.end d.sets r.begin (allowed bytes small d next design) r.stands (omega (arith, sets_last, ap (λ (c : Contents). c.end) r.contents))
