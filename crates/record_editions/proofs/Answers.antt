-- What an answer of one of the reading functions tells of the record that stands at the bytes.
-- Assumes nothing.
use mathlib.Core.Path.{◌≡◌, refl, sym, ap, ◌∙◌, subst}
use mathlib.Core.Bool.{Bool, true, false, cond, ◌&&◌, and-false}
use mathlib.Core.List.{List, [], ◌∷◌}
use mathlib.Core.Logic.{◌⊎◌, inl, inr}
use Prim.Native.Nat.{ℕ, zero, suc, ◌+◌, ◌≤◌, ◌<◌}
use native.Mathlib.Nat.{le_of_suc-le-suc}
use native.Mathlib.Omega.{arith}
use borrow.Author.Tests.{eq-eqb, ne_eqb, lt-ltb, le-ltb}
use lib.Dec.{eqb}
use lib.ListN.{length, get_or, get_or-eq_default}
use Rattle.std.specs.Prelude.{Ok, Err}
use Rattle.numbers.proofs.Bools.{clash}
use Rattle.numbers.proofs.Bounds.{below_or_above}
use Rattle.answer.specs.Outcome.{at}
use Rattle.answer.specs.declared.Reason.TheVariants.{BytesLeft}
use Rattle.answer.specs.declared.Refusal.{Refusal}
use Rattle.codec.specs.Reads.{Read, found, refused, then, alone}
use Rattle.codec.specs.Bytes.{Bytes}
use Rattle.record_parts.specs.PartLists.{numbers_of}
use Rattle.record_parts.proofs.WellFormed.{cells_enough}
use Rattle.record_head.proofs.Answers.{not_both}
use Rattle.record_retired.specs.declared.Retired.{Retired}
use Rattle.codec.specs.declared.Standing.{Standing}
use Rattle.record_tail.specs.Tails.{tail_at, tail_of}
use Rattle.record_tail.proofs.Answers.{tail_given, tail_refused}
use Rattle.record.specs.declared.WithWords.{WithWords}
use Rattle.record.specs.Records.{Design, DesignAt, record_at}
use Rattle.record.specs.Contents.{with_words_of}
use Rattle.record.proofs.Answers.{words_contents}
use Rattle.record.proofs.RoundTrip.{record_found}
use Rattle.record_editions.specs.declared.Edition.TheVariants.{Second}
use Rattle.record_editions.specs.declared.StoredRead.{StoredRead}
use Rattle.record_editions.specs.Editions.{second, StoredAt, fresh_counts, second_there, first_at, second_at, edition_at, stored_at, only_stored, body_of, only_record}
use Rattle.record_editions.specs.Contents.{contents_at, whole_contents, whole_with_words, stored_read_of, whole_stored_read}
use Rattle.record_editions.specs.Inside.{first_read, word_counts, behind_at, second_read}
use Rattle.record_editions.proofs.Counts.{word_counts_lem}

-- ---- the numbers 0 and 2

-- a byte that is there, whatever stands in for one that is not
get_d_there : (bytes : List ℕ) (i d e : ℕ) → i < length bytes → get_or bytes i d ≡ get_or bytes i e
get_d_there [] i d e h = absurd (omega arith)
get_d_there (x ∷ bytes) zero d e h = refl
get_d_there (x ∷ bytes) (suc i) d e h = get_d_there bytes i d e (le_of_suc-le-suc h)

module _ (bytes : List ℕ) (start : ℕ) where
  pub second_short : length bytes ≤ start + 1 → second_there bytes start ≡ false
  unfolding second_there
  second_short h = rw (get_or-eq_default bytes 1 h) (and-false (eqb (get_or bytes start 1) 0))

  pub second_other : start < length bytes → (get_or bytes start 0 ≡ 0 → ⊥) → second_there bytes start ≡ false
  unfolding second_there
  second_other h other =
      ap (λ (b : Bool). b && eqb (get_or bytes (start + 1) 1) 2) (ne_eqb (get_or bytes start 1) 0 (λ e. other (get_d_there bytes start 0 1 h ∙ e)))

  pub second_asked : start + 1 < length bytes → get_or bytes start 0 ≡ 0 → eqb (get_or bytes (start + 1) 0) 2 ≡ second_there bytes start
  unfolding second_there
  second_asked h here =
      ap (λ (k : ℕ). eqb k 2) (get_d_there bytes (start + 1) 0 1 h)
      ∙ ap (λ (b : Bool). b && eqb (get_or bytes (start + 1) 1) 2) (sym (eq-eqb (get_or bytes start 1) 0 (get_d_there bytes start 1 0 (omega arith) ∙ here)))

  pub second_room : second_there bytes start ≡ true → start + 1 < length bytes
  unfolding second_there
  second_room h = cases (below_or_above (start + 1) (length bytes))
    where
      cases : (start + 1 < length bytes) ⊎ (length bytes ≤ start + 1) → start + 1 < length bytes
      cases (inl l) = l
      cases (inr over) = clash h (second_short over)

-- ---- the record at a position

-- the path counts that its words give are the fresh ones
counts : (here : DesignAt) (next : ℕ) → here.design.parts.count ≤ 16 → word_counts (with_words_of (found here next)) ≡ fresh_counts here.design
unfolding fresh_counts
counts here next few = word_counts_lem here.design.parts.count here.design.sets few

module _ (bytes : List ℕ) (start : ℕ) (w : WithWords) where
  -- edition 1
  pub first_given : second_there bytes start ≡ false → w ≡ with_words_of (record_at bytes start) → first_read w ≡ stored_read_of (stored_at bytes start)
  unfolding stored_at
  first_given other e = ap first_read e ∙ cases (record_at bytes start) ∙ ap (λ (b : Bool). stored_read_of (edition_at b bytes start)) (sym other)
    where
      cases : (read : Read DesignAt) → first_read (with_words_of read) ≡ stored_read_of (then read first_at)
      cases (found here next) = refl
      cases (refused why) = refl

  -- edition 2
  module _ (there : second_there bytes start ≡ true) (e : w ≡ with_words_of (record_at bytes (start + 2))) where
    here : stored_read_of (then (record_at bytes (start + 2)) (second_at bytes)) ≡ stored_read_of (stored_at bytes start)
    unfolding stored_at
    here = ap (λ (b : Bool). stored_read_of (edition_at b bytes start)) (sym there)

    pub second_refused : (why : Refusal) → w.contents.verdict ≡ Err why → first_read w ≡ stored_read_of (stored_at bytes start)
    second_refused why v = ap first_read e ∙ cases (record_at bytes (start + 2)) (sym (ap (λ (k : WithWords). k.contents.verdict) e) ∙ v) ∙ here
      where
        cases : (read : Read DesignAt) → (with_words_of read).contents.verdict ≡ Err why → first_read (with_words_of read) ≡ stored_read_of (then read (second_at bytes))
        cases (found here next) v = not_both refl v
        cases (refused r) v = refl

    pub second_few : Bytes bytes → w.contents.verdict ≡ Ok tt → (w.contents.list.count ≤ 16) × (w.contents.list.count ≤ length w.contents.list.numbers)
    second_few small v = subst (λ (k : WithWords). (k.contents.list.count ≤ 16) × (k.contents.list.count ≤ length k.contents.list.numbers)) (sym e) (cases (record_at bytes (start + 2)) refl (sym (ap (λ (k : WithWords). k.contents.verdict) e) ∙ v))
      where
        cases : (read : Read DesignAt) → record_at bytes (start + 2) ≡ read → (with_words_of read).contents.verdict ≡ Ok tt
            → ((with_words_of read).contents.list.count ≤ 16) × ((with_words_of read).contents.list.count ≤ length (with_words_of read).contents.list.numbers)
        cases (found here next) read v = let r = (record_found bytes (start + 2) here next small read).rules.parts in (r.rules.few, cells_enough here.design.parts r)
        cases (refused r) read v = not_both v refl

    pub second_given : Bytes bytes → w.contents.verdict ≡ Ok tt → second_read w (behind_at bytes w) ≡ stored_read_of (stored_at bytes start)
    second_given small v =
        ap (λ (k : WithWords). second_read k (behind_at bytes k)) e
        ∙ cases (record_at bytes (start + 2)) refl (sym (ap (λ (k : WithWords). k.contents.verdict) e) ∙ v)
        ∙ here
      where
        behind : (here : DesignAt) (next : ℕ) (tail : Read (List ℕ)) → second_read (with_words_of (found here next)) tail
            ≡ stored_read_of (then tail (λ retired end. found (record { stored = second here.design retired; begin = here.begin; end = here.end }) end))
        behind here next (found retired end) = refl
        behind here next (refused why) = refl

        cases : (read : Read DesignAt) → record_at bytes (start + 2) ≡ read → (with_words_of read).contents.verdict ≡ Ok tt
            → second_read (with_words_of read) (behind_at bytes (with_words_of read)) ≡ stored_read_of (then read (second_at bytes))
        cases (found here next) read v =
            let d : Design = here.design in
            let few = (record_found bytes (start + 2) here next small read).rules.parts.rules.few in
            ap (λ (l : List ℕ). second_read (with_words_of (found here next)) (tail_at bytes d.parts.mark (numbers_of d.parts) l next)) (counts here next few)
            ∙ behind here next (tail_at bytes d.parts.mark (numbers_of d.parts) (fresh_counts d) next)
        cases (refused why) read v = not_both v refl

-- ---- what stands behind the body

module _ (w : WithWords) (read : Read (List ℕ)) where
  pub behind_refused : (why : Refusal) → Err why ≡ tail_of read → first_read (with_words_of (refused why)) ≡ second_read w read
  behind_refused why e = sym (ap (second_read w) (tail_refused read why e))

  pub behind_given : (tail : Standing Retired) → Ok tail ≡ tail_of read → record { body = record { contents = record { list = w.contents.list; sets = w.contents.sets; begin = w.contents.begin; end = w.contents.end; next = tail.next; verdict = (Ok tt) }; words = w.words }; edition = Second; retired = tail.value } ≡ second_read w read
  behind_given tail e =
      let g = tail_given read tail e in
      ap (λ (r : Retired). record { body = record { contents = record { list = w.contents.list; sets = w.contents.sets; begin = w.contents.begin; end = w.contents.end; next = tail.next; verdict = (Ok tt) }; words = w.words }; edition = Second; retired = r }) g.cells
      ∙ sym (ap (second_read w) g.given)

-- ---- the contents

-- what is read has the body's words
body_words : (read : Read StoredAt) → (stored_read_of read).body ≡ with_words_of (body_of read)
body_words (found here next) = refl
body_words (refused why) = refl

pub contents_at_lem : (bytes : List ℕ) (start : ℕ) (w : StoredRead) → w ≡ stored_read_of (stored_at bytes start) → w.body.contents ≡ contents_at bytes start
unfolding contents_at
contents_at_lem bytes start w e =
    ap (λ (x : StoredRead). x.body.contents) e ∙ ap (λ (x : WithWords). x.contents) (body_words (stored_at bytes start)) ∙ words_contents (body_of (stored_at bytes start))

pub words_whole : (bytes : List ℕ) (w : StoredRead) → w ≡ whole_stored_read bytes → w.body ≡ whole_with_words bytes
unfolding whole_stored_read whole_with_words only_record
words_whole bytes w e = ap (λ (x : StoredRead). x.body) e ∙ body_words (only_stored bytes)

pub contents_whole : (bytes : List ℕ) (w : WithWords) → w ≡ whole_with_words bytes → w.contents ≡ whole_contents bytes
unfolding whole_contents whole_with_words
contents_whole bytes w e = ap (λ (x : WithWords). x.contents) e ∙ words_contents (only_record bytes)

-- ---- 25, after the record

module _ (bytes : List ℕ) where
  left_refused : (read : Read StoredAt) (why : Refusal) → (stored_read_of read).body.contents.verdict ≡ Err why → stored_read_of read ≡ stored_read_of (then read (alone bytes))
  left_refused (refused r) why v = refl
  left_refused (found here next) why v = not_both refl v

  left_some : (read : Read StoredAt) → (stored_read_of read).body.contents.verdict ≡ Ok tt → (stored_read_of read).body.contents.next < length bytes
      → stored_read_of (refused (at BytesLeft (stored_read_of read).body.contents.next)) ≡ stored_read_of (then read (alone bytes))
  left_some (refused r) v h = not_both v refl
  left_some (found here next) v h = sym (ap (λ (t : Bool). stored_read_of (cond t (refused (at BytesLeft next)) (found here next))) (lt-ltb next (length bytes) h))

  left_none : (read : Read StoredAt) → (stored_read_of read).body.contents.verdict ≡ Ok tt → length bytes ≤ (stored_read_of read).body.contents.next
      → stored_read_of read ≡ stored_read_of (then read (alone bytes))
  left_none (refused r) v h = not_both v refl
  left_none (found here next) v h = sym (ap (λ (t : Bool). stored_read_of (cond t (refused (at BytesLeft next)) (found here next))) (le-ltb next (length bytes) h))

module _ (bytes : List ℕ) (w : StoredRead) (read : w ≡ stored_read_of (stored_at bytes 0)) where
  pub whole_refused : (why : Refusal) → w.body.contents.verdict ≡ Err why → w ≡ whole_stored_read bytes
  unfolding whole_stored_read only_stored
  whole_refused why v = read ∙ left_refused bytes (stored_at bytes 0) why (sym (ap (λ (k : StoredRead). k.body.contents.verdict) read) ∙ v)

  pub whole_left : w.body.contents.verdict ≡ Ok tt → w.body.contents.next < length bytes → first_read (with_words_of (refused (at BytesLeft w.body.contents.next))) ≡ whole_stored_read bytes
  unfolding whole_stored_read only_stored
  whole_left v h =
      ap (λ (k : StoredRead). stored_read_of (refused (at BytesLeft k.body.contents.next))) read
      ∙ left_some bytes (stored_at bytes 0) (sym (ap (λ (k : StoredRead). k.body.contents.verdict) read) ∙ v) (subst (λ (k : StoredRead). k.body.contents.next < length bytes) read h)

  pub whole_alone : w.body.contents.verdict ≡ Ok tt → length bytes ≤ w.body.contents.next → w ≡ whole_stored_read bytes
  unfolding whole_stored_read only_stored
  whole_alone v h =
      read ∙ left_none bytes (stored_at bytes 0) (sym (ap (λ (k : StoredRead). k.body.contents.verdict) read) ∙ v) (subst (λ (k : StoredRead). length bytes ≤ k.body.contents.next) read h)
