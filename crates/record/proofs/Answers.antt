-- What an answer of one of the reading functions tells of what stands at the bytes.
-- Assumes nothing.
use mathlib.Core.Path.{◌≡◌, refl, sym, ap, ap₂, ◌∙◌, subst}
use mathlib.Core.Bool.{◌&&◌, and-false}
use mathlib.Core.List.{List, [], Memᴰ}
use Prim.Native.Nat.{ℕ, ◌^◌, ◌≤◌, min}
use native.Mathlib.Nat.{zero-add}
use lib.Dec.{ltb}
use lib.ListN.{length, replicate}
use Rattle.std.specs.Prelude.{Ok, Err}
use Rattle.answer.specs.Outcome.{Verdict}
use Rattle.answer.specs.declared.Refusal.{Refusal}
use Rattle.codec.specs.declared.Field.TheVariants.{Set}
use Rattle.codec.specs.Reads.{Read, found, refused}
use Rattle.codec.proofs.FieldReads.{fields_counted}
use Rattle.record.specs.declared.SetsRead.{SetsRead}
use Rattle.record_head.specs.Headings.{Head, head_at}
use Rattle.record.specs.Records.{set_refusal, sets_at, DesignAt, record_at}
use Rattle.record.specs.Contents.{contents_of, structure_words, with_words_of}
use Rattle.record.specs.Inside.{sets_read_of, passed, Pass, rising_at, decided}
use Rattle.theory_sets.specs.Structures.{listed}
use Rattle.structure_words.specs.Words.{in_words, words_of, among}
use Rattle.structure_words.proofs.Words.{words_of_none}
use Rattle.structure_closure.specs.Closure.{spread}
use Rattle.structure.proofs.Walks.{listed_words}
use Rattle.record.proofs.Marking.{climb}
use Rattle.record_head.proofs.Answers.{not_both}

-- ---- the sets

-- the sets that an accepting answer speaks of
pub record SetsGiven (n : ℕ) (read : Read (List ℕ)) (answer : SetsRead) : Type 0 where
  pub sets : List ℕ
  pub given : read ≡ found sets answer.end
  pub words : answer.words ≡ structure_words n sets

pub sets_given : (n : ℕ) (read : Read (List ℕ)) (answer : SetsRead) → answer ≡ sets_read_of n read → answer.verdict ≡ Ok tt → SetsGiven n read answer
sets_given n (found sets end) answer e v =
    record { sets = sets; given = ap (found sets) (sym (ap (λ (s : SetsRead). s.end) e)); words = ap (λ (s : SetsRead). s.words) e }
sets_given n (refused why) answer e v = not_both v (ap (λ (s : SetsRead). s.verdict) e)

pub sets_refused : (n : ℕ) (read : Read (List ℕ)) (answer : SetsRead) (why : Refusal) → answer ≡ sets_read_of n read → answer.verdict ≡ Err why → read ≡ refused why
sets_refused n (found sets end) answer why e v = not_both (ap (λ (s : SetsRead). s.verdict) e) v
sets_refused n (refused r) answer why e v = let same : Err r ≡ Err why = sym (ap (λ (s : SetsRead). s.verdict) e) ∙ v in cc same

-- ---- the sets, from the two passes

pub decided_nested : (v : Verdict) (pass : Pass) (why : Refusal) → v ≡ Err why → decided v pass ≡ refused why
decided_nested v pass why e = ap (λ (w : Verdict). decided w pass) e

pub decided_refused : (v : Verdict) (pass : Pass) (why : Refusal) → v ≡ Ok tt → pass.verdict ≡ Err why → decided v pass ≡ refused why
decided_refused v pass why e d = ap (λ (w : Verdict). decided w pass) e ∙ ap (λ (w : Verdict). decided (Ok tt) (passed pass.sets pass.next w)) d

pub decided_given : (v : Verdict) (pass : Pass) → v ≡ Ok tt → pass.verdict ≡ Ok tt → decided v pass ≡ found pass.sets pass.next
decided_given v pass e d = ap (λ (w : Verdict). decided w pass) e ∙ ap (λ (w : Verdict). decided (Ok tt) (passed pass.sets pass.next w)) d

-- ---- the words

-- zeros are the words of no set
pub no_words : replicate 1024 0 ≡ structure_words 0 []
unfolding listed
no_words = words_of_none (λ a. ltb a (2 ^ 0) && listed [] a) (λ a. and-false (ltb a (2 ^ 0)))

-- the sets that the first pass marks, carried over the parts, are the words of their structure
pub pass_words : (bytes : List ℕ) (n count start : ℕ) → n ≤ 16
    → words_of (spread (min n 16) (in_words (words_of (among (rising_at bytes n count [] start).sets)))) ≡ structure_words n (rising_at bytes n count [] start).sets
pass_words bytes n count start few =
    let c = climb bytes n count [] start in
    listed_words n (rising_at bytes n count [] start).sets few (λ a m. (c.within a (subst (Memᴰ a) c.behind_earlier m)).0)

-- ---- the record, from what stands before the sets and the sets

module _ (bytes : List ℕ) (start : ℕ) where
  pub record_no_head : (why : Refusal) → head_at bytes start ≡ refused why → record_at bytes start ≡ refused why
  unfolding record_at
  record_no_head why e = rw e

  module _ (head : Head) (begin : ℕ) where
    pub record_no_sets : (why : Refusal) → head_at bytes start ≡ found head begin → sets_at bytes head.parts.count head.count [] begin ≡ refused why → record_at bytes start ≡ refused why
    unfolding record_at
    record_no_sets why e d = rw (e, d)

    pub record_given : (sets : List ℕ) (end : ℕ) (words : List ℕ) → head_at bytes start ≡ found head begin → sets_at bytes head.parts.count head.count [] begin ≡ found sets end
        → words ≡ structure_words head.parts.count sets
        → record { contents = record { list = head.parts; sets = head.count; begin = begin; end = end; next = end; verdict = (Ok tt) }; words = words } ≡ with_words_of (record_at bytes start)
    unfolding record_at
    record_given sets end words e d w =
        let counted : head.count ≡ length sets = sym (fields_counted bytes Set (set_refusal head.parts.count) head.count [] begin sets end d ∙ zero-add head.count) in
        ap₂ (λ (k : ℕ) (ws : List ℕ). record { contents = record { list = head.parts; sets = k; begin = begin; end = end; next = end; verdict = (Ok tt) }; words = ws }) counted w
        ∙ rw (e, d)

-- the contents are those beside the words
pub words_contents : (read : Read DesignAt) → (with_words_of read).contents ≡ contents_of read
words_contents (found here next) = refl
words_contents (refused why) = refl
